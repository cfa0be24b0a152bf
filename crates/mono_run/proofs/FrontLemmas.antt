-- The front of a script: how it continues, which line is the first bad one after it, and when it is a whole script.
use Rattle.std.proofs.Common.{◌≡◌, ℕ, ◌+◌, ◌-◌, ◌^◌, ◌<◌, ◌≤◌, inl, inr, List, [], ◌∷◌, ◌++◌, length, map, take, flat_map, Option, Some, None, refl, sym, ap, subst, ◌∙◌, arith, append_assoc, length-append, codes, lit<, lit≤, get_or, drop}
use Rattle.std.proofs.lemmas.Bool.{cases_lt}
use Rattle.std.proofs.lemmas.List.{append-nil, map-append, length-map}
use Rattle.std.proofs.lemmas.Grind.{flat_map-append}
use Rattle.std.proofs.Math.Seq.{take-append_seam, take-append-add}
use Rattle.mono_machine.specs.declared.events.Limits.{Limits}
use Rattle.mono_text.specs.LineText.{FitLimits}
use Rattle.mono_text.specs.Lines.{Line, lines}
use Rattle.mono_text.specs.Services.{HasNoFeed}
use Rattle.mono_run.specs.Beginnings.{Begins, IsFirstOut, wrong, missing}
use Rattle.mono_run.specs.Script.{Kind, Script, MayStand, AllMayStand, IsSoundKind, AreSoundKinds, IsSound}
use Rattle.mono_run.specs.LineOrder.{MayFollow, goes_on, ends, done_text, front_texts}
use Rattle.mono_run.specs.ScriptText.{body_text, kind_texts, script_texts, limits_text, ended, task_lines, IsScript, IsFirstBad, Spells}
use Rattle.mono_run.specs.declared.scripts.body.BodyLine.{BodyLine}
use Rattle.mono_run.proofs.ScriptTextLemmas.{AllFit, AllKindsFit, kinds_fit, all_may_fit, between, kinds_front, kind_split, texts_front, no_done, head_same, tail_same}
use Rattle.mono_run.proofs.FirstBadLineLemmas.{bad_in_kind, begins, sound_more}
use Rattle.mono_run.proofs.ExampleLemmas.{three_lines}
use Rattle.mono_run.specs.Fronts.{Front, front, begun, inside_texts, texts_of, Continues, ContinuesNever, IsSoundInside, IsSoundFront, script_of}
use Rattle.std.proofs.Common.{◌⊎◌}
use Rattle.std.specs.Fmt.{decimal}
use Rattle.mono_run.proofs.ScriptTextLemmas.{body_once, may_fit}
use Rattle.mono_run.proofs.ScriptTextLemmas as texts
use Rattle.mono_run.specs.declared.scripts.body.BodyLine.TheVariants as body
use Rattle.mono_run.specs.Parser.{Fits}
use Rattle.mono_run.specs.Fronts as fronts
use Rattle.mono_run.proofs.LineCutLemmas.{line_front, unended}

-- ---- one more line

may_more : (kinds : ℕ) (before bs : List BodyLine) (c : BodyLine) → AllMayStand kinds before bs → MayStand kinds (before ++ bs) c → AllMayStand kinds before (bs ++ c ∷ [])
may_more kinds before [] c m s = (subst (λ x. MayStand kinds x c) (append-nil before) s, tt)
may_more kinds before (b ∷ bs) c m s = (m.0, may_more kinds (before ++ b ∷ []) bs c m.1 (subst (λ x. MayStand kinds x c) (sym (append_assoc before (b ∷ []) bs)) s))

abbrev Goes : ℕ → Front → List ℕ → Front → Type 0
Goes kinds f text g = IsSoundFront kinds g × (texts_of g ≡ texts_of f ++ text ∷ [])

opened : (kinds : ℕ) (x : Limits) (ks : List Kind) → IsSoundFront kinds (front x ks None) → length ks < 64 → Goes kinds (front x ks None) (codes "task") (front x ks (Some []))
opened kinds x ks sound few = (
  record { limits = sound.limits; each = sound.each; inside = (few, omega arith, tt) },
  ap (λ r. limits_text x ∷ (r ++ codes "task" ∷ [])) (sym (append-nil (flat_map kind_texts ks))),
)

one_more_line : (kinds : ℕ) (x : Limits) (ks : List Kind) (bs : List BodyLine) (c : BodyLine) → IsSoundFront kinds (front x ks (Some bs)) → MayStand kinds bs c → length bs < 127
    → Goes kinds (front x ks (Some bs)) (body_text c) (front x ks (Some (bs ++ c ∷ [])))
one_more_line kinds x ks bs c sound may short = (
  record { limits = sound.limits; each = sound.each; inside = (sound.inside.0, omega (arith, short, length-append bs (c ∷ [])), may_more kinds [] bs c sound.inside.2 may) },
  ap (λ r. limits_text x ∷ (flat_map kind_texts ks ++ codes "task" ∷ r)) (map-append body_text bs (c ∷ []))
      ∙ ap (λ r. limits_text x ∷ r) (sym (append_assoc (flat_map kind_texts ks) (codes "task" ∷ map body_text bs) (body_text c ∷ []))),
)

closed : (kinds : ℕ) (x : Limits) (ks : List Kind) (bs : List BodyLine) (o : ℕ) → IsSoundFront kinds (front x ks (Some bs)) → o < 2 ^ 64
    → Goes kinds (front x ks (Some bs)) (done_text o) (front x (ks ++ record { body = bs; output = o } ∷ []) None)
closed kinds x ks bs o sound fits =
    let k : Kind = record { body = bs; output = o } in
    let all : flat_map kind_texts (ks ++ k ∷ []) ≡ flat_map kind_texts ks ++ kind_texts k = flat_map-append kind_texts ks (k ∷ []) ∙ ap (λ r. flat_map kind_texts ks ++ r) (append-nil (kind_texts k)) in
    let text : flat_map kind_texts (ks ++ k ∷ []) ++ [] ≡ (flat_map kind_texts ks ++ codes "task" ∷ map body_text bs) ++ done_text o ∷ [] =
    append-nil (flat_map kind_texts (ks ++ k ∷ [])) ∙ all ∙ sym (append_assoc (flat_map kind_texts ks) (codes "task" ∷ map body_text bs) (done_text o ∷ [])) in (
      record { limits = sound.limits; each = sound_more kinds ks k sound.each (record { few = sound.inside.1; each = sound.inside.2; output = fits }); inside = omega (arith, sound.inside.0, length-append ks (k ∷ [])) },
      ap (λ r. limits_text x ∷ r) text,
    )

-- a front whose inside is known
with_known : (f : Front) (inside : Option (List BodyLine)) → f.inside ≡ inside → f ≡ front f.limits f.kinds inside
with_known f inside e = ap (λ i. front f.limits f.kinds i) e

pub one_line : (kinds : ℕ) (f g : Front) (text : List ℕ) → IsSoundFront kinds f → Continues kinds f text g → Goes kinds f text g
one_line kinds f g text sound (fronts.opens i t few e) =
    let is = with_known f None i in
    let at = opened kinds f.limits f.kinds (subst (IsSoundFront kinds) is sound) few in
    subst (λ y. Goes kinds f text y) (sym e) (subst (λ z. Goes kinds f z (front f.limits f.kinds (Some []))) (sym t) (subst (λ y. Goes kinds y (codes "task") (front f.limits f.kinds (Some []))) (sym is) at))
one_line kinds f g text sound (fronts.goes_on bs c i t may short e) =
    let is = with_known f (Some bs) i in
    let h = front f.limits f.kinds (Some (bs ++ c ∷ [])) in
    let at = one_more_line kinds f.limits f.kinds bs c (subst (IsSoundFront kinds) is sound) may short in
    subst (λ y. Goes kinds f text y) (sym e) (subst (λ z. Goes kinds f z h) (sym t) (subst (λ y. Goes kinds y (body_text c) h) (sym is) at))
one_line kinds f g text sound (fronts.closes bs o i t fits e) =
    let is = with_known f (Some bs) i in
    let h = front f.limits (f.kinds ++ record { body = bs; output = o } ∷ []) None in
    let at = closed kinds f.limits f.kinds bs o (subst (IsSoundFront kinds) is sound) fits in
    subst (λ y. Goes kinds f text y) (sym e) (subst (λ z. Goes kinds f z h) (sym t) (subst (λ y. Goes kinds y (done_text o) h) (sym is) at))

-- ---- the first bad line

minus_one : (n : ℕ) → n + 1 - 1 ≡ n
minus_one n = omega arith

-- whole kinds can be gone on with
begins_between : (kinds : ℕ) (x : Limits) (ks : List Kind) → FitLimits x → AreSoundKinds kinds ks → length ks ≤ 64 → Begins (IsScript kinds) (map ended (limits_text x ∷ flat_map kind_texts ks))
begins_between kinds x ks fit sound few = elim (cases_lt (length ks) 64) [
  | inl less ↦
      let b = begins kinds x ks [] fit sound tt less (omega arith) in
      let text : map ended (front_texts x ks []) ≡ map ended (limits_text x ∷ flat_map kind_texts ks) ++ ended (codes "task") ∷ [] = map-append ended (limits_text x ∷ flat_map kind_texts ks) (codes "task" ∷ []) in
      (ended (codes "task") ∷ b.0, subst (IsScript kinds) (ap (λ r. r ++ b.0) text ∙ append_assoc (map ended (limits_text x ∷ flat_map kind_texts ks)) (ended (codes "task") ∷ []) b.0) b.1)
  | inr more ↦
      let good : IsSound kinds (record { limits = x; kinds = ks }) = record { limits = fit; some = omega (arith, more); few = few; each = sound } in
      ([], (record { limits = x; kinds = ks }, good, append-nil (map ended (limits_text x ∷ flat_map kind_texts ks))))
]

bad_between : (input : List ℕ) (x : Limits) (ks : List Kind) (l : Line) (rest : List Line) → FitLimits x → AreSoundKinds (task_lines (lines input)) ks → length ks ≤ 64
    → lines input ≡ map ended (limits_text x ∷ flat_map kind_texts ks) ++ l ∷ rest → (l ≡ ended (codes "task") → length ks < 64 → ⊥)
    → IsFirstBad input (length (map ended (limits_text x ∷ flat_map kind_texts ks)) + 1)
bad_between input x ks l rest fit sound few split none =
    let kinds = task_lines (lines input) in
    let all = map ended (limits_text x ∷ flat_map kind_texts ks) in
    let n = length all in
    let before : take (n + 1 - 1) (lines input) ≡ all = ap (λ m. take m (lines input)) (minus_one n) ∙ ap (take n) split ∙ take-append_seam all (l ∷ rest) in
    let upto : take (n + 1) (lines input) ≡ all ++ l ∷ [] = ap (take (n + 1)) split ∙ take-append-add all (l ∷ rest) 1 in
    wrong (omega arith) (omega (arith, ap length split, length-append all (l ∷ rest)))
    (subst (Begins (IsScript kinds)) (sym before) (begins_between kinds x ks fit sound few))
    (λ b.
    let goes : IsScript kinds (all ++ l ∷ b.0) = subst (IsScript kinds) (ap (λ r. r ++ b.0) upto ∙ append_assoc all (l ∷ []) b.0) b.1 in
    let k = between kinds x ks l b.0 (kinds_fit kinds ks sound) goes in
    none k.0 k.1)

same_count : (texts : List (List ℕ)) → length (map ended texts) ≡ length texts
same_count texts = length-map texts ended

-- Behind a sound front, a line that does not take it on is the first bad one.
bad_by : (input : List ℕ) (x : Limits) (ks : List Kind) (inside : Option (List BodyLine)) (l : Line) (rest : List Line) → IsSoundFront (task_lines (lines input)) (front x ks inside)
    → lines input ≡ map ended (texts_of (front x ks inside)) ++ l ∷ rest → ((text : List ℕ) → l ≡ ended text → ContinuesNever (task_lines (lines input)) (front x ks inside) text)
    → IsFirstBad input (length (texts_of (front x ks inside)) + 1)
bad_by input x ks None l rest sound split never =
    let texts = limits_text x ∷ flat_map kind_texts ks in
    let same : texts_of (front x ks None) ≡ texts = ap (λ r. limits_text x ∷ r) (append-nil (flat_map kind_texts ks)) in
    let b = bad_between input x ks l rest sound.limits sound.each sound.inside (split ∙ ap (λ t. map ended t ++ l ∷ rest) same)
    (λ is few. never (codes "task") is (front x ks (Some [])) (fronts.opens refl refl few refl)) in
    subst (λ n. IsFirstBad input (n + 1)) (same_count texts ∙ ap length (sym same)) b
bad_by input x ks (Some bs) l rest sound split never =
    let b = bad_in_kind input x ks bs l rest sound.limits sound.each sound.inside.2 sound.inside.0 sound.inside.1 split never_follows in
    subst (λ n. IsFirstBad input (n + 1)) (same_count (front_texts x ks bs)) b
  where
    never_follows : MayFollow (task_lines (lines input)) bs l → ⊥
    never_follows (goes_on c is may short) = never (body_text c) is (front x ks (Some (bs ++ c ∷ []))) (fronts.goes_on bs c refl refl may short refl)
    never_follows (ends o is fits) = never (done_text o) is (front x (ks ++ record { body = bs; output = o } ∷ []) None) (fronts.closes bs o refl refl fits refl)

-- the front that nothing was read of
begins_nothing : (kinds : ℕ) → Begins (IsScript kinds) []
begins_nothing kinds =
    let x : Limits = record { tasks = 0; jobs = 0; sleeps = 0 } in
    let b = begins kinds x [] [] (record { tasks = lit< tt; jobs = lit< tt; sleeps = lit< tt }) tt tt (lit< tt) (omega arith) in
    (map ended (front_texts x [] []) ++ b.0, b.1)

pub bad_first : (input : List ℕ) (l : Line) (rest : List Line) → lines input ≡ l ∷ rest → ((x : Limits) → FitLimits x → l ≡ ended (limits_text x) → ⊥) → IsFirstBad input 1
bad_first input l rest split none =
    let kinds = task_lines (lines input) in
    let upto : take 1 (lines input) ≡ l ∷ [] = ap (take 1) split in
    wrong (lit≤ tt) (omega (arith, ap length split)) (begins_nothing kinds)
    (λ b.
    let s = b.1 in
    let first : l ∷ b.0 ≡ ended (limits_text s.0.limits) ∷ map ended (flat_map kind_texts s.0.kinds) = sym (ap (λ r. r ++ b.0) upto) ∙ s.2 in
    none s.0.limits s.1.limits (ap (λ zs. get_or zs 0 l) first))

-- ---- a line that is missing

not_whole : (bs cs : List BodyLine) (o : ℕ) (r : List (List ℕ)) → AllFit bs → AllFit cs → map body_text bs ≡ map body_text cs ++ done_text o ∷ r → ⊥
not_whole [] [] o r f g e = omega (arith, ap length e)
not_whole [] (c ∷ cs) o r f g e = omega (arith, ap length e)
not_whole (b ∷ bs) [] o r f g e = no_done b o f.0 (head_same (body_text b) (done_text o) (map body_text bs) r e)
not_whole (b ∷ bs) (c ∷ cs) o r f g e = not_whole bs cs o r f.1 g.1 (tail_same (body_text b) (body_text c) (map body_text bs) (map body_text cs ++ done_text o ∷ r) e)

in_kinds_whole : (kinds : ℕ) (js : List Kind) (bs : List BodyLine) → AllFit bs → AllKindsFit js → codes "task" ∷ map body_text bs ≡ flat_map kind_texts js → ⊥
in_kinds_whole kinds [] bs f g e = omega (arith, ap length e)
in_kinds_whole kinds (j ∷ js) bs f g e = not_whole bs j.body j.output (flat_map kind_texts js) f g.0.0 (ap (drop 1) (e ∙ kind_split j (flat_map kind_texts js)))

fit_rest : (ks js : List Kind) → AllKindsFit (ks ++ js) → AllKindsFit js
fit_rest [] js f = f
fit_rest (k ∷ ks) js f = fit_rest ks js f.1

no_script_inside : (kinds : ℕ) (x : Limits) (ks : List Kind) (bs : List BodyLine) → AllKindsFit ks → AllFit bs → IsScript kinds (map ended (front_texts x ks bs)) → ⊥
no_script_inside kinds x ks bs fk fb script =
    let s = script.0 in
    let texts = front_texts x ks bs in
    let k = texts_front texts [] (script_texts s) (append-nil (map ended texts) ∙ script.2) in
    let none : k.0 ≡ [] = no_more k.0 k.2 in
    let same : script_texts s ≡ texts = k.1 ∙ ap (λ r. texts ++ r) none ∙ append-nil texts in
    let behind : flat_map kind_texts s.kinds ≡ flat_map kind_texts ks ++ codes "task" ∷ map body_text bs = ap (drop 1) same in
    let all = kinds_fit kinds s.kinds script.1.each in
    let f = kinds_front ks s.kinds (codes "task" ∷ map body_text bs) fk all (sym behind) in
    in_kinds_whole kinds f.0 bs fb (fit_rest ks f.0 (subst AllKindsFit f.1 all)) f.2
  where
    no_more : (r : List (List ℕ)) → [] ≡ map ended r → r ≡ []
    no_more [] e = refl
    no_more (t ∷ r) e = absurd (omega (arith, ap length e))

missing_by : (input : List ℕ) (x : Limits) (ks : List Kind) (inside : Option (List BodyLine)) → IsSoundFront (task_lines (lines input)) (front x ks inside)
    → lines input ≡ map ended (texts_of (front x ks inside)) → (inside ≡ None → length ks ≡ 0) → IsFirstBad input (length (texts_of (front x ks inside)) + 1)
missing_by input x ks (Some bs) sound all none =
    let kinds = task_lines (lines input) in
    missing (ap (λ n. n + 1) (sym (same_count (front_texts x ks bs)) ∙ ap length (sym all)))
    (subst (Begins (IsScript kinds)) (sym all) (begins kinds x ks bs sound.limits sound.each sound.inside.2 sound.inside.0 sound.inside.1))
    (λ script. no_script_inside kinds x ks bs (kinds_fit kinds ks sound.each) (all_may_fit kinds [] bs sound.inside.2) (subst (IsScript kinds) all script))
missing_by input x [] None sound all none =
    let kinds = task_lines (lines input) in
    missing (ap (λ n. n + 1) (sym (same_count (texts_of (front x [] None))) ∙ ap length (sym all)))
    (subst (Begins (IsScript kinds)) (sym all) (begins_between kinds x [] sound.limits tt (omega arith)))
    (λ script. omega (arith, three_lines script.0 script.1.some, ap length (sym script.2), ap length all))
missing_by input x (k ∷ ks) None sound all none = absurd (omega (arith, none refl))

pub missing_first : (input : List ℕ) → length input ≡ 0 → IsFirstBad input 1
missing_first [] e = missing refl (begins_nothing 0) (λ script. omega (arith, ap length script.2))
missing_first (b ∷ input) e = absurd (omega (arith, e))

-- ---- the part that was read so far

pub record Progress (input : List ℕ) (kinds : ℕ) (f : Front) (count : ℕ) (rest : List ℕ) : Type 0 where
  pub kinds_are : kinds ≡ task_lines (lines input)
  pub split : lines input ≡ map ended (texts_of f) ++ lines rest
  pub sound : IsSoundFront kinds f
  pub counted : count ≡ length (texts_of f)
  pub shorter : count + length rest ≤ length input

pub first_read : (input : List ℕ) (kinds : ℕ) (x : Limits) (f : Front) (text rest : List ℕ) → kinds ≡ task_lines (lines input) → input ≡ text ++ 10 ∷ rest → HasNoFeed text → text ≡ limits_text x → FitLimits x → f ≡ begun x
    → Progress input kinds f 1 rest
first_read input kinds x f text rest all cut none is fit begins_so =
    subst (λ g. Progress input kinds g 1 rest) (sym begins_so) (record {
      kinds_are = all;
      split = ap lines cut ∙ line_front text rest none ∙ ap (λ t. ended t ∷ lines rest) is;
      sound = record { limits = fit; each = tt; inside = omega arith };
      counted = refl;
      shorter = omega (arith, ap length cut, length-append text (10 ∷ rest));
    })

pub next_read : (input : List ℕ) (kinds : ℕ) (f g : Front) (count : ℕ) (rest text behind : List ℕ) → Progress input kinds f count rest → rest ≡ text ++ 10 ∷ behind → HasNoFeed text → Continues kinds f text g
    → Progress input kinds g (count + 1) behind
next_read input kinds f g count rest text behind p cut none goes =
    let k = one_line kinds f g text p.sound goes in
    let line : lines rest ≡ ended text ∷ lines behind = ap lines cut ∙ line_front text behind none in
    record {
      kinds_are = p.kinds_are;
      split = p.split ∙ ap (λ r. map ended (texts_of f) ++ r) line ∙ sym (append_assoc (map ended (texts_of f)) (ended text ∷ []) (lines behind)) ∙ ap (λ r. r ++ lines behind) (sym (map-append ended (texts_of f) (text ∷ [])) ∙ ap (map ended) (sym k.1));
      sound = k.0;
      counted = omega (arith, p.counted, ap length k.1, length-append (texts_of f) (text ∷ []));
      shorter = omega (arith, p.shorter, ap length cut, length-append text (10 ∷ behind));
    }

pub bad_next : (input : List ℕ) (kinds : ℕ) (f : Front) (count : ℕ) (rest text behind : List ℕ) → Progress input kinds f count rest → rest ≡ text ++ 10 ∷ behind → HasNoFeed text → ContinuesNever kinds f text
    → IsFirstBad input (count + 1)
bad_next input kinds f count rest text behind p cut none never =
    let line : lines rest ≡ ended text ∷ lines behind = ap lines cut ∙ line_front text behind none in
    let b = bad_by input f.limits f.kinds f.inside (ended text) (lines behind) (subst (λ k. IsSoundFront k f) p.kinds_are p.sound) (p.split ∙ ap (λ r. map ended (texts_of f) ++ r) line)
    (λ t e. subst (λ z. ContinuesNever (task_lines (lines input)) f z) (ap (λ (l : Line). l.bytes) e) (subst (λ k. ContinuesNever k f text) p.kinds_are never)) in
    subst (λ n. IsFirstBad input (n + 1)) (sym p.counted) b

pub unended_next : (input : List ℕ) (kinds : ℕ) (f : Front) (count : ℕ) (rest : List ℕ) → Progress input kinds f count rest → HasNoFeed rest → (length rest ≡ 0 → ⊥) → IsFirstBad input (count + 1)
unended_next input kinds f count rest p none some =
    let u = unended rest none some in
    let b = bad_by input f.limits f.kinds f.inside u.first u.more (subst (λ k. IsSoundFront k f) p.kinds_are p.sound) (p.split ∙ ap (λ r. map ended (texts_of f) ++ r) u.are)
    (λ t e. absurd (u.not_ended t e)) in
    subst (λ n. IsFirstBad input (n + 1)) (sym p.counted) b

at_end : (input rest : List ℕ) (texts : List (List ℕ)) → lines input ≡ map ended texts ++ lines rest → length rest ≡ 0 → lines input ≡ map ended texts
at_end input [] texts e none = e ∙ append-nil (map ended texts)
at_end input (b ∷ rest) texts e none = absurd (omega (arith, none))

pub missing_next : (input : List ℕ) (kinds : ℕ) (f : Front) (count : ℕ) (rest : List ℕ) → Progress input kinds f count rest → length rest ≡ 0 → (f.inside ≡ None → length f.kinds ≡ 0) → IsFirstBad input (count + 1)
missing_next input kinds f count rest p none no_kind =
    let b = missing_by input f.limits f.kinds f.inside (subst (λ k. IsSoundFront k f) p.kinds_are p.sound) (at_end input rest (texts_of f) p.split none) no_kind in
    subst (λ n. IsFirstBad input (n + 1)) (sym p.counted) b

pub whole_script : (input : List ℕ) (kinds : ℕ) (f : Front) (count : ℕ) (rest : List ℕ) → Progress input kinds f count rest → length rest ≡ 0 → f.inside ≡ None → 1 ≤ length f.kinds → Spells input (script_of f)
whole_script input kinds f count rest p none closed_so some =
    let inside : IsSoundInside kinds (length f.kinds) None = subst (IsSoundInside kinds (length f.kinds)) closed_so p.sound.inside in
    let texts : texts_of f ≡ script_texts (script_of f) = ap (λ i. limits_text f.limits ∷ (flat_map kind_texts f.kinds ++ inside_texts i)) closed_so ∙ ap (λ r. limits_text f.limits ∷ r) (append-nil (flat_map kind_texts f.kinds)) in
    record {
      sound = subst (λ k. IsSound k (script_of f)) p.kinds_are (record { limits = p.sound.limits; some = some; few = inside; each = p.sound.each });
      text = at_end input rest (texts_of f) p.split none ∙ ap (map ended) texts;
    }

-- a first line that is not there
pub unended_first : (input : List ℕ) → HasNoFeed input → IsFirstBad input 1
unended_first [] none = missing_first [] refl
unended_first (b ∷ input) none =
    let u = unended (b ∷ input) none (λ e. omega (arith, e)) in
    bad_first (b ∷ input) u.first u.more u.are (λ x fit e. u.not_ended (limits_text x) e)

pub wrong_first : (input text rest : List ℕ) → input ≡ text ++ 10 ∷ rest → HasNoFeed text → ((x : Limits) → FitLimits x → text ≡ limits_text x → ⊥) → IsFirstBad input 1
wrong_first input text rest cut none other =
    bad_first input (ended text) (lines rest) (ap lines cut ∙ line_front text rest none) (λ x fit e. other x fit (ap (λ (l : Line). l.bytes) e))

-- ---- the effect of a line on a front, as the code has it

pub same_front : (f : Front) (bs : List BodyLine) → f.inside ≡ Some bs → front f.limits f.kinds (Some bs) ≡ f
same_front f bs e = sym (with_known f (Some bs) e)

pub closes_so : (kinds : ℕ) (f g : Front) (text : List ℕ) (bs : List BodyLine) (o : ℕ) → text ≡ codes "done " ++ decimal o → o < 2 ^ 64
    → g.limits ≡ f.limits → g.kinds ≡ f.kinds ++ record { body = bs; output = o } ∷ [] → g.inside ≡ None → Continues kinds (front f.limits f.kinds (Some bs)) text g
closes_so kinds f g text bs o is fits l k i = fronts.closes bs o refl is fits (λ t. record { limits = l t; kinds = k t; inside = i t })

pub goes_on_so : (kinds : ℕ) (f g : Front) (text : List ℕ) (bs : List BodyLine) (c : BodyLine) → text ≡ body_text c → MayStand kinds bs c → length bs < 127
    → g.limits ≡ f.limits → g.kinds ≡ f.kinds → g.inside ≡ Some (bs ++ c ∷ []) → Continues kinds (front f.limits f.kinds (Some bs)) text g
goes_on_so kinds f g text bs c is may short l k i = fronts.goes_on bs c refl is may short (λ t. record { limits = l t; kinds = k t; inside = i t })

same_fits : (l : BodyLine) → Fits l → texts.Fits l
same_fits (body.Spawn k) f = f
same_fits (body.Join i) f = f
same_fits (body.Detach i) f = f
same_fits (body.AwaitSleep n) f = f
same_fits (body.Block o) f = f
same_fits (body.AwaitJob i) f = f
same_fits (body.DropJob i) f = f
same_fits body.Yield f = tt

some_same : (bs cs : List BodyLine) → ◌≡◌ {A = Option (List BodyLine)} (Some bs) (Some cs) → bs ≡ cs
some_same bs cs e = grind (arith, e)

-- a body line that is one too many, or may not follow
pub never_so : (kinds : ℕ) (x : Limits) (ks : List Kind) (bs : List BodyLine) (text : List ℕ) (c : BodyLine) → Fits c → text ≡ body_text c → ((n : ℕ) → n < 2 ^ 64 → text ≡ codes "done " ++ decimal n → ⊥)
    → ((127 ≤ length bs) ⊎ (MayStand kinds bs c → ⊥)) → ContinuesNever kinds (front x ks (Some bs)) text
never_so kinds x ks bs text c fits is none not g (fronts.opens i t few e) = cc i
never_so kinds x ks bs text c fits is none not g (fronts.closes cs o i t f e) = none o f t
never_so kinds x ks bs text c fits is none not g (fronts.goes_on cs d i t may short e) =
    let same : bs ≡ cs = some_same bs cs i in
    let line : d ≡ c = body_once d c (may_fit kinds cs d may) (same_fits c fits) (sym t ∙ is) in
    elim not [
      | inl long ↦ omega (arith, long, short, ap length same)
      | inr never ↦ never (subst (λ y. MayStand kinds bs y) line (subst (λ y. MayStand kinds y d) (sym same) may))
    ]

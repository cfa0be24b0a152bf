-- The texts of a script's lines are those of no other, from the front on.
use Rattle.std.proofs.Common.{◌≡◌, ℕ, ◌^◌, ◌<◌, ◌≤◌, List, [], ◌∷◌, ◌++◌, length, map, Option, Some, None, refl, sym, ap, subst, ◌∙◌, arith, codes, lit≤, get_or, drop}
use Rattle.std.proofs.lemmas.List.{append-nil}
use Rattle.std.specs.Fmt.{decimal}
use Rattle.mono_text.specs.Parser.{Read, number_at, word_at, when}
use Rattle.mono_text.proofs.DigitLemmas.{digits_again}
use Rattle.std.proofs.Common.{flat_map, append_assoc, length-append}
use Rattle.mono_machine.specs.declared.events.Limits.{Limits}
use Rattle.mono_text.specs.Lines.{Line}
use Rattle.mono_run.specs.Script.{Kind, MayStand, AllMayStand, IsSoundKind, AreSoundKinds}
use Rattle.mono_run.specs.LineOrder.{MayFollow, goes_on, ends, done_text}
use Rattle.mono_run.specs.ScriptText.{body_text, kind_texts, script_texts, limits_text, ended, IsScript}
use Rattle.mono_run.specs.declared.scripts.body.BodyLine.{BodyLine}
use Rattle.mono_run.specs.declared.scripts.body.BodyLine.TheVariants as body

-- ---- a line is read back from its text

abbrev all_of : Read ℕ → Option ℕ
all_of None = None
all_of (Some (n, [])) = Some n
all_of (Some (n, b ∷ rest)) = None

abbrev number_of : List ℕ → Option ℕ
number_of text = all_of (number_at text)

of_text : (n : ℕ) → n < 2 ^ 64 → number_of (decimal n) ≡ Some n
of_text n l = ap number_of (sym (append-nil (decimal n))) ∙ ap all_of (digits_again (2 ^ 64) n [] (lit≤ tt) l refl)

abbrev with_number : (ℕ → BodyLine) → Option ℕ → Option BodyLine
with_number f None = None
with_number f (Some n) = Some (f n)

abbrev at_end : List ℕ → BodyLine → Option BodyLine
at_end [] l = Some l
at_end (b ∷ bs) l = None

abbrev body_of : List ℕ → Option BodyLine
body_of bytes =
    when (word_at (codes "spawn ") bytes) (λ r. with_number body.Spawn (number_of r))
    (when (word_at (codes "join ") bytes) (λ r. with_number body.Join (number_of r))
    (when (word_at (codes "detach ") bytes) (λ r. with_number body.Detach (number_of r))
    (when (word_at (codes "await-sleep ") bytes) (λ r. with_number body.AwaitSleep (number_of r))
    (when (word_at (codes "block ") bytes) (λ r. with_number body.Block (number_of r))
    (when (word_at (codes "await-job ") bytes) (λ r. with_number body.AwaitJob (number_of r))
    (when (word_at (codes "drop-job ") bytes) (λ r. with_number body.DropJob (number_of r))
    (when (word_at (codes "yield") bytes) (λ r. at_end r body.Yield) None)))))))

abbrev done_of : List ℕ → Option ℕ
done_of bytes = when (word_at (codes "done ") bytes) number_of None

-- the numbers of a line are in range
abbrev pub Fits : BodyLine → Type 0
Fits (body.Spawn k) = k < 2 ^ 64
Fits (body.Join i) = i < 2 ^ 64
Fits (body.Detach i) = i < 2 ^ 64
Fits (body.AwaitSleep n) = n < 2 ^ 64
Fits (body.Block o) = o < 2 ^ 64
Fits (body.AwaitJob i) = i < 2 ^ 64
Fits (body.DropJob i) = i < 2 ^ 64
Fits body.Yield = Unit {0}

read_back : (l : BodyLine) → Fits l → body_of (body_text l) ≡ Some l
read_back (body.Spawn k) f = ap (with_number body.Spawn) (of_text k f)
read_back (body.Join i) f = ap (with_number body.Join) (of_text i f)
read_back (body.Detach i) f = ap (with_number body.Detach) (of_text i f)
read_back (body.AwaitSleep n) f = ap (with_number body.AwaitSleep) (of_text n f)
read_back (body.Block o) f = ap (with_number body.Block) (of_text o f)
read_back (body.AwaitJob i) f = ap (with_number body.AwaitJob) (of_text i f)
read_back (body.DropJob i) f = ap (with_number body.DropJob) (of_text i f)
read_back body.Yield f = refl

pub body_once : (k l : BodyLine) → Fits k → Fits l → body_text k ≡ body_text l → k ≡ l
body_once k l f g e =
    let same : ◌≡◌ {A = Option BodyLine} (Some k) (Some l) = sym (read_back k f) ∙ ap body_of e ∙ read_back l g in
    grind (arith, same)

pub done_once : (o p : ℕ) → o < 2 ^ 64 → p < 2 ^ 64 → codes "done " ++ decimal o ≡ codes "done " ++ decimal p → o ≡ p
done_once o p f g e =
    let same : ◌≡◌ {A = Option ℕ} (Some o) (Some p) = sym (of_text o f) ∙ ap done_of e ∙ of_text p g in
    grind (arith, same)

-- a body line is no line `done`
pub no_done : (l : BodyLine) (o : ℕ) → Fits l → body_text l ≡ codes "done " ++ decimal o → ⊥
no_done l o f e =
    let same : ◌≡◌ {A = Option BodyLine} (Some l) None = sym (read_back l f) ∙ ap body_of e in
    cc same

-- ---- the lines of a kind, and others after them

abbrev pub AllFit : List BodyLine → Type 0
AllFit [] = Unit {0}
AllFit (l ∷ ls) = Fits l × AllFit ls

pub head_same : {A : Type 0} (x y : A) (xs ys : List A) → x ∷ xs ≡ y ∷ ys → x ≡ y
head_same x y xs ys e = ap (λ zs. get_or zs 0 x) e

pub tail_same : {A : Type 0} (x y : A) (xs ys : List A) → x ∷ xs ≡ y ∷ ys → xs ≡ ys
tail_same x y xs ys e = ap (drop 1) e

cons_same : {A : Type 0} (x y : A) (xs ys : List A) → x ≡ y → xs ≡ ys → x ∷ xs ≡ y ∷ ys
cons_same x y xs ys e f = rw (e, f) refl

pub record SameKind (bs cs : List BodyLine) (o p : ℕ) (r q : List (List ℕ)) : Type 0 where
  pub same_body : bs ≡ cs
  pub same_output : o ≡ p
  pub same_rest : r ≡ q

-- Two bodies with their outputs, and other lines after them: if the texts are the same, all of them are.
pub kind_once : (bs cs : List BodyLine) (o p : ℕ) (r q : List (List ℕ)) → AllFit bs → AllFit cs → o < 2 ^ 64 → p < 2 ^ 64
    → map body_text bs ++ done_text o ∷ r ≡ map body_text cs ++ done_text p ∷ q → SameKind bs cs o p r q
kind_once [] [] o p r q f g fo fp e = record {
  same_body = refl;
  same_output = done_once o p fo fp (head_same (done_text o) (done_text p) r q e);
  same_rest = tail_same (done_text o) (done_text p) r q e;
}
kind_once [] (c ∷ cs) o p r q f g fo fp e = absurd (no_done c o g.0 (sym (head_same (done_text o) (body_text c) r (map body_text cs ++ done_text p ∷ q) e)))
kind_once (b ∷ bs) [] o p r q f g fo fp e = absurd (no_done b p f.0 (head_same (body_text b) (done_text p) (map body_text bs ++ done_text o ∷ r) q e))
kind_once (b ∷ bs) (c ∷ cs) o p r q f g fo fp e =
    let first = body_once b c f.0 g.0 (head_same (body_text b) (body_text c) (map body_text bs ++ done_text o ∷ r) (map body_text cs ++ done_text p ∷ q) e) in
    let below = kind_once bs cs o p r q f.1 g.1 fo fp (tail_same (body_text b) (body_text c) (map body_text bs ++ done_text o ∷ r) (map body_text cs ++ done_text p ∷ q) e) in
    record { same_body = rw (first, below.same_body) refl; same_output = below.same_output; same_rest = below.same_rest }

-- ---- one line more, inside a kind

-- the next line of a kind after these body lines
pub data Next (bs cs : List BodyLine) (l : List ℕ) (p : ℕ) : Type 0 where
  a_line : (c : BodyLine) → (rest : List BodyLine) → cs ≡ bs ++ c ∷ rest → l ≡ body_text c → Next bs cs l p
  its_end : cs ≡ bs → l ≡ done_text p → Next bs cs l p

next_onto : (b : BodyLine) (bs cs : List BodyLine) (l : List ℕ) (p : ℕ) → Next bs cs l p → Next (b ∷ bs) (b ∷ cs) l p
next_onto b bs cs l p (a_line c rest e is) = a_line c rest (ap (λ x. b ∷ x) e) is
next_onto b bs cs l p (its_end e is) = its_end (ap (λ x. b ∷ x) e) is

pub next_line : (bs cs : List BodyLine) (l : List ℕ) (p : ℕ) (r q : List (List ℕ)) → AllFit bs → AllFit cs
    → map body_text bs ++ l ∷ r ≡ map body_text cs ++ done_text p ∷ q → Next bs cs l p
next_line [] [] l p r q f g e = its_end refl (head_same l (done_text p) r q e)
next_line [] (c ∷ cs) l p r q f g e = a_line c cs refl (head_same l (body_text c) r (map body_text cs ++ done_text p ∷ q) e)
next_line (b ∷ bs) [] l p r q f g e = absurd (no_done b p f.0 (head_same (body_text b) (done_text p) (map body_text bs ++ l ∷ r) q e))
next_line (b ∷ bs) (c ∷ cs) l p r q f g e =
    let first : b ≡ c = body_once b c f.0 g.0 (head_same (body_text b) (body_text c) (map body_text bs ++ l ∷ r) (map body_text cs ++ done_text p ∷ q) e) in
    let below = next_onto b bs cs l p (next_line bs cs l p r q f.1 g.1 (tail_same (body_text b) (body_text c) (map body_text bs ++ l ∷ r) (map body_text cs ++ done_text p ∷ q) e)) in
    subst (λ x. Next (b ∷ bs) (x ∷ cs) l p) first below

-- ---- whole kinds before

abbrev pub AllKindsFit : List Kind → Type 0
AllKindsFit [] = Unit {0}
AllKindsFit (k ∷ ks) = (AllFit k.body × (k.output < 2 ^ 64)) × AllKindsFit ks

pub kind_split : (k : Kind) (r : List (List ℕ)) → kind_texts k ++ r ≡ codes "task" ∷ (map body_text k.body ++ done_text k.output ∷ r)
kind_split k r = ap (λ x. codes "task" ∷ x) (append_assoc (map body_text k.body) (done_text k.output ∷ []) r)

-- Whole kinds in front of other lines are the first kinds of every script with these lines.
pub kinds_front : (ks js : List Kind) (r : List (List ℕ)) → AllKindsFit ks → AllKindsFit js → flat_map kind_texts ks ++ r ≡ flat_map kind_texts js
    → (rest : List Kind) × (js ≡ ks ++ rest) × (r ≡ flat_map kind_texts rest)
kinds_front [] js r f g e = (js, refl, e)
kinds_front (k ∷ ks) [] r f g e = absurd (omega (arith, ap length e))
kinds_front (k ∷ ks) (j ∷ js) r f g e =
    let left = append_assoc (kind_texts k) (flat_map kind_texts ks) r ∙ kind_split k (flat_map kind_texts ks ++ r) in
    let right = kind_split j (flat_map kind_texts js) in
    let both = ap (drop 1) (sym left ∙ e ∙ right) in
    let same = kind_once k.body j.body k.output j.output (flat_map kind_texts ks ++ r) (flat_map kind_texts js) f.0.0 g.0.0 f.0.1 g.0.1 both in
    let below = kinds_front ks js r f.1 g.1 same.same_rest in
    let kind : k ≡ j = λ i. record { body = same.same_body i; output = same.same_output i } in
    (below.0, cons_same j k js (ks ++ below.0) (sym kind) below.1, below.2)

-- ---- the lines that may come next in a script, for each rest

-- the numbers of sound lines are in range
pub may_fit : (kinds : ℕ) (before : List BodyLine) (l : BodyLine) → MayStand kinds before l → Fits l
may_fit kinds before (body.Spawn k) m = m.0
may_fit kinds before (body.Join i) m = m.0
may_fit kinds before (body.Detach i) m = m.0
may_fit kinds before (body.AwaitSleep n) m = m
may_fit kinds before (body.Block o) m = m
may_fit kinds before (body.AwaitJob i) m = m.0
may_fit kinds before (body.DropJob i) m = m.0
may_fit kinds before body.Yield m = tt

pub all_may_fit : (kinds : ℕ) (before ls : List BodyLine) → AllMayStand kinds before ls → AllFit ls
all_may_fit kinds before [] m = tt
all_may_fit kinds before (l ∷ ls) m = (may_fit kinds before l m.0, all_may_fit kinds (before ++ l ∷ []) ls m.1)

pub kinds_fit : (kinds : ℕ) (ks : List Kind) → AreSoundKinds kinds ks → AllKindsFit ks
kinds_fit kinds [] m = tt
kinds_fit kinds (k ∷ ks) m = ((all_may_fit kinds [] k.body m.0.each, m.0.output), kinds_fit kinds ks m.1)

-- the line at this place may follow there
stands_at : (kinds : ℕ) (before bs : List BodyLine) (c : BodyLine) (rest : List BodyLine) → AllMayStand kinds before (bs ++ c ∷ rest) → MayStand kinds (before ++ bs) c
stands_at kinds before [] c rest m = rw (append-nil before) m.0
stands_at kinds before (b ∷ bs) c rest m = subst (λ x. MayStand kinds x c) (append_assoc before (b ∷ []) bs) (stands_at kinds (before ++ b ∷ []) bs c rest m.1)

sound_rest : (kinds : ℕ) (ks js : List Kind) → AreSoundKinds kinds (ks ++ js) → AreSoundKinds kinds js
sound_rest kinds [] js m = m
sound_rest kinds (k ∷ ks) js m = sound_rest kinds ks js m.1

-- lines that are a script's from the front on are texts of it
pub texts_front : (texts : List (List ℕ)) (more : List Line) (all : List (List ℕ)) → map ended texts ++ more ≡ map ended all
    → (rest : List (List ℕ)) × (all ≡ texts ++ rest) × (more ≡ map ended rest)
texts_front [] more all e = (all, refl, e)
texts_front (t ∷ texts) more [] e = absurd (omega (arith, ap length e))
texts_front (t ∷ texts) more (u ∷ all) e =
    let below = texts_front texts more all (ap (drop 1) e) in
    let first : t ≡ u = ap (λ (l : Line). l.bytes) (ap (λ zs. get_or zs 0 (ended t)) e) in
    (below.0, cons_same u t all (texts ++ below.0) (sym first) below.1, below.2)

follows : (kinds : ℕ) (bs : List BodyLine) (j : Kind) (t : List ℕ) → IsSoundKind kinds j → Next bs j.body t j.output → MayFollow kinds bs (ended t)
follows kinds bs j t sound (a_line c rest e is) =
    goes_on c (ap ended is) (stands_at kinds [] bs c rest (subst (AllMayStand kinds []) e sound.each)) (omega (arith, sound.few, ap length e, length-append bs (c ∷ rest)))
follows kinds bs j t sound (its_end e is) = ends j.output (ap ended is) sound.output

-- after whole kinds and the front of one more
in_kinds : (kinds : ℕ) (js : List Kind) (bs : List BodyLine) (t : List ℕ) (r : List (List ℕ)) → AllFit bs → AreSoundKinds kinds js
    → codes "task" ∷ (map body_text bs ++ t ∷ r) ≡ flat_map kind_texts js → MayFollow kinds bs (ended t)
in_kinds kinds [] bs t r f sound e = absurd (omega (arith, ap length e))
in_kinds kinds (j ∷ js) bs t r f sound e =
    follows kinds bs j t sound.0 (next_line bs j.body t j.output r (flat_map kind_texts js) f (all_may_fit kinds [] j.body sound.0.each) (ap (drop 1) (e ∙ kind_split j (flat_map kind_texts js))))

line_first : (l : Line) (more : List Line) (rest : List (List ℕ)) → l ∷ more ≡ map ended rest → (t : List ℕ) × (r : List (List ℕ)) × (rest ≡ t ∷ r) × (l ≡ ended t)
line_first l more [] e = absurd (omega (arith, ap length e))
line_first l more (t ∷ r) e = (t, r, refl, ap (λ zs. get_or zs 0 l) e)

-- After the limits, whole kinds and the front of one more, any other line is the first bad one.
pub in_kind : (kinds : ℕ) (x : Limits) (ks : List Kind) (bs : List BodyLine) (l : Line) (more : List Line) → AllKindsFit ks → AllFit bs
    → IsScript kinds (map ended (limits_text x ∷ (flat_map kind_texts ks ++ codes "task" ∷ map body_text bs)) ++ l ∷ more) → MayFollow kinds bs l
in_kind kinds x ks bs l more fk fb script =
    let s = script.0 in
    let texts = limits_text x ∷ (flat_map kind_texts ks ++ codes "task" ∷ map body_text bs) in
    let k = texts_front texts (l ∷ more) (script_texts s) script.2 in
    let n = line_first l more k.0 k.2 in
    let behind : flat_map kind_texts s.kinds ≡ (flat_map kind_texts ks ++ codes "task" ∷ map body_text bs) ++ n.0 ∷ n.1 =
    ap (drop 1) (k.1 ∙ ap (λ r. texts ++ r) n.2) in
    let front = kinds_front ks s.kinds (codes "task" ∷ (map body_text bs ++ n.0 ∷ n.1)) fk (kinds_fit kinds s.kinds script.1.each)
    (sym (append_assoc (flat_map kind_texts ks) (codes "task" ∷ map body_text bs) (n.0 ∷ n.1)) ∙ sym behind) in
    let sound = sound_rest kinds ks front.0 (subst (AreSoundKinds kinds) front.1 script.1.each) in
    rw n.3 (in_kinds kinds front.0 bs n.0 n.1 fb sound front.2)

-- Behind the limits and whole kinds: one more kind begins, of at most 64.
pub between : (kinds : ℕ) (x : Limits) (ks : List Kind) (l : Line) (more : List Line) → AllKindsFit ks
    → IsScript kinds (map ended (limits_text x ∷ flat_map kind_texts ks) ++ l ∷ more) → (l ≡ ended (codes "task")) × (length ks < 64)
between kinds x ks l more fk script =
    let s = script.0 in
    let texts = limits_text x ∷ flat_map kind_texts ks in
    let k = texts_front texts (l ∷ more) (script_texts s) script.2 in
    let n = line_first l more k.0 k.2 in
    let behind : flat_map kind_texts s.kinds ≡ flat_map kind_texts ks ++ n.0 ∷ n.1 = ap (drop 1) (k.1 ∙ ap (λ r. texts ++ r) n.2) in
    let front = kinds_front ks s.kinds (n.0 ∷ n.1) fk (kinds_fit kinds s.kinds script.1.each) (sym behind) in
    one_more front.0 front.1 n.0 n.1 front.2 script.1.few n.3
  where
    one_more : (js : List Kind) → script.0.kinds ≡ ks ++ js → (t : List ℕ) → (r : List (List ℕ)) → t ∷ r ≡ flat_map kind_texts js → length script.0.kinds ≤ 64 → l ≡ ended t → (l ≡ ended (codes "task")) × (length ks < 64)
    one_more [] e t r f few is = absurd (omega (arith, ap length f))
    one_more (j ∷ js) e t r f few is = (is ∙ ap ended (ap (λ zs. get_or zs 0 t) f), omega (arith, few, ap length e, length-append ks (j ∷ js)))

-- The first bad line of a script, by the lines that may follow there.
use Rattle.std.proofs.Common.{◌≡◌, ℕ, ◌+◌, ◌-◌, ◌<◌, ◌≤◌, List, [], ◌∷◌, ◌++◌, length, map, take, flat_map, append_assoc, length-append, sym, ap, subst, ◌∙◌, arith, codes, lit<}
use Rattle.std.proofs.lemmas.List.{append-nil, map-append}
use Rattle.std.proofs.lemmas.Grind.{flat_map-append}
use Rattle.std.proofs.Math.Seq.{take-append_seam, take-append-add}
use Rattle.mono_machine.specs.declared.events.Limits.{Limits}
use Rattle.mono_text.specs.LineText.{FitLimits}
use Rattle.mono_text.specs.Lines.{Line, lines}
use Rattle.mono_run.specs.Beginnings.{Begins, wrong}
use Rattle.mono_run.specs.Script.{Kind, Script, AllMayStand, IsSoundKind, AreSoundKinds, IsSound}
use Rattle.mono_run.specs.LineOrder.{MayFollow, done_text, front_texts}
use Rattle.mono_run.specs.ScriptText.{body_text, kind_texts, script_texts, limits_text, ended, task_lines, IsScript, IsFirstBad}
use Rattle.mono_run.specs.declared.scripts.body.BodyLine.{BodyLine}
use Rattle.mono_run.proofs.ScriptTextLemmas.{in_kind, kinds_fit, all_may_fit}

pub sound_more : (kinds : ℕ) (ks : List Kind) (k : Kind) → AreSoundKinds kinds ks → IsSoundKind kinds k → AreSoundKinds kinds (ks ++ k ∷ [])
sound_more kinds [] k m s = (s, tt)
sound_more kinds (j ∷ ks) k m s = (m.0, sound_more kinds ks k m.1 s)

-- the front and then `done 0` is a script
closed : (x : Limits) (ks : List Kind) (bs : List BodyLine) → front_texts x ks bs ++ done_text 0 ∷ [] ≡ script_texts (record { limits = x; kinds = ks ++ record { body = bs; output = 0 } ∷ [] })
closed x ks bs =
    let k : Kind = record { body = bs; output = 0 } in
    let all : flat_map kind_texts (ks ++ k ∷ []) ≡ flat_map kind_texts ks ++ kind_texts k = flat_map-append kind_texts ks (k ∷ []) ∙ ap (λ r. flat_map kind_texts ks ++ r) (append-nil (kind_texts k)) in
    ap (λ r. limits_text x ∷ r) (append_assoc (flat_map kind_texts ks) (codes "task" ∷ map body_text bs) (done_text 0 ∷ []) ∙ sym all)

pub begins : (kinds : ℕ) (x : Limits) (ks : List Kind) (bs : List BodyLine) → FitLimits x → AreSoundKinds kinds ks → AllMayStand kinds [] bs → length ks < 64 → length bs ≤ 127
    → Begins (IsScript kinds) (map ended (front_texts x ks bs))
begins kinds x ks bs fit sound may few short =
    let k : Kind = record { body = bs; output = 0 } in
    let s : Script = record { limits = x; kinds = ks ++ k ∷ [] } in
    let good : IsSound kinds s = record {
      limits = fit;
      some = omega (arith, length-append ks (k ∷ []));
      few = omega (arith, few, length-append ks (k ∷ []));
      each = sound_more kinds ks k sound (record { few = short; each = may; output = lit< tt });
    } in
    let text : map ended (front_texts x ks bs) ++ ended (done_text 0) ∷ [] ≡ map ended (script_texts s) =
    sym (map-append ended (front_texts x ks bs) (done_text 0 ∷ [])) ∙ ap (map ended) (closed x ks bs) in
    (ended (done_text 0) ∷ [], (s, good, text))

-- After a good front, a line that may not follow is the first bad one.
pub bad_in_kind : (input : List ℕ) (x : Limits) (ks : List Kind) (bs : List BodyLine) (l : Line) (rest : List Line) → FitLimits x
    → AreSoundKinds (task_lines (lines input)) ks → AllMayStand (task_lines (lines input)) [] bs → length ks < 64 → length bs ≤ 127
    → lines input ≡ map ended (front_texts x ks bs) ++ l ∷ rest → (MayFollow (task_lines (lines input)) bs l → ⊥)
    → IsFirstBad input (length (map ended (front_texts x ks bs)) + 1)
bad_in_kind input x ks bs l rest fit sound may few short split none =
    let kinds = task_lines (lines input) in
    let front = map ended (front_texts x ks bs) in
    let n = length front in
    let before : take (n + 1 - 1) (lines input) ≡ front = ap (λ m. take m (lines input)) (minus_one n) ∙ ap (take n) split ∙ take-append_seam front (l ∷ rest) in
    let upto : take (n + 1) (lines input) ≡ front ++ l ∷ [] = ap (take (n + 1)) split ∙ take-append-add front (l ∷ rest) 1 in
    wrong (omega arith) (omega (arith, ap length split, length-append front (l ∷ rest)))
    (subst (Begins (IsScript kinds)) (sym before) (begins kinds x ks bs fit sound may few short))
    (λ b.
    let goes : IsScript kinds (front ++ l ∷ b.0) = subst (IsScript kinds) (ap (λ r. r ++ b.0) upto ∙ append_assoc front (l ∷ []) b.0) b.1 in
    none (in_kind kinds x ks bs l b.0 (kinds_fit kinds ks sound) (all_may_fit kinds [] bs may) goes))
  where
    minus_one : (n : ℕ) → n + 1 - 1 ≡ n
    minus_one n = omega arith

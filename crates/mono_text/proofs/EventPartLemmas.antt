-- The parts of a turn are written one by one.
use Rattle.std.proofs.Common.{◌≡◌, ℕ, ◌+◌, ◌<◌, ◌≤◌, List, [], ◌++◌, length, drop, get_or, codes, refl, sym, ap, ◌∙◌, append_assoc}
use Rattle.std.proofs.lemmas.List.{drop_more, drop_all}
use Rattle.mono_machine.specs.declared.events.TurnStep.{TurnStep}
use Rattle.mono_machine.specs.declared.events.End.{End}
use Rattle.mono_text.specs.LineText.{step_text, end_text, parts_text}

-- out has all steps before the remaining ones, whose next one was appended
pub part_written : (steps : List TurnStep) (e : End) (i : ℕ) (d : TurnStep) (all out new : List ℕ) → i < length steps
    → out ++ parts_text (drop i steps) e ≡ all → new ≡ out ++ (codes "; " ++ step_text (get_or steps i d)) → new ++ parts_text (drop (i + 1) steps) e ≡ all
part_written steps e i d all out new l before put =
    let next : parts_text (drop i steps) e ≡ (codes "; " ++ step_text (get_or steps i d)) ++ parts_text (drop (i + 1) steps) e = rw (drop_more steps i d l) refl in
    rw put (append_assoc out (codes "; " ++ step_text (get_or steps i d)) (parts_text (drop (i + 1) steps) e) ∙ ap (λ r. out ++ r) (sym next) ∙ before)

-- no step is left, and the end was appended
pub end_written : (steps : List TurnStep) (e : End) (i : ℕ) (all out new : List ℕ) → length steps ≤ i
    → out ++ parts_text (drop i steps) e ≡ all → new ≡ out ++ (codes "; " ++ end_text e) → new ≡ all
end_written steps e i all out new l before put =
    let none : parts_text (drop i steps) e ≡ codes "; " ++ end_text e = rw (drop_all i steps l) refl in
    put ∙ ap (λ r. out ++ r) (sym none) ∙ before

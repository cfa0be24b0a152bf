-- One more step of a turn.
use Rattle.std.proofs.Common.{◌≡◌, ◌<◌, ◌≤◌, ℕ, ◌+◌, suc, List, [], ◌∷◌, ◌++◌, length, get_or, drop, ap, sym, ◌∙◌, arith, append_assoc, length-drop}
use Rattle.std.proofs.Math.Seq.{drop-cons}
use Rattle.std.proofs.lemmas.List.{nil_from_length}
use Rattle.mono_machine.specs.Machine.{Machine}
use Rattle.mono_machine.specs.Acts.{step_outcome}
use Rattle.mono_machine.specs.Turns.{replies_of, after_steps}
use Rattle.mono_machine.specs.declared.events.TurnStep.{TurnStep}
use Rattle.mono_machine.specs.declared.events.Reply.{Reply}

suc_one : (i : ℕ) → suc i ≡ i + 1
suc_one i = omega arith

pub first_and_rest : {X : Type 0} (xs : List X) (i : ℕ) (d : X) → i < length xs → drop i xs ≡ get_or xs i d ∷ drop (i + 1) xs
first_and_rest xs i d inside = drop-cons xs i d inside ∙ ap (λ k. get_or xs i d ∷ drop k xs) (suc_one i)

pub nothing_left : {X : Type 0} (xs : List X) (i : ℕ) → length xs ≤ i → drop i xs ≡ []
nothing_left xs i past = nil_from_length (drop i xs) (rw length-drop (omega (arith, past)))

pub replies_more : (me : ℕ) (steps : List TurnStep) (i : ℕ) (d : TurnStep) (replies pushed all : List Reply) (r : Reply) (mid : Machine) → i < length steps
    → pushed ≡ replies ++ r ∷ [] → r ≡ (step_outcome me (get_or steps i d) mid).reply → replies ++ replies_of me (drop i steps) mid ≡ all
    → pushed ++ replies_of me (drop (i + 1) steps) (step_outcome me (get_or steps i d) mid).machine ≡ all
replies_more me steps i d replies pushed all r mid inside push is told =
    let rest : List Reply = replies_of me (drop (i + 1) steps) (step_outcome me (get_or steps i d) mid).machine in
    ap (λ xs. xs ++ rest) (push ∙ ap (λ x. replies ++ x ∷ []) is) ∙ append_assoc replies _ _ ∙ ap (λ xs. replies ++ replies_of me xs mid) (sym (first_and_rest steps i d inside)) ∙ told

pub after_more : (me : ℕ) (steps : List TurnStep) (i : ℕ) (d : TurnStep) (all mid : Machine) → i < length steps → after_steps me (drop i steps) mid ≡ all
    → after_steps me (drop (i + 1) steps) (step_outcome me (get_or steps i d) mid).machine ≡ all
after_more me steps i d all mid inside left = ap (λ xs. after_steps me xs mid) (sym (first_and_rest steps i d inside)) ∙ left

pub item_and_rest : {X : Type 0} (xs : List X) (i : ℕ) (x : X) → i < length xs → x ≡ get_or xs i x → drop i xs ≡ x ∷ drop (i + 1) xs
item_and_rest xs i x inside is = first_and_rest xs i x inside ∙ ap (λ y. y ∷ drop (i + 1) xs) (sym is)

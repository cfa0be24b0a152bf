-- One more reply of a turn that is compared.
use Rattle.std.proofs.Common.{◌≡◌, ◌≢◌, ℕ, List, [], ◌∷◌, ◌++◌, length, ap, sym, ◌∙◌, refl, arith, append_assoc}
use Rattle.std.specs.Prelude.{◌↔◌}
use Rattle.mono_machine.specs.Machine.{Machine}
use Rattle.mono_machine.specs.Acts.{step_outcome}
use Rattle.mono_machine.specs.Turns.{replies_of}
use Rattle.mono_machine.specs.declared.events.TurnStep.{TurnStep}
use Rattle.mono_machine.specs.declared.events.Reply.{Reply}

same_head : {X : Type 0} (x y : X) (xs ys : List X) → x ∷ xs ≡ y ∷ ys → x ≡ y
same_head x y xs ys e = cc

same_tail : {X : Type 0} (x y : X) (xs ys : List X) → x ∷ xs ≡ y ∷ ys → xs ≡ ys
same_tail x y xs ys e = cc

module _ (me : ℕ) (steps rest : List TurnStep) (told left : List Reply) (s : TurnStep) (t : Reply) (m : Machine) (steps_are : steps ≡ s ∷ rest) (told_are : told ≡ t ∷ left) where
  replies_are : replies_of me steps m ≡ (step_outcome me s m).reply ∷ replies_of me rest (step_outcome me s m).machine
  replies_are = ap (λ xs. replies_of me xs m) steps_are

  pub told_next : (P : Type 0) → t ≡ (step_outcome me s m).reply → (P ↔ (told ≡ replies_of me steps m)) → P ↔ (left ≡ replies_of me rest (step_outcome me s m).machine)
  told_next P is so_far = (
    λ p. same_tail t _ left _ (sym told_are ∙ so_far.0 p ∙ replies_are),
    λ e. so_far.1 (told_are ∙ ap (λ x. x ∷ left) is ∙ ap (λ xs. (step_outcome me s m).reply ∷ xs) e ∙ sym replies_are),
  )

  pub told_differs : (P : Type 0) → t ≢ (step_outcome me s m).reply → (P ↔ (told ≡ replies_of me steps m)) → P → ⊥
  told_differs P differs so_far p = differs (same_head t _ left _ (sym told_are ∙ so_far.0 p ∙ replies_are))

pub replies_len : (me : ℕ) (steps : List TurnStep) (m : Machine) → length (replies_of me steps m) ≡ length steps
replies_len me [] m = refl
replies_len me (s ∷ steps) m = omega (arith, replies_len me steps (step_outcome me s m).machine)

-- one more reply of a turn that is performed
pub reply_more : (me : ℕ) (steps rest : List TurnStep) (s : TurnStep) (m new : Machine) (front : List Reply) (r : Reply) → steps ≡ s ∷ rest → r ≡ (step_outcome me s m).reply → new ≡ (step_outcome me s m).machine
    → (front ++ r ∷ []) ++ replies_of me rest new ≡ front ++ replies_of me steps m
reply_more me steps rest s m new front r steps_are r_is new_is =
    append_assoc front (r ∷ []) (replies_of me rest new)
    ∙ ap (λ (x : Reply). front ++ x ∷ replies_of me rest new) r_is
    ∙ ap (λ (x : Machine). front ++ (step_outcome me s m).reply ∷ replies_of me rest x) new_is
    ∙ ap (λ xs. front ++ replies_of me xs m) (sym steps_are)

-- Which tasks stay listed over several calls of one task.
use Rattle.std.specs.Prelude.{Bool, ◌≡◌, ℕ, List}
use Rattle.std.proofs.Common.{inl, inr, ◌∙◌}
use Rattle.mono_task.specs.Owed.{Keeps}

module _ {W : Type 0} (lists : W → List ℕ → ℕ → Bool) where
  -- if two calls of a task keep each other task, then both together do
  pub keeps_on : (me you : ℕ) (a b c : W) → you ≡ me → Keeps lists me a b → Keeps lists you b c → Keeps lists me a c
  keeps_on me you a b c same first second = λ place t is. elim (first place t is) [
    | inl there ↦ elim (second place t there) [
      | inl still ↦ inl still
      | inr mine ↦ inr (mine ∙ same)
    ]
    | inr mine ↦ inr mine
  ]

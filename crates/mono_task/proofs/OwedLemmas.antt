-- Calls keep the tasks that a shared value lists.
use Rattle.std.specs.Prelude.{Bool, true, false, ◌≡◌, ◌⊎◌, ℕ, List}
use Rattle.std.proofs.Common.{inl, inr, ap, ◌∙◌}
use Rattle.mono_task.specs.Owed.{Keeps}

false-true : false ≡ true → ⊥
false-true e = cc

module _ {S : Type 0} (lists : S → List ℕ → ℕ → Bool) where
  -- the value is the same
  pub keeps_itself : (me : ℕ) (a : S) → Keeps lists me a a
  keeps_itself me a p t is = inl is

  -- the value is the same, by an equation
  pub keeps_same : (me : ℕ) (a b : S) → b ≡ a → Keeps lists me a b
  keeps_same me a b same p t is = inl (ap (λ x. lists x p t) same ∙ is)

  -- one call after another
  pub keeps_on : (me : ℕ) (a b c : S) → Keeps lists me a b → Keeps lists me b c → Keeps lists me a c
  keeps_on me a b c first second p t is = elim (first p t is) [ inl stays ↦ second p t stays | inr mine ↦ inr mine ]

-- the value lists nobody
pub keeps_nobody : {S : Type 0} (me : ℕ) (a b : S) → Keeps (λ x p t. false) me a b
keeps_nobody me a b p t is = absurd (false-true is)

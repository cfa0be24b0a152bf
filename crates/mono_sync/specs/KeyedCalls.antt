-- A call on the part with one key does to it what the part's own contract says, and leaves all other parts.
use Rattle.std.specs.Prelude.{◌≡◌, ◌⊎◌, Bool, ℕ, List, Option, Some, None}
use Rattle.std.proofs.Common.{inl, inr, subst, sym}
use Rattle.mono_model.specs.Table.{Table, value_at, with_value}
use Rattle.mono_task.specs.Owed.{Keeps}
use Rattle.mono_sync.specs.Many.{At, LeadsEach, lists_each}
use Rattle.mono_sync.specs.ManyLeads.{each_itself, each_with, keeps_with}

-- A call on the part with this key, as R says. If no part has the key, the answer is as `Missing` says, and nothing
-- changes.
abbrev pub AtOr : {X : Type 0} → (X → X → Type 0) → Type 0 → ℕ → Table X → Table X → Type 0
AtOr R Missing k a b = At R k a b ⊎ ((value_at a k ≡ None) × Missing × (b ≡ a))

module _ {X : Type 0} (R : X → X → Type 0) (Missing : Type 0) (k : ℕ) (a b : Table X) (call : AtOr R Missing k a b) where
  -- all parts are led if the call leads the one
  pub at_leads : (leads : X → X → Type 0) (waiting owes : X → List ℕ) → ((x : X) → leads x x) → ((x y : X) → R x y → leads x y) → LeadsEach leads waiting owes a b
  at_leads leads waiting owes itself led = elim call [
    | inl (x, y, at, does, is) ↦ subst (LeadsEach leads waiting owes a) (sym is) (each_with leads waiting owes itself a k x y at (led x y does))
    | inr (at, missing, is) ↦ subst (LeadsEach leads waiting owes a) (sym is) (each_itself leads waiting owes itself a)
  ]

  -- all parts keep their listed tasks if the call keeps those of the one
  pub at_keeps : (lists : X → List ℕ → ℕ → Bool) (me : ℕ) → ((x y : X) → R x y → Keeps lists me x y) → Keeps (lists_each lists) me a b
  at_keeps lists me kept = elim call [
    | inl (x, y, at, does, is) ↦ subst (Keeps (lists_each lists) me a) (sym is) (keeps_with lists me x y (kept x y does) a k at)
    | inr (at, missing, is) ↦ subst (Keeps (lists_each lists) me a) (sym is) (λ p t listed. inl listed)
  ]

-- Which tasks stay listed in a shared value, and which are handed out to be woken.
use Rattle.std.specs.Prelude.{Bool, true, ◌≡◌, ◌⊎◌, ℕ, List, [], ◌∷◌, Option, Some, None}

module _ {S : Type 0} (lists : S → List ℕ → ℕ → Bool) where
  -- Each task stays listed at each place where it is, except the one that calls.
  abbrev pub Keeps : ℕ → S → S → Type 0
  Keeps me a b = (p : List ℕ) (t : ℕ) → lists a p t ≡ true → (lists b p t ≡ true) ⊎ (t ≡ me)

  -- The first owed task is handed out, and may be listed no longer. The value stays the same if none is owed.
  abbrev pub Hands : (S → List ℕ) → S → Option ℕ → S → Type 0
  Hands owes a None b = (owes a ≡ []) × (b ≡ a)
  Hands owes a (Some t) b = (owes a ≡ t ∷ owes b) × Keeps t a b

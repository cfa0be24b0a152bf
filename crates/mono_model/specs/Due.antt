-- The list that a clock step makes of a table: the numbers whose tick has come, each once, in the order of their ticks.
use Rattle.std.specs.Prelude.{◌≡◌, ◌≢◌, ◌≤◌, ◌↔◌, ℕ, List, Option, Some, None, AllPairs, Contains}
use Rattle.mono_model.specs.Table.{Table, value_at}

-- The list has no doubles, it contains a number if and only if the number's value is due, and it keeps the allowed
-- order.
pub record MayList {V : Type 0} (IsDue : Option V → Type 0) (MayComeBefore : Option V → Option V → Type 0) (table : Table V) (listed : List ℕ) : Type 0 where
  pub no_doubles : AllPairs (λ s t. s ≢ t) listed
  pub all_due : (s : ℕ) → Contains listed s ↔ IsDue (value_at table s)
  pub in_order : AllPairs (λ s t. MayComeBefore (value_at table s) (value_at table t)) listed

-- Whether the tick is at most g; false without a tick.
abbrev pub HasCome : ℕ → Option ℕ → Type 0
HasCome g None = ⊥
HasCome g (Some tick) = tick ≤ g

-- Whether the first tick is at most the second, if both exist.
abbrev pub Ascends : Option ℕ → Option ℕ → Type 0
Ascends first second = (a b : ℕ) → first ≡ Some a → second ≡ Some b → a ≤ b

-- The list that a clock step to the tick g may make of those that wait, each for the tick that `tick_of` gives. Ticks
-- ascend; the order within one tick is free.
abbrev pub ListsDue : {V : Type 0} → (Option V → Option ℕ) → Table V → ℕ → List ℕ → Type 0
ListsDue tick_of table g due = MayList (λ v. HasCome g (tick_of v)) (λ u v. Ascends (tick_of u) (tick_of v)) table due

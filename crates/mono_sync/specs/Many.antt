-- Parts of one kind under keys: what each call does, and what the whole lists and owes.
use Rattle.std.specs.Prelude.{⊤, Bool, true, false, ◌≡◌, ◌==◌, ◌<◌, ◌⊎◌, ℕ, List, [], ◌∷◌, ◌++◌, map, length, Option, Some, None, Result, Ok, Err}
use Rattle.std.specs.List.{list_any}
use Rattle.mono_model.specs.Table.{Table, value_at, next_number, with_next, with_value, without}
use Rattle.mono_task.specs.Owed.{Hands}
use Rattle.mono_sync.specs.Touched.{Marks, IsMarked}
use Rattle.mono_sync.specs.declared.tables.RemoveError.{RemoveError}
use Rattle.mono_sync.specs.declared.tables.RemoveError.TheVariants.{Missing, InUse}

-- The part in a place.
abbrev pub part_in : {X : Type 0} → Option (Option X) → Option X
part_in None = None
part_in (Some x) = x

abbrev pub parts_of : {X : Type 0} → Table (Option X) → Table X
parts_of places = map part_in places

-- Each place has a part, until it is removed.
abbrev pub IsFull : {X : Type 0} → Table (Option X) → Type 0
IsFull places = (k : ℕ) → value_at places k ≡ Some None → ⊥

module _ {X : Type 0} (lists : X → List ℕ → ℕ → Bool) where
  abbrev pub lists_in : Option X → List ℕ → ℕ → Bool
  lists_in None p t = false
  lists_in (Some x) p t = lists x p t

  -- A place is a key, followed by a place of its part.
  abbrev pub lists_each : Table X → List ℕ → ℕ → Bool
  lists_each parts [] t = false
  lists_each parts (k ∷ p) t = lists_in (value_at parts k) p t

module _ {X : Type 0} (tasks : X → List ℕ) where
  abbrev pub tasks_in : Option X → List ℕ
  tasks_in None = []
  tasks_in (Some x) = tasks x

  -- The tasks of all parts, in the order of their keys.
  abbrev pub tasks_each : Table X → List ℕ
  tasks_each [] = []
  tasks_each (x ∷ xs) = tasks_in x ++ tasks_each xs

  -- Whether this task is one of them.
  abbrev pub waits_each : Table X → ℕ → Bool
  waits_each parts t = list_any (λ u. u == t) (tasks_each parts)

module _ {X : Type 0} (waiting owes : X → List ℕ) where
  -- No task waits in the part, and none is owed a wake.
  abbrev pub IsIdle : X → Type 0
  IsIdle x = (waiting x ≡ []) × (owes x ≡ [])

module _ {X : Type 0} (leads : X → X → Type 0) (waiting owes : X → List ℕ) where
  -- A part is led, or is removed once it is idle. No key is used again.
  abbrev pub LeadsPart : Option X → Option X → Type 0
  LeadsPart None None = ⊤
  LeadsPart None (Some y) = ⊥
  LeadsPart (Some x) None = (y : X) × leads x y × IsIdle waiting owes y
  LeadsPart (Some x) (Some y) = leads x y

  -- Each part is led, and further parts may come.
  abbrev pub LeadsEach : Table X → Table X → Type 0
  LeadsEach [] ys = ⊤
  LeadsEach (x ∷ xs) [] = ⊥
  LeadsEach (x ∷ xs) (y ∷ ys) = LeadsPart x y × LeadsEach xs ys

-- A part is made under the next key. If it is refused, it comes back and nothing changes.
abbrev pub Makes : {X : Type 0} → Table X → X → Result ℕ X → Table X → Type 0
Makes a x (Ok k) b = (k ≡ next_number a) × (b ≡ with_next a x)
Makes a x (Err y) b = (y ≡ x) × (b ≡ a)

module _ {X : Type 0} (waiting owes : X → List ℕ) where
  -- An idle part is removed and comes back. Nothing changes if the key has no part, or if its part is not idle.
  abbrev pub Removes : Table X → ℕ → Result X RemoveError → Table X → Type 0
  Removes a k (Ok x) b = (value_at a k ≡ Some x) × IsIdle waiting owes x × (b ≡ without a k)
  Removes a k (Err Missing) b = (value_at a k ≡ None) × (b ≡ a)
  Removes a k (Err InUse) b = ((x : X) × (value_at a k ≡ Some x) × (IsIdle waiting owes x → ⊥)) × (b ≡ a)

  -- The part is removed if it is idle.
  abbrev pub GoesIfIdle : ℕ → Table X → Table X → Type 0
  GoesIfIdle k a b = (answer : Result X RemoveError) × Removes a k answer b

-- A call on the part with this key leads it from x to y, as R says, and leaves all other parts.
abbrev pub At : {X : Type 0} → (X → X → Type 0) → ℕ → Table X → Table X → Type 0
At {X} R k a b = (x : X) × (y : X) × (value_at a k ≡ Some x) × R x y × (b ≡ with_value a k y)

-- Each part that may owe a wake is noted.
pub record IsNoted {X : Type 0} (owes : X → List ℕ) (places : Table (Option X)) (touched : Marks) : Type 0 where
  pub full : IsFull places
  pub noted : (k : ℕ) → (tasks_in owes (value_at (parts_of places) k) ≡ []) ⊎ IsMarked touched k

module _ {X : Type 0} (leads : X → X → Type 0) (lists : X → List ℕ → ℕ → Bool) (owes : X → List ℕ) where
  -- The part with this key hands out the first task that it owes. Nothing changes if it owes none.
  abbrev pub HandsAt : ℕ → Table X → Option ℕ → Table X → Type 0
  HandsAt k a None b = (tasks_in owes (value_at a k) ≡ []) × (b ≡ a)
  HandsAt k a (Some t) b = At (λ x y. Hands lists owes x (Some t) y × leads x y) k a b

-- No part with a lesser key owes a wake.
abbrev pub NoneBelow : {X : Type 0} → (X → List ℕ) → ℕ → Table X → Type 0
NoneBelow owes k a = (j : ℕ) → j < k → tasks_in owes (value_at a j) ≡ []

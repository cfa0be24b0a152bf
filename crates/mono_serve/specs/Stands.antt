-- Which tasks stand at which place of a list.
use Rattle.std.specs.Prelude.{◌≡◌, ◌==◌, ◌&&◌, ◌||◌, ℕ, Bool, true, false, List, [], ◌∷◌, map, refl}
use Rattle.std.specs.List.{list_any}

module _ {X : Type 0} (task_of : X → ℕ) where
  abbrev pub tasks_in : List X → List ℕ
  tasks_in xs = map task_of xs

  -- Whether the task stands at the place.
  abbrev pub stands : (List ℕ → X → Bool) → List X → List ℕ → ℕ → Bool
  stands is_at xs p t = list_any (λ x. (task_of x == t) && is_at p x) xs

some_if : (b c r s : Bool) → (r ≡ true → s ≡ true) → ((b && c) || r) ≡ true → (b || s) ≡ true
some_if true c r s f is = refl
some_if false c r s f is = f is

module _ {X : Type 0} (task_of : X → ℕ) (is_at : List ℕ → X → Bool) where
  -- Each task that stands is one of the list's.
  pub stands_some : (xs : List X) (p : List ℕ) (t : ℕ) → stands task_of is_at xs p t ≡ true → list_any (λ u. u == t) (tasks_in task_of xs) ≡ true
  stands_some [] p t is = is
  stands_some (x ∷ xs) p t is = some_if (task_of x == t) (is_at p x) (stands task_of is_at xs p t) (list_any (λ u. u == t) (tasks_in task_of xs)) (stands_some xs p t) is

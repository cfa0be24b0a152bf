-- The calls of a set of tasks, by their effect on its members and answers.
use Rattle.std.specs.Prelude.{true, ◌≡◌, ◌==◌, ◌+◌, if◌then◌else◌, ℕ, List, [], ◌∷◌, ◌++◌, Result}
use Rattle.mono_groups.specs.declared.members.Ended.{Ended}
use Rattle.mono_groups.specs.declared.until.Aborted.{Aborted}
use Rattle.mono_groups.specs.declared.join_set.JoinSet.{JoinSet}
use Rattle.mono_groups.specs.Answers.{Held, is_live, with_end, with_member}

pub data Event (T : Type 0) : Type 0 where
  -- A member came.
  came : Event T
  -- The member with this key ended with this answer.
  ended : (key : ℕ) → (answer : Result T Aborted) → Event T
  -- These answers were taken; none by most calls.
  taken : (answers : List (Ended T)) → Event T

module _ {T : Type 0} where
  abbrev pub Moves : Held T → Event T → Held T → Type 0
  Moves a came b = b ≡ with_member a
  Moves a (ended k x) b = (is_live a k ≡ true) × (b ≡ with_end a k x)
  Moves a (taken xs) b = (a.ended ≡ xs ++ b.ended) × (b.live ≡ a.live)

  -- Members that were aborted stay so.
  abbrev pub Step : JoinSet T → Event T → JoinSet T → Type 0
  Step a e b = (a.abort.is_cancelled ≡ true → b.abort.is_cancelled ≡ true) × Moves a.answers e b.answers

  -- The answers that members ended with, in order.
  abbrev pub put : List (Event T) → List (Ended T)
  put [] = []
  put (came ∷ es) = put es
  put (ended k x ∷ es) = record { key = k; answer = x } ∷ put es
  put (taken xs ∷ es) = put es

  -- The answers that were taken, in order.
  abbrev pub got : List (Event T) → List (Ended T)
  got [] = []
  got (came ∷ es) = got es
  got (ended k x ∷ es) = got es
  got (taken xs ∷ es) = xs ++ got es

  -- How many of these answers the member with this key ended with.
  abbrev pub times : ℕ → List (Ended T) → ℕ
  times k [] = 0
  times k (x ∷ xs) = (if x.key == k then 1 else 0) + times k xs

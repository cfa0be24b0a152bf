-- The inbox of an executor as its callers see it: a list of waiting tasks and a set of known tasks. It holds a row of
-- numbers ready before their tasks are made, and these are not known yet.
use Rattle.std.specs.Prelude.{◌≡◌, ◌≤◌, ℕ, nat_lt, Bool, true, false, not, ◌==◌, ◌&&◌, ◌||◌, if◌then◌else◌, List, [], slice_index_or}
use Rattle.mono_model.specs.Inbox.{is_waiting, with_waiting}
use Rattle.mono_inbox.specs.State.{State}
use Rattle.mono_inbox.specs.State as state

-- The tasks that wait, in the order in which their wakes came; for each number, in order, whether it is known or ready; and
-- the number of the next task. A number past the end is neither.
pub record TaskList : Type 0 where
  pub waiting : List ℕ
  pub held : List Bool
  pub next : ℕ

-- The inbox of a state that holds a row of numbers from `next` on ready.
abbrev pub seen_below : ℕ → State → TaskList
seen_below next s = record { waiting = s.waiting; held = s.known; next = next }

-- From `next` on, the state knows exactly the numbers below `until`.
pub record IsReadyUntil (next until : ℕ) (s : State) : Type 0 where
  pub ordered : next ≤ until
  pub row : (t : ℕ) → next ≤ t → state.is_known s t ≡ nat_lt t until

abbrev pub no_tasks : TaskList
no_tasks = record { waiting = []; held = []; next = 0 }

-- Only a number below the next task's is known.
abbrev pub is_known : TaskList → ℕ → Bool
is_known inbox t = slice_index_or inbox.held t false && nat_lt t inbox.next

abbrev pub with_list : TaskList → List ℕ → TaskList
with_list inbox waiting = record { waiting = waiting; held = inbox.held; next = inbox.next }

-- Whether a wake of the task is not listed: the task is not known, or waits already.
abbrev pub is_unlisted : TaskList → ℕ → Bool
is_unlisted inbox t = not (is_known inbox t) || is_waiting inbox.waiting t

-- Whether a wake of the task is listed, and the inbox after it: the task is the last in the list.
abbrev pub put_answer : TaskList → ℕ → Bool
put_answer inbox t = if is_unlisted inbox t then false else true

abbrev pub after_put : TaskList → ℕ → TaskList
after_put inbox t = if is_unlisted inbox t then inbox else with_list inbox (with_waiting inbox.waiting t)

-- The new inbox knows the task as well, and the waiting list is unchanged.
pub record AlsoKnows (old new : TaskList) (task : ℕ) : Type 0 where
  pub known : (t : ℕ) → is_known new t ≡ ((t == task) || is_known old t)
  pub waiting : new.waiting ≡ old.waiting

-- The new inbox no longer knows the task, and the waiting list is unchanged.
pub record Forgets (old new : TaskList) (task : ℕ) : Type 0 where
  pub known : (t : ℕ) → is_known new t ≡ (not (t == task) && is_known old t)
  pub waiting : new.waiting ≡ old.waiting

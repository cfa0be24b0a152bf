-- The invariant of the table's places and the queue.
use Rattle.std.specs.Prelude.{◌≡◌, ◌≤◌, ◌==◌, ◌+◌, ℕ, Bool, false, List, [], ◌∷◌, map, length, slice_index_or, Option, Some, None}
use Rattle.mono_model.specs.Table.{Table, count_of}
use Rattle.mono_model.specs.Tasks.{Tasks}
use Rattle.mono_model.specs.Valid.{times, once_if}
use Rattle.mono_task.specs.Places.{Entry, Gone}
use Rattle.mono_task.specs.Entries.{task_of, is_queued, is_running, is_unfinished}

abbrev pub entry_at : {O : Type 0} → List (Entry O) → ℕ → Entry O
entry_at entries t = slice_index_or entries t Gone

-- The place of a number: its task, or `Gone` if it was removed.
abbrev pub entry_of : {O : Type 0} → Option (Entry O) → Entry O
entry_of None = Gone
entry_of (Some entry) = entry

abbrev pub entries_of : {O : Type 0} → Table (Entry O) → List (Entry O)
entries_of places = map entry_of places

abbrev pub tasks_of : {O : Type 0} → List ℕ → List (Entry O) → ℕ → Tasks O
tasks_of queue entries limit = record { queue = queue; table = map task_of entries; limit = limit }

-- The count of places that pass a test.
abbrev pub count_where : {O : Type 0} → (Entry O → Bool) → List (Entry O) → ℕ
count_where test [] = 0
count_where test (e ∷ es) = once_if (test e) + count_where test es

-- Whether the running turn is that of t.
abbrev pub has_turn : Option ℕ → ℕ → Bool
has_turn None t = false
has_turn (Some s) t = s == t

pub record Stands {O : Type 0} (queue : List ℕ) (entries : List (Entry O)) (turn : Option ℕ) : Type 0 where
  -- The queue has each queued task once, and no other.
  pub queued : (t : ℕ) → times queue t ≡ once_if (is_queued (entry_at entries t))
  pub listed : length queue ≡ count_where is_queued entries
  -- The task whose turn runs is the running one, and there is no other.
  pub runs : (t : ℕ) → is_running (entry_at entries t) ≡ has_turn turn t

pub record Keeps {O : Type 0} (queue : List ℕ) (room : ℕ) (entries : List (Entry O)) (unfinished live : ℕ) (turn : Option ℕ) : Type 0 where
  pub stands : Stands queue entries turn
  -- The counts of unfinished tasks and of live tasks.
  pub unfinished_is : unfinished ≡ count_where is_unfinished entries
  pub live_is : live ≡ count_of (map task_of entries)
  -- Each unfinished task has room in the queue.
  pub sure : unfinished ≤ room

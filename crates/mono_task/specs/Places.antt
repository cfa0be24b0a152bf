-- The content of one place of the table of tasks.
use Rattle.mono_task.specs.declared.entries.Handle.{Handle}
use Rattle.mono_task.specs.declared.entries.Handle.TheVariants.{Dropped, Kept, Awaited}
use Rattle.mono_task.specs.declared.entries.State.{State}
use Rattle.mono_task.specs.declared.entries.State.TheVariants as state

-- An unfinished task with its handle, or a finished task whose handle is kept, or nothing.
pub data Entry (O : Type 0) : Type 0 where
  Gone : Entry O
  Taken : Entry O
  Done : (output : O) → Entry O
  Idle : (handle : Handle) → Entry O
  Queued : (handle : Handle) → Entry O
  Running : (handle : Handle) → Entry O
  Noted : (handle : Handle) → Entry O

abbrev pub entry_in : {O : Type 0} → State O → Entry O
entry_in state.Gone = Gone
entry_in state.Taken = Taken
entry_in (state.Done output) = Done output
entry_in state.IdleDropped = Idle Dropped
entry_in state.IdleKept = Idle Kept
entry_in (state.IdleAwaited by) = Idle (Awaited by)
entry_in state.QueuedDropped = Queued Dropped
entry_in state.QueuedKept = Queued Kept
entry_in (state.QueuedAwaited by) = Queued (Awaited by)
entry_in state.RunningDropped = Running Dropped
entry_in state.RunningKept = Running Kept
entry_in (state.RunningAwaited by) = Running (Awaited by)
entry_in state.NotedDropped = Noted Dropped
entry_in state.NotedKept = Noted Kept
entry_in (state.NotedAwaited by) = Noted (Awaited by)

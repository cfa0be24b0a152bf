-- The task at one place of the table, and what each call makes of the place.
use Rattle.std.specs.Prelude.{ℕ, Bool, true, false, Option, Some, None}
use Rattle.mono_model.specs.Tasks as model
use Rattle.mono_task.specs.declared.entries.Handle.{Handle}
use Rattle.mono_task.specs.declared.entries.Handle.TheVariants as handle
use Rattle.mono_task.specs.Places.{Entry, Gone, Taken, Done, Idle, Queued, Running, Noted}
use Rattle.mono_task.specs.declared.entries.Waking.{Waking}
use Rattle.mono_task.specs.declared.entries.Waking.TheVariants as waking

abbrev pub is_kept : Handle → Bool
is_kept handle.Dropped = false
is_kept handle.Kept = true
is_kept (handle.Awaited by) = true

abbrev pub waiter_of : Handle → Option ℕ
waiter_of handle.Dropped = None
waiter_of handle.Kept = None
waiter_of (handle.Awaited by) = Some by

abbrev pub in_hand : {O : Type 0} → model.Phase O → Handle → model.Task O
in_hand phase handle = record { phase = phase; is_kept = is_kept handle; waiter = waiter_of handle }

-- The task at this place, if any.
abbrev pub task_of : {O : Type 0} → Entry O → Option (model.Task O)
task_of Gone = None
task_of Taken = Some (record { phase = model.taken; is_kept = true; waiter = None })
task_of (Done output) = Some (record { phase = model.done output; is_kept = true; waiter = None })
task_of (Idle h) = Some (in_hand model.idle h)
task_of (Queued h) = Some (in_hand model.queued h)
task_of (Running h) = Some (in_hand (model.running false) h)
task_of (Noted h) = Some (in_hand (model.running true) h)

-- The handle of a task that has not finished.
abbrev pub handle_of : {O : Type 0} → Entry O → Option Handle
handle_of Gone = None
handle_of Taken = None
handle_of (Done output) = None
handle_of (Idle h) = Some h
handle_of (Queued h) = Some h
handle_of (Running h) = Some h
handle_of (Noted h) = Some h

abbrev pub woken_entry : {O : Type 0} → Entry O → Entry O
woken_entry Gone = Gone
woken_entry Taken = Taken
woken_entry (Done output) = Done output
woken_entry (Idle h) = Queued h
woken_entry (Queued h) = Queued h
woken_entry (Running h) = Noted h
woken_entry (Noted h) = Noted h

abbrev pub waking_of : {O : Type 0} → Entry O → Waking
waking_of Gone = waking.Nothing
waking_of Taken = waking.Nothing
waking_of (Done output) = waking.Nothing
waking_of (Idle h) = waking.Queues
waking_of (Queued h) = waking.Nothing
waking_of (Running h) = waking.Notes
waking_of (Noted h) = waking.Notes

abbrev pub begun_entry : {O : Type 0} → Entry O → Entry O
begun_entry Gone = Gone
begun_entry Taken = Taken
begun_entry (Done output) = Done output
begun_entry (Idle h) = Idle h
begun_entry (Queued h) = Running h
begun_entry (Running h) = Running h
begun_entry (Noted h) = Noted h

abbrev pub paused_entry : {O : Type 0} → Entry O → Entry O
paused_entry Gone = Gone
paused_entry Taken = Taken
paused_entry (Done output) = Done output
paused_entry (Idle h) = Idle h
paused_entry (Queued h) = Queued h
paused_entry (Running h) = Idle h
paused_entry (Noted h) = Queued h

-- Whether the task goes into the queue again after its turn.
abbrev pub is_noted : {O : Type 0} → Entry O → Bool
is_noted Gone = false
is_noted Taken = false
is_noted (Done output) = false
is_noted (Idle h) = false
is_noted (Queued h) = false
is_noted (Running h) = false
is_noted (Noted h) = true

abbrev pub finished_entry : {O : Type 0} → Handle → O → Entry O
finished_entry handle.Dropped output = Gone
finished_entry handle.Kept output = Done output
finished_entry (handle.Awaited by) output = Done output

abbrev pub completed_entry : {O : Type 0} → Entry O → O → Entry O
completed_entry Gone output = Gone
completed_entry Taken output = Taken
completed_entry (Done before) output = Done before
completed_entry (Idle h) output = finished_entry h output
completed_entry (Queued h) output = finished_entry h output
completed_entry (Running h) output = finished_entry h output
completed_entry (Noted h) output = finished_entry h output

-- Whether the task has finished and its handle is kept.
abbrev pub is_over : {O : Type 0} → Entry O → Bool
is_over Gone = false
is_over Taken = true
is_over (Done output) = true
is_over (Idle h) = false
is_over (Queued h) = false
is_over (Running h) = false
is_over (Noted h) = false

abbrev pub awaited_by : Handle → ℕ → Handle
awaited_by handle.Dropped by = handle.Dropped
awaited_by handle.Kept by = handle.Awaited by
awaited_by (handle.Awaited before) by = handle.Awaited by

abbrev pub joined_entry : {O : Type 0} → Entry O → ℕ → Entry O
joined_entry Gone by = Gone
joined_entry Taken by = Taken
joined_entry (Done output) by = Taken
joined_entry (Idle h) by = Idle (awaited_by h by)
joined_entry (Queued h) by = Queued (awaited_by h by)
joined_entry (Running h) by = Running (awaited_by h by)
joined_entry (Noted h) by = Noted (awaited_by h by)

abbrev pub dropped_entry : {O : Type 0} → Entry O → Entry O
dropped_entry Gone = Gone
dropped_entry Taken = Gone
dropped_entry (Done output) = Gone
dropped_entry (Idle h) = Idle handle.Dropped
dropped_entry (Queued h) = Queued handle.Dropped
dropped_entry (Running h) = Running handle.Dropped
dropped_entry (Noted h) = Noted handle.Dropped

abbrev pub is_queued : {O : Type 0} → Entry O → Bool
is_queued Gone = false
is_queued Taken = false
is_queued (Done output) = false
is_queued (Idle h) = false
is_queued (Queued h) = true
is_queued (Running h) = false
is_queued (Noted h) = false

abbrev pub is_running : {O : Type 0} → Entry O → Bool
is_running Gone = false
is_running Taken = false
is_running (Done output) = false
is_running (Idle h) = false
is_running (Queued h) = false
is_running (Running h) = true
is_running (Noted h) = true

-- Whether the task has not finished.
abbrev pub is_unfinished : {O : Type 0} → Entry O → Bool
is_unfinished Gone = false
is_unfinished Taken = false
is_unfinished (Done output) = false
is_unfinished (Idle h) = true
is_unfinished (Queued h) = true
is_unfinished (Running h) = true
is_unfinished (Noted h) = true

-- The list of the live tasks of a machine, with the sources for which they wait.
use Rattle.std.specs.Prelude.{zero, suc, ℕ, ◌==◌, Bool, true, false, List, [], ◌∷◌, ◌++◌, Option, Some, None}
use Rattle.mono_model.specs.Table.{value_at, next_number}
use Rattle.mono_model.specs.Sleeps.{Sleep, fresh, armed, elapsed}
use Rattle.mono_task.specs.declared.phases.TaskPhase.{TaskPhase}
use Rattle.mono_task.specs.TaskPhases.{phase_in}
use Rattle.mono_machine.specs.Machine.{Machine}
use Rattle.mono_machine.specs.History.{waiter_at}
use Rattle.mono_machine.specs.Watches.{job_waiter}
use Rattle.mono_rt.specs.declared.task_waits.WaitsFor.{WaitsFor}
use Rattle.mono_rt.specs.declared.task_waits.WaitsFor.TheVariants as source
use Rattle.mono_rt.specs.declared.task_waits.TaskWait.{TaskWait}
use Rattle.mono_rt.specs.declared.task_waits.Watch.{Watch}

-- The lists of the numbers below n, in order.
abbrev pub each_below : {A : Type 0} → (ℕ → List A) → ℕ → List A
each_below f zero = []
each_below f (suc n) = each_below f n ++ f n

-- The watch of a source, if a task waits for it.
abbrev pub watch : WaitsFor → Option ℕ → List Watch
watch source None = []
watch source (Some task) = record { by = task; source = source } ∷ []

-- A sleep is waited for until the tick at which it is armed.
abbrev pub sleep_watch : ℕ → Option Sleep → List Watch
sleep_watch s None = []
sleep_watch s (Some (fresh nanos)) = []
sleep_watch s (Some (armed a)) = watch (source.Sleep s a.tick) a.waker
sleep_watch s (Some elapsed) = []

-- The same of a sleep whose tick and waker are known.
abbrev pub tick_watch : ℕ → Option (ℕ × ℕ) → List Watch
tick_watch s None = []
tick_watch s (Some (tick, task)) = watch (source.Sleep s tick) (Some task)

-- All sources for which some task waits: the sleeps, then the tasks, then the jobs, each by their numbers.
abbrev pub watches : Machine → List Watch
watches m = (each_below (λ s. sleep_watch s (value_at m.sleeps.table s)) (next_number m.sleeps.table)
    ++ each_below (λ u. watch (source.Task u) (waiter_at (value_at m.tasks.table u))) (next_number m.tasks.table))
    ++ each_below (λ j. watch (source.Job j) (job_waiter (value_at m.jobs.table j))) (next_number m.jobs.table)

-- A live task with its phase, and a source for which it waits.
pub record Row : Type 0 where
  pub task : ℕ
  pub phase : TaskPhase
  pub waits_for : WaitsFor

abbrev pub row : ℕ → TaskPhase → WaitsFor → Row
row task phase source = record { task = task; phase = phase; waits_for = source }

-- A row of the list, without the mark that another thread may wake the task: the machine knows nothing of it.
abbrev pub row_of : TaskWait → Row
row_of r = row r.task r.phase r.waits_for

-- The sources for which this task waits.
abbrev pub row_by : Bool → ℕ → TaskPhase → WaitsFor → List Row
row_by true task phase source = row task phase source ∷ []
row_by false task phase source = []

abbrev pub own_rows : List Watch → ℕ → TaskPhase → List Row
own_rows [] task phase = []
own_rows (w ∷ ws) task phase = row_by (w.by == task) task phase w.source ++ own_rows ws task phase

-- If there are none, the task waits for nothing.
abbrev pub or_nothing : ℕ → TaskPhase → List Row → List Row
or_nothing task phase [] = row task phase source.Nothing ∷ []
or_nothing task phase (r ∷ rows) = r ∷ rows

-- The rows of a number; it has none unless it is that of a live task.
abbrev pub rows_of : List Watch → ℕ → Option TaskPhase → List Row
rows_of ws task None = []
rows_of ws task (Some phase) = or_nothing task phase (own_rows ws task phase)

-- Each live task, by its number, with each source for which it waits.
abbrev pub task_waits : Machine → List Row
task_waits m = each_below (λ t. rows_of (watches m) t (phase_in (value_at m.tasks.table t))) (next_number m.tasks.table)

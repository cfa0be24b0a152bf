-- What a call leaves of a runtime and of a context as it was.
use Rattle.std.specs.Prelude.{◌≡◌, ℕ, true, []}
use Rattle.mono_machine.specs.Machine.{Machine}
use Rattle.mono_blocking.specs.JobSpawns.{strategy_of}
use Rattle.mono_rt.specs.EndedTasks.{all_in, ListsEnded}
use Rattle.mono_rt.specs.Views.{Refines, Grows, ended_tasks}
use Rattle.mono_rt.specs.declared.contexts.Cx.{Cx}
use Rattle.mono_rt.specs.declared.runtimes.Runtime.{Runtime}

module _ {F O D P W U J A V : Type 0} where
  -- The tasks, the sleeps, the jobs, the futures, the wakers and the shared value are as before.
  abbrev pub KeepsContext : Runtime F O D P W U J A V → Runtime F O D P W U J A V → Type 0
  KeepsContext old new = new.cx ≡ old.cx

  -- The strategy for blocking jobs is as before, if the runtime refined a machine. So a pool that was attached still is.
  abbrev pub KeepsStrategy : (O → ℕ) → Runtime F O D P W U J A V → Runtime F O D P W U J A V → Type 0
  KeepsStrategy number old new = (m : Machine) → Refines number old m → strategy_of new.cx.parts.blocking.pool ≡ strategy_of old.cx.parts.blocking.pool

  -- Each task that ended was made unknown to the inbox, in order: those that had ended before, and those whose turns ended
  -- ready among the entries by which the history grew. None waits for it.
  pub record HasRetired (number : O → ℕ) (old new : Runtime F O D P W U J A V) : Type 0 where
    pub unknown : Grows number (ListsEnded (ended_tasks old) (all_in new.cx.wakers.retired.entries)) old new
    pub none : new.cx.wakers.ended.items ≡ []

  -- Nothing but the tasks and the futures changed.
  abbrev pub ChangesTasksAlone : Runtime F O D P W U J A V → Runtime F O D P W U J A V → Type 0
  ChangesTasksAlone old new = new ≡ record old { cx = record old.cx { parts = record old.cx.parts { tasks = new.cx.parts.tasks }; futures = new.cx.futures } }

module _ {F O P U W J A V : Type 0} where
  -- Nothing but the parts and the futures changed.
  abbrev pub ChangesPartsAndFutures : Cx F O P U W J A V → Cx F O P U W J A V → Type 0
  ChangesPartsAndFutures c d = d ≡ record c { parts = d.parts; futures = d.futures }

  -- Nothing changed but that a remote waker of the running task was handed out.
  abbrev pub HandsOut : Cx F O P U W J A V → Cx F O P U W J A V → Type 0
  HandsOut c d = d ≡ record c { has_handed_out = true }

  -- Nothing changed but that an allocation of the turn failed.
  abbrev pub NotesMemory : Cx F O P U W J A V → Cx F O P U W J A V → Type 0
  NotesMemory c d = d ≡ record c { parts = record c.parts { is_out_of_memory = true } }

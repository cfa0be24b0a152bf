use Rattle.std.proofs.Common.{ap, sym, ◌∙◌}
use Rattle.mono_task.specs.Entries.{task_of}
use Rattle.mono_task.specs.Invariants.{entries_of}
use Rattle.mono_task.specs.TaskPhases.{waiter_in}
use Rattle.mono_task.proofs.TableWriteLemmas.{value_at-entries}
use Rattle.mono_task.proofs.PlaceTableLemmas.{found, absent}
use Rattle.mono_task.proofs.table.Tasks.waiter.Goals as goal

pub returns-in-None : goal.returns-in-None
returns-in-None g c =
    rw (← c.self.view_is) (sym (ap waiter_in (value_at-entries (entries_of c.self.inside.entries) c.args.task ∙ ap task_of (absent c.self.inside.entries c.args.task (sym c.in-None.ensures)))))

pub returns-in-Some : goal.returns-in-Some
returns-in-Some g c =
    rw (← c.self.view_is) (c.waiter.ensures ∙ ap waiter_in (sym (value_at-entries (entries_of c.self.inside.entries) c.args.task ∙ ap task_of (found c.self.inside.entries c.args.task _ (sym c.in-Some.ensures)))))

use Rattle.std.proofs.Common.{ap, sym, ◌∙◌}
use Rattle.std.specs.Prelude.{is_some}
use Rattle.mono_task.specs.Entries.{task_of}
use Rattle.mono_task.specs.Invariants.{entries_of}
use Rattle.mono_task.specs.Work.{has_output}
use Rattle.mono_task.proofs.TableWriteLemmas.{value_at-entries}
use Rattle.mono_task.proofs.HandleLemmas.{gives_output}
use Rattle.mono_task.proofs.PlaceTableLemmas.{found, absent, inside}
use Rattle.mono_task.proofs.table.Tasks.has_output.Goals as goal

pub returns-in-None-clause-answer : goal.returns-in-None-clause-answer
returns-in-None-clause-answer g c =
    rw (← c.self.view_is) (sym (ap has_output (value_at-entries (entries_of c.self.inside.entries) c.args.task ∙ ap task_of (absent c.self.inside.entries c.args.task (sym c.in-None.ensures)))))

pub returns-in-Some-clause-answer : goal.returns-in-Some-clause-answer
returns-in-Some-clause-answer g c =
    rw (← c.self.view_is) (c.has_output.ensures ∙ ap has_output (sym (value_at-entries (entries_of c.self.inside.entries) c.args.task ∙ ap task_of (found c.self.inside.entries c.args.task _ (sym c.in-Some.ensures)))))

pub returns-in-Some-clause-given : goal.returns-in-Some-clause-given
returns-in-Some-clause-given g c =
    let here = sym c.in-Some.ensures in
    let there = ap is_some here in
    λ out. rw (← c.self.view_is) (gives_output c.self.inside.queue.items (entries_of c.self.inside.entries) c.self.inside.limit c.args.task (inside c.self.inside.entries c.args.task there) _ (found c.self.inside.entries c.args.task _ here) (sym c.has_output.ensures ∙ out))

use Rattle.std.proofs.Common.{Ok, ap, sym, ◌∙◌, arith}
use Rattle.mono_task.specs.Entries.{task_of}
use Rattle.mono_task.specs.Invariants.{entries_of}
use Rattle.mono_task.specs.Work.{has_finished}
use Rattle.mono_task.proofs.PlaceLemmas.{over_at}
use Rattle.mono_task.proofs.PlaceTableLemmas.{found, absent, length_of}
use Rattle.mono_task.proofs.table.Tasks.has_finished.Goals as goal

pub returns-in-None : goal.returns-in-None
returns-in-None g c =
    let len = length_of c.self.inside.entries in
    rw (← c.self.view_is) (sym (over_at c.self.inside.queue.items (entries_of c.self.inside.entries) c.self.inside.limit c.args.task (omega (arith, len, c.len.ensures)) ∙ ap (λ e. Ok (has_finished (task_of e))) (absent c.self.inside.entries c.args.task (sym c.in-None.ensures))))

pub returns-in-Some : goal.returns-in-Some
returns-in-Some g c =
    let len = length_of c.self.inside.entries in
    rw (← c.self.view_is) (ap Ok c.has_finished.ensures ∙ sym (over_at c.self.inside.queue.items (entries_of c.self.inside.entries) c.self.inside.limit c.args.task (omega (arith, len, c.len.ensures)) ∙ ap (λ e. Ok (has_finished (task_of e))) (found c.self.inside.entries c.args.task _ (sym c.in-Some.ensures))))

use Rattle.std.proofs.Common.{◌∙◌}
use Rattle.mono_rt.proofs.TaskWaitLemmas.{rows-machine}
use Rattle.mono_rt.proofs.runtimes.Runtime.tasks.Goals as goal

pub returns : goal.returns
returns g c = λ m fits.
    rows-machine g.O.Outcome.output_number c.args.self.now.cx.parts.tasks.tasks m c.deref.result.now c.new-list.result.items c.add_all.new.list.items
    fits.matches.tasks (c.deref.ensures.value ∙ c.in_ok-watches.ensures m fits.matches) c.new-list.ensures.items c.in_ok-add_all.ensures

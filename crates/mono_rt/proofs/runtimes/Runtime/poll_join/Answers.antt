use Rattle.std.proofs.Common.{rules, refl}
use Rattle.mono_rt.specs.Handles.{TakesOutput}
use Rattle.mono_rt.specs.Refinement.{hosting_of}
use Rattle.mono_rt.proofs.CallLemmas.{with_all}
use Rattle.mono_rt.proofs.HandleLemmas.{polls}
use Rattle.mono_rt.proofs.runtimes.Runtime.poll_join.Goals as goal

pub returns-clause-machine : goal.returns-clause-machine
returns-clause-machine g c = λ m st.
    let number = g.O.Outcome.output_number in
    let placed = c.args.self.now.cx.parts in
    let made = with_all number hosting_of placed c.poll_join.new.self placed.timers placed.acts in
    let took : TakesOutput placed.tasks.tasks c.args.handle.now c.poll_join.result c.poll_join.new.self.tasks = search rules in
    polls number placed made m c.args.handle.now c.poll_join.result st (rw c.task-task.ensures at c.poll_join.ensures.answer) took refl refl refl

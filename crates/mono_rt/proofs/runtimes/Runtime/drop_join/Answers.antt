use Rattle.std.proofs.Common.{refl, ap}
use Rattle.mono_rt.specs.Refinement.{hosting_of}
use Rattle.mono_rt.proofs.CallLemmas.{with_all}
use Rattle.mono_rt.proofs.HandleLemmas.{drops}
use Rattle.mono_rt.proofs.runtimes.Runtime.drop_join.Goals as goal

pub returns-clause-machine : goal.returns-clause-machine
returns-clause-machine g c = λ m st.
    let number = g.O.Outcome.output_number in
    let placed = c.args.self.now.cx.parts in
    let made = with_all number hosting_of placed c.drop_join.new.self placed.timers placed.acts in
    drops number placed made m c.args.handle c.drop_join.result st (rw c.task.ensures at c.drop_join.ensures.answer) (ap (λ s. s.tasks) (rw c.task.ensures at c.drop_join.ensures.after)) refl refl refl

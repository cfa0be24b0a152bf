use Rattle.std.proofs.Common.{sym, ◌∙◌, ap, subst}
use Rattle.mono_model.specs.Tasks.{all_woken}
use Rattle.mono_time.specs.Instants.{nanos_of}
use Rattle.mono_machine.specs.Steps.{at_clock}
use Rattle.mono_replay.specs.PartRefinement.{MatchesInStep}
use Rattle.mono_machine.proofs.FireLemmas.{fires-apart}
use Rattle.mono_replay.proofs.clock_steps.fire_all.Goals as goal

pub returns-clause-fires : goal.returns-clause-fires
returns-clause-fires g c = λ m st.
    let n = nanos_of c.args.now in
    let due = c.take_due-due.result in
    let fires = c.take_due-due.ensures.fires m.sleeps st.keeps in (
      subst (MatchesInStep c.take_due-due.new.timers c.wake_all.new.tasks) (sym (fires-apart (at_clock m n) due.fired.items)) (record {
        keeps = fires.0;
        same_tasks = ap (λ x. x.tasks) c.wake_all.ensures ∙ ap (λ x. all_woken x c.deref.result.now) st.same_tasks ∙ ap (all_woken m.tasks) (c.deref.ensures.value ∙ c.take_due-due.ensures.wakers m.sleeps st.keeps);
      }),
      fires.1,
    )

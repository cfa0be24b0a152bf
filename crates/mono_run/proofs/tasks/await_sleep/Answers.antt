use Rattle.std.proofs.Common.{ap, sym, ◌∙◌, arith}
use Rattle.mono_machine.specs.declared.events.Act.TheVariants as act
use Rattle.mono_machine.specs.declared.events.TurnStep.TheVariants as step
use Rattle.mono_rt.specs.Reaches.{reaches_on}
use Rattle.mono_run.specs.ScriptTurns.{acted}
use Rattle.mono_run.proofs.SegmentLemmas.{kept_before, goes_on}
use Rattle.mono_run.proofs.TaskCallLemmas.{sleep_pending, sleep_ready, sleep_dropped}
use Rattle.mono_run.proofs.FewActsLemmas.{one_act}
use Rattle.mono_run.proofs.tasks.await_sleep.Goals as goal

pub returns-then-waits-clause-goes : goal.returns-then-waits-clause-goes
returns-then-waits-clause-goes c = λ task here f had.
    let kept = c.poll_sleep-answer.ensures.kept in
    sleep_pending task c.args.cx.now c.poll_sleep-answer.new.self had f here c.args.number c.poll_sleep-answer.result (ap (λ x. x.parts.acts) kept) (ap (λ x. x.futures.items) kept) (sym c.waits.ensures ∙ c.if-waits.true)

pub returns-clause-reached : goal.returns-clause-reached
returns-clause-reached c = reaches_on (λ n. n) c.args.cx.now c.poll_sleep-answer.new.self c.drop_sleep.new.self c.poll_sleep-answer.ensures.reached c.drop_sleep.ensures.reached

pub returns-clause-goes : goal.returns-clause-goes
returns-clause-goes c = λ task here f had.
    let mid = c.poll_sleep-answer.new.self in
    let last = c.drop_sleep.new.self in
    let polled = c.poll_sleep-answer.ensures.kept in
    let dropped = c.drop_sleep.ensures.kept in
    let before = kept_before mid last c.drop_sleep.ensures.reached had in
    goes_on task _ (acted (step.Act (act.DropSleep c.args.number)) f) f c.args.cx.now mid last
    (sleep_ready task c.args.cx.now mid before f here c.args.number c.poll_sleep-answer.result (ap (λ x. x.parts.acts) polled) (ap (λ x. x.futures.items) polled) (sym c.waits.ensures ∙ c.if-waits.false))
    (sleep_dropped task mid last had f c.args.number c.drop_sleep.result (ap (λ x. x.parts.acts) dropped) (ap (λ x. x.futures.items) dropped))

pub returns-then-waits-clause-few : goal.returns-then-waits-clause-few
returns-then-waits-clause-few c = omega (arith, one_act c.args.cx.now.parts.acts c.poll_sleep-answer.new.self.parts.acts _ _ (ap (λ x. x.parts.acts) c.poll_sleep-answer.ensures.kept))

pub returns-clause-few : goal.returns-clause-few
returns-clause-few c =
    let mid = c.poll_sleep-answer.new.self.parts.acts in
    omega (
      arith,
      one_act c.args.cx.now.parts.acts mid _ _ (ap (λ x. x.parts.acts) c.poll_sleep-answer.ensures.kept),
      one_act mid c.drop_sleep.new.self.parts.acts _ _ (ap (λ x. x.parts.acts) c.drop_sleep.ensures.kept),
    )

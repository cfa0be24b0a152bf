use Rattle.std.proofs.Common.{ap, sym, ◌∙◌, arith}
use Rattle.mono_machine.specs.declared.events.Act.TheVariants as act
use Rattle.mono_machine.specs.declared.events.TurnStep.TheVariants as step
use Rattle.mono_rt.specs.Reaches.{reaches_on}
use Rattle.mono_run.specs.ScriptTurns.{acted}
use Rattle.mono_run.proofs.SegmentLemmas.{kept_before, goes_on}
use Rattle.mono_run.proofs.TaskCallLemmas.{job_pending, job_ready, job_dropped}
use Rattle.mono_run.proofs.FewActsLemmas.{of_job_poll, of_job_drop}
use Rattle.mono_run.proofs.tasks.await_job.Goals as goal

pub returns-then-waits-clause-goes : goal.returns-then-waits-clause-goes
returns-then-waits-clause-goes c = λ task here f had.
    job_pending task c.args.cx.now c.poll_job-answer.new.self had (λ n. n) f c.args.number (ap (λ x. x.futures.items) c.poll_job-answer.ensures.same) here c.poll_job-answer.result c.poll_job-answer.ensures.polled (sym c.waits.ensures ∙ c.if-waits.true)

pub returns-clause-reached : goal.returns-clause-reached
returns-clause-reached c = reaches_on (λ n. n) c.args.cx.now c.poll_job-answer.new.self c.drop_job.new.self c.poll_job-answer.ensures.reached c.drop_job.ensures.reached

pub returns-clause-goes : goal.returns-clause-goes
returns-clause-goes c = λ task here f had.
    let mid = c.poll_job-answer.new.self in
    let last = c.drop_job.new.self in
    let before = kept_before mid last c.drop_job.ensures.reached had in
    goes_on task _ (acted (step.Act (act.DropJob c.args.number)) f) f c.args.cx.now mid last
    (job_ready task c.args.cx.now mid before (λ n. n) f c.args.number (ap (λ x. x.futures.items) c.poll_job-answer.ensures.same) here c.poll_job-answer.result c.poll_job-answer.ensures.polled (sym c.waits.ensures ∙ c.if-waits.false))
    (job_dropped task mid last had (λ n. n) f c.args.number (ap (λ x. x.futures.items) c.drop_job.ensures.same) c.drop_job.result c.drop_job.ensures.dropped)

pub returns-then-waits-clause-few : goal.returns-then-waits-clause-few
returns-then-waits-clause-few c = omega (arith, of_job_poll c.args.cx.now.parts c.poll_job-answer.new.self.parts (λ n. n) c.args.number c.poll_job-answer.result c.poll_job-answer.ensures.polled)

pub returns-clause-few : goal.returns-clause-few
returns-clause-few c =
    let mid = c.poll_job-answer.new.self.parts in
    omega (
      arith,
      of_job_poll c.args.cx.now.parts mid (λ n. n) c.args.number c.poll_job-answer.result c.poll_job-answer.ensures.polled,
      of_job_drop mid c.drop_job.new.self.parts (λ n. n) c.args.number c.drop_job.result c.drop_job.ensures.dropped,
    )

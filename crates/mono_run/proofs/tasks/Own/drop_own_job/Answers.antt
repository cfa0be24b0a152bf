use Rattle.std.proofs.Common.{ap, sym, ◌∙◌, refl, None}
use Rattle.std.specs.Prelude.{slice_index_or}
use Rattle.mono_machine.specs.declared.events.Act.TheVariants as act
use Rattle.mono_machine.specs.declared.events.TurnStep.TheVariants as step
use Rattle.mono_run.specs.ScriptTurns.{acted}
use Rattle.mono_run.proofs.SegmentLemmas.{handled, unhandled}
use Rattle.mono_run.proofs.TaskCallLemmas.{job_dropped}
use Rattle.mono_rt.specs.Reaches.{reaches_itself}
use Rattle.mono_run.proofs.FewActsLemmas.{no_act, of_job_drop}
use Rattle.mono_run.proofs.tasks.Own.drop_own_job.Goals as goal

pub returns-in-Some-clause-goes : goal.returns-in-Some-clause-goes
returns-in-Some-clause-goes c = λ task f had.
    let old = c.args.cx.now in
    let new = c.drop_job.new.self in
    handled task (slice_index_or c.args.self.now.jobs c.args.i None) c.in-Some.number (λ h q. acted (step.Act (act.DropJob h)) f q) f f old new (sym c.get.ensures ∙ c.in-Some.is)
    (job_dropped task old new had (λ n. n) f c.in-Some.number (ap (λ x. x.futures.items) c.drop_job.ensures.same) c.drop_job.result c.drop_job.ensures.dropped)

pub returns-in-None-clause-goes : goal.returns-in-None-clause-goes
returns-in-None-clause-goes c = λ task f had.
    unhandled task (slice_index_or c.args.self.now.jobs c.args.i None) (λ h q. acted (step.Act (act.DropJob h)) f q) f c.args.cx.now c.args.cx.now (sym c.get.ensures ∙ c.in-None.is) refl refl

pub returns-in-None-clause-reached : goal.returns-in-None-clause-reached
returns-in-None-clause-reached c = reaches_itself (λ n. n) c.args.cx.now

pub returns-in-Some-clause-few : goal.returns-in-Some-clause-few
returns-in-Some-clause-few c = of_job_drop c.args.cx.now.parts c.drop_job.new.self.parts (λ n. n) c.in-Some.number c.drop_job.result c.drop_job.ensures.dropped

pub returns-in-None-clause-few : goal.returns-in-None-clause-few
returns-in-None-clause-few c = no_act 2 c.args.cx.now.parts.acts c.args.cx.now.parts.acts refl

use Rattle.std.proofs.Common.{ap, subst, Some, None}
use Rattle.mono_machine.specs.declared.events.Act.TheVariants as act
use Rattle.mono_machine.specs.declared.events.TurnStep.TheVariants as step
use Rattle.mono_run.specs.ScriptTurns.{asked, job_in, none_made}
use Rattle.mono_run.specs.Segments.{Goes}
use Rattle.mono_run.proofs.TaskCallLemmas.{job_made, job_refused}
use Rattle.mono_run.proofs.FewActsLemmas.{of_block_call}
use Rattle.mono_run.proofs.tasks.block.Goals as goal

pub returns-in-Ok-clause-goes : goal.returns-in-Ok-clause-goes
returns-in-Ok-clause-goes g c = λ task k had.
    let old = c.args.cx.now in
    let new = c.spawn_blocking.new.self in
    rw c.job.ensures
    (subst (λ n. Goes task (asked (step.Act (act.Block n)) job_in none_made k) (k (Some c.in-Ok.handle.job)) old new) c.new.ensures
    (job_made task old new had (λ job. job.output) c.new.result k (ap (λ x. x.futures.items) c.spawn_blocking.ensures.same) c.in-Ok.handle c.in-Ok.ensures.spawned))

pub returns-in-Err-clause-goes : goal.returns-in-Err-clause-goes
returns-in-Err-clause-goes g c = λ task k had.
    let old = c.args.cx.now in
    let new = c.spawn_blocking.new.self in
    subst (λ n. Goes task (asked (step.Act (act.Block n)) job_in none_made k) (k None) old new) c.new.ensures
    (job_refused task old new had (λ job. job.output) c.new.result k (ap (λ x. x.futures.items) c.spawn_blocking.ensures.same) c.in-Err.field-0 c.in-Err.ensures.spawned)

pub returns-in-Ok-clause-few : goal.returns-in-Ok-clause-few
returns-in-Ok-clause-few g c = of_block_call c.args.cx.now.parts c.spawn_blocking.new.self.parts (λ job. job.output) c.new.result c.spawn_blocking.result c.spawn_blocking.ensures.spawned

pub returns-in-Err-clause-few : goal.returns-in-Err-clause-few
returns-in-Err-clause-few g c = of_block_call c.args.cx.now.parts c.spawn_blocking.new.self.parts (λ job. job.output) c.new.result c.spawn_blocking.result c.spawn_blocking.ensures.spawned

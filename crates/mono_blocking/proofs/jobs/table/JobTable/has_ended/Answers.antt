use Rattle.std.proofs.Common.{◌≡◌, subst, ◌∙◌, Ok}
use Rattle.mono_model.specs.Jobs as job
use Rattle.mono_machine.specs.JobCalls.{kept_job}
use Rattle.mono_blocking.specs.JobTable.{job_of, ended_job}
use Rattle.mono_blocking.proofs.JobPlaceLemmas.{back_is, held_is, same_is}
use Rattle.mono_blocking.proofs.jobs.table.JobTable.has_ended.Goals as goal

pub returns-in-Ok-Taken-clause-jobs : goal.returns-in-Ok-Taken-clause-jobs
returns-in-Ok-Taken-clause-jobs g c =
    let jobs = c.args.self.now.jobs in
    let j = c.args.j in
    let kept : Ok job.taken ≡ kept_job jobs j = subst (λ p. Ok (job_of p) ≡ kept_job jobs j) c.in-Ok-Taken.field-0-is c.in-Ok-Taken.ensures.found in
    c.take.ensures.jobs ∙ held_is jobs j _ kept ∙ same_is jobs j _ kept

pub returns-in-Ok-Ended-clause-jobs : goal.returns-in-Ok-Ended-clause-jobs
returns-in-Ok-Ended-clause-jobs g c =
    let jobs = c.args.self.now.jobs in
    let j = c.args.j in
    let kept : Ok (ended_job c.in-Ok-Ended.number c.in-Ok-Ended.output) ≡ kept_job jobs j = subst (λ p. Ok (job_of p) ≡ kept_job jobs j) c.in-Ok-Ended.field-0-is c.in-Ok-Ended.ensures.found in
    back_is jobs j _ kept _ _ _ c.take.ensures.jobs c.put.ensures.jobs ∙ same_is jobs j _ kept

pub returns-in-Ok-Running-clause-jobs : goal.returns-in-Ok-Running-clause-jobs
returns-in-Ok-Running-clause-jobs g c =
    let jobs = c.args.self.now.jobs in
    let j = c.args.j in
    let kept : Ok (job.running c.in-Ok-Running.number c.in-Ok-Running.waiter) ≡ kept_job jobs j = subst (λ p. Ok (job_of p) ≡ kept_job jobs j) c.in-Ok-Running.field-0-is c.in-Ok-Running.ensures.found in
    back_is jobs j _ kept _ _ _ c.take.ensures.jobs c.put-in-Ok-Running.ensures.jobs ∙ same_is jobs j _ kept

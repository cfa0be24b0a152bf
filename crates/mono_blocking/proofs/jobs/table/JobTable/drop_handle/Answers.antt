use Rattle.std.proofs.Common.{◌≡◌, sym, subst, ◌∙◌, Ok}
use Rattle.mono_model.specs.Jobs as job
use Rattle.mono_machine.specs.JobCalls.{kept_job}
use Rattle.mono_blocking.specs.JobTable.{job_of}
use Rattle.mono_blocking.proofs.JobPlaceLemmas.{dropped_is, dropped_then}
use Rattle.mono_blocking.proofs.jobs.table.JobTable.drop_handle.Goals as goal

pub returns-in-Some-clause-jobs : goal.returns-in-Some-clause-jobs
returns-in-Some-clause-jobs g c =
    let jobs = c.args.self.now.jobs in
    let j = c.args.j in
    let kept : Ok (job.running c.in-Ok-Running._number c.in-Ok-Running.waiter) ≡ kept_job jobs j = subst (λ p. Ok (job_of p) ≡ kept_job jobs j) c.in-Ok-Running.field-0-is c.in-Ok-Running.ensures.found in
    c.take_out.ensures.jobs ∙ dropped_is jobs j _ kept ∙ sym (dropped_then jobs j _ _ kept c.how_of-how.result)

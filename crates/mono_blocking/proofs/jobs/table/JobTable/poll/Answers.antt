use Rattle.std.proofs.Common.{◌≡◌, ap, sym, subst, ◌∙◌, Ok, Some}
use Rattle.mono_model.specs.Jobs as job
use Rattle.mono_machine.specs.JobCalls.{kept_job, with_job, job_polled}
use Rattle.mono_blocking.specs.JobAnswers.{after_end}
use Rattle.mono_blocking.specs.JobTable.{job_of, ended_job}
use Rattle.mono_blocking.proofs.JobPlaceLemmas.{back_is, held_is, polled_is, polled_then, polled_ended, polled_ended_job}
use Rattle.mono_blocking.proofs.jobs.table.JobTable.poll.Goals as goal

pub returns-in-Ok-Taken-clause-jobs : goal.returns-in-Ok-Taken-clause-jobs
returns-in-Ok-Taken-clause-jobs g c =
    let jobs = c.args.self.now.jobs in
    let j = c.args.j in
    let kept : Ok job.taken ≡ kept_job jobs j = subst (λ p. Ok (job_of p) ≡ kept_job jobs j) c.in-Ok-Taken.field-0-is c.in-Ok-Taken.ensures.found in
    c.take.ensures.jobs ∙ held_is jobs j _ kept ∙ sym (polled_is jobs j _ kept c.args.waker) ∙ sym (ap (λ r. job_polled (after_end r.end jobs j) j c.args.waker) c.told-in-Ok-Taken.ensures)

pub returns-in-Ok-Ended-clause-jobs : goal.returns-in-Ok-Ended-clause-jobs
returns-in-Ok-Ended-clause-jobs g c =
    let jobs = c.args.self.now.jobs in
    let j = c.args.j in
    let kept : Ok (ended_job c.in-Ok-Ended._number c.in-Ok-Ended.output) ≡ kept_job jobs j = subst (λ p. Ok (job_of p) ≡ kept_job jobs j) c.in-Ok-Ended.field-0-is c.in-Ok-Ended.ensures.found in
    c.take.ensures.jobs ∙ held_is jobs j _ kept ∙ ap (with_job jobs j) (sym (polled_ended_job c.in-Ok-Ended.output _ c.args.waker)) ∙ sym (polled_is jobs j _ kept c.args.waker) ∙ sym (ap (λ r. job_polled (after_end r.end jobs j) j c.args.waker) c.told-in-Ok-Ended.ensures)

pub returns-in-Pending-clause-jobs : goal.returns-in-Pending-clause-jobs
returns-in-Pending-clause-jobs g c =
    let jobs = c.args.self.now.jobs in
    let j = c.args.j in
    let kept : Ok (job.running c.in-Ok-Running.number c.in-Ok-Running.waiter) ≡ kept_job jobs j = subst (λ p. Ok (job_of p) ≡ kept_job jobs j) c.in-Ok-Running.field-0-is c.in-Ok-Running.ensures.found in
    back_is jobs j _ kept _ _ _ c.take.ensures.jobs c.put.ensures.jobs ∙ ap (λ b. with_job jobs j (job.running c.in-Ok-Running.number (Some b))) c.number-by.ensures ∙ sym (polled_is jobs j _ kept c.args.waker) ∙ sym (ap (λ r. job_polled (after_end r.end jobs j) j c.args.waker) c.told-in-Pending.ensures)

pub returns-in-Ready-clause-jobs : goal.returns-in-Ready-clause-jobs
returns-in-Ready-clause-jobs g c =
    let jobs = c.args.self.now.jobs in
    let j = c.args.j in
    let kept : Ok (job.running c.in-Ok-Running.number c.in-Ok-Running.waiter) ≡ kept_job jobs j = subst (λ p. Ok (job_of p) ≡ kept_job jobs j) c.in-Ok-Running.field-0-is c.in-Ok-Running.ensures.found in
    c.take.ensures.jobs ∙ held_is jobs j _ kept ∙ ap (with_job jobs j) (sym (polled_ended c.how_of-how.result c.in-Ok-Running.number c.args.waker)) ∙ sym (polled_then jobs j _ _ kept c.how_of-how.result c.args.waker)

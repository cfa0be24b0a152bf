-- Each call on a job leaves valid jobs.
use Rattle.std.proofs.Common.{◌≡◌, ◌<◌, ℕ, true, false, Bool, cond, Some, None, Option, refl}
use Rattle.std.specs.Prelude.{Err}
use Rattle.mono_model.specs.Table.{value_at, count_of, is_issued}
use Rattle.mono_model.specs.Jobs.{Jobs, Job}
use Rattle.mono_model.specs.Jobs as job
use Rattle.mono_machine.specs.Machine.{Machine, IsValidDuring, IsValidJob, AreValidJobs}
use Rattle.mono_machine.specs.JobCalls.{kept_value, dropped_value, job_dropped, ended_as, ended_value, job_ended, polled_value, job_polled}
use Rattle.mono_machine.specs.Acts.{block}
use Rattle.mono_machine.specs.declared.events.How.{How}
use Rattle.mono_machine.specs.declared.events.How.TheVariants as how
use Rattle.mono_machine.specs.declared.events.Refusal.TheVariants as refusal
use Rattle.mono_machine.specs.declared.events.Blocking.{Blocking}
use Rattle.mono_machine.specs.declared.events.Blocking.TheVariants as blocking
use Rattle.mono_machine.proofs.ValidPartLemmas.{other_jobs, job_written, job_next, job_gone}

module _ (next : ℕ) (jobs : Jobs) (j : ℕ) (valid : AreValidJobs next jobs) where
  dropped_by : (b : Bool) (v : Option Job) → value_at jobs.table j ≡ v → AreValidJobs next (dropped_value (cond b (kept_value v) (Err refusal.NoTask)) jobs j)
  dropped_by true None at = valid
  dropped_by true (Some value) at = job_gone next jobs j value valid at
  dropped_by false v at = valid

  pub valid_dropped : AreValidJobs next (job_dropped jobs j)
  valid_dropped = dropped_by (is_issued jobs.table j) (value_at jobs.table j) refl

  ended_job : (h : How) (output : ℕ) → IsValidJob next (ended_as h output)
  ended_job how.Ran output = tt
  ended_job how.Canceled output = tt

  ended_by : (h : How) (v : Option Job) → value_at jobs.table j ≡ v → AreValidJobs next (ended_value v jobs j h)
  ended_by h None at = valid
  ended_by h (Some (job.running output waiter)) at = job_written next jobs j (job.running output waiter) (ended_as h output) valid at (ended_job h output)
  ended_by h (Some (job.ended_ok output)) at = valid
  ended_by h (Some job.ended_canceled) at = valid
  ended_by h (Some job.taken) at = valid

  pub valid_ended : (h : How) → AreValidJobs next (job_ended jobs j h)
  valid_ended h = ended_by h (value_at jobs.table j) refl

  polled_at : (by : ℕ) → by < next → (value : Job) → value_at jobs.table j ≡ Some value → AreValidJobs next (polled_value (kept_value (Some value)) jobs j by)
  polled_at by given (job.running output waiter) at = job_written next jobs j _ (job.running output (Some by)) valid at given
  polled_at by given (job.ended_ok output) at = job_written next jobs j _ job.taken valid at tt
  polled_at by given job.ended_canceled at = job_written next jobs j _ job.taken valid at tt
  polled_at by given job.taken at = job_written next jobs j _ job.taken valid at tt

  polled_by : (by : ℕ) → by < next → (b : Bool) (v : Option Job) → value_at jobs.table j ≡ v → AreValidJobs next (polled_value (cond b (kept_value v) (Err refusal.NoTask)) jobs j by)
  polled_by by given true None at = valid
  polled_by by given true (Some value) at = polled_at by given value at
  polled_by by given false v at = valid

  pub valid_polled : (by : ℕ) → by < next → AreValidJobs next (job_polled jobs j by)
  valid_polled by given = polled_by by given (is_issued jobs.table j) (value_at jobs.table j) refl

pub block_valid : (turn : Option ℕ) (m : Machine) → IsValidDuring turn m → (b : Blocking) (output : ℕ) → count_of m.jobs.table < m.jobs.limit → IsValidDuring turn (block b output m).machine
block_valid turn m valid blocking.Attached output free = other_jobs turn m _ valid (job_next _ m.jobs (job.running output None) valid.jobs free tt)
block_valid turn m valid blocking.ExecuteLocal output free = other_jobs turn m _ valid (job_next _ m.jobs (job.ended_ok output) valid.jobs free tt)
block_valid turn m valid blocking.Panic output free = valid

-- The effect of the end of one job.
use Rattle.std.specs.Prelude.{◌≡◌, ◌≢◌, ℕ, Option, Some}
use Rattle.mono_model.specs.Table.{value_at, next_number}
use Rattle.mono_machine.specs.Machine.{Machine, with_jobs}
use Rattle.mono_machine.specs.JobCalls.{ended_as}
use Rattle.mono_machine.specs.declared.events.How.{How}
use Rattle.mono_machine.specs.declared.events.Reply.TheVariants as reply
use Rattle.mono_machine.specs.declared.events.Report.{Report}
use Rattle.mono_machine.specs.declared.events.Report.TheVariants as report

-- The waiter is answered. The job has ended in this way, no other job changes, and nothing else of the machine does.
pub record EndsAlone (old : Machine) (j output : ℕ) (waiter : Option ℕ) (h : How) (answer : Report) (new : Machine) : Type 0 where
  pub told : answer ≡ report.Reply (reply.Ended waiter)
  pub ended : value_at new.jobs.table j ≡ Some (ended_as h output)
  pub others : (k : ℕ) → k ≢ j → value_at new.jobs.table k ≡ value_at old.jobs.table k
  pub numbers : next_number new.jobs.table ≡ next_number old.jobs.table
  pub limit : new.jobs.limit ≡ old.jobs.limit
  pub rest : new ≡ with_jobs old new.jobs

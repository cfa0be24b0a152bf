-- The end of a job that is kept and runs changes that job alone.
use Rattle.std.proofs.Common.{◌≡◌, ◌<◌, ℕ, cond, length, Option, Some, None, Ok, Err, ap, sym, ◌∙◌}
use Rattle.std.proofs.lemmas.List.{get_or-set_same, get_or-set_other, length-set}
use Rattle.mono_model.specs.Table.{value_at}
use Rattle.std.proofs.lemmas.Bool.{lt-ltb}
use Rattle.mono_model.proofs.ValidTaskLemmas.{at_given}
use Rattle.mono_model.specs.Jobs as job
use Rattle.mono_machine.specs.Machine.{Machine, with_jobs}
use Rattle.mono_machine.specs.JobCalls.{with_job, ended_as, ended_value, job_ended, end_value, end_answer}
use Rattle.mono_machine.specs.Acts.{reply_of}
use Rattle.mono_machine.specs.Steps.{Step}
use Rattle.mono_machine.specs.Endings.{EndsAlone}
use Rattle.mono_machine.specs.declared.events.How.{How}
use Rattle.mono_machine.specs.declared.events.Act.TheVariants as act
use Rattle.mono_machine.specs.declared.events.Event.TheVariants as event
use Rattle.mono_machine.specs.declared.events.Report.{Report}
use Rattle.mono_machine.specs.declared.events.Report.TheVariants as report
use Rattle.mono_machine.specs.declared.events.Reply.TheVariants as reply
use Rattle.mono_machine.specs.declared.events.Refusal.TheVariants as refusal

module _ (old : Machine) (j output : ℕ) (waiter : Option ℕ) (h : How) (kept : value_at old.jobs.table j ≡ Some (job.running output waiter)) where
  inside : j < length old.jobs.table
  inside = at_given old.jobs.table j (job.running output waiter) kept

  jobs_are : job_ended old.jobs j h ≡ with_job old.jobs j (ended_as h output)
  jobs_are = ap (λ x. ended_value x old.jobs j h) kept

  answer_is : end_answer old.jobs j ≡ Ok (reply.Ended waiter)
  answer_is = ap (λ b. cond b (end_value (value_at old.jobs.table j)) (Err refusal.NoTask)) (lt-ltb j (length old.jobs.table) inside) ∙ ap end_value kept

  pub ends_alone : (answer : Report) (new : Machine) → Step old (event.Act (act.JobEnd j h)) answer new → EndsAlone old j output waiter h answer new
  ends_alone answer new (told, left) =
      let now : new.jobs ≡ with_job old.jobs j (ended_as h output) = ap (λ m. m.jobs) left ∙ jobs_are in
      record {
        told = told ∙ ap (λ r. report.Reply (reply_of r)) answer_is;
        ended = ap (λ x. value_at x.table j) now ∙ get_or-set_same old.jobs.table j (Some (ended_as h output)) None inside;
        others = λ k apart. ap (λ x. value_at x.table k) now ∙ get_or-set_other old.jobs.table j k (Some (ended_as h output)) None apart;
        numbers = ap (λ x. length x.table) now ∙ length-set old.jobs.table j (Some (ended_as h output));
        limit = ap (λ x. x.limit) now;
        rest = left ∙ ap (with_jobs old) (sym (ap (λ m. m.jobs) left));
      }

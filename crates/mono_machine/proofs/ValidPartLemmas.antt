-- The parts of a valid machine, one changed at a time.
use Rattle.std.proofs.Common.{◌≡◌, ◌<◌, ◌≤◌, inl, inr, ℕ, true, false, Bool, List, [], ◌∷◌, length, Some, None, Option, refl, ap, sym, ◌∙◌, arith}
use Rattle.std.specs.Prelude.{◌||◌, ◌==◌, IfSome}
use Rattle.std.specs.List.{list_any}
use Rattle.std.proofs.lemmas.Bool.{cases_eq}
use Rattle.std.proofs.lemmas.Bool.Decides.{leb_tells, eqb_tells}
use Rattle.std.proofs.lemmas.List.{get_or-set_other, get_or-set_same}
use Rattle.mono_model.specs.Table.{Table, value_at, next_number, count_of, is_full, with_value, with_next, without}
use Rattle.mono_model.specs.Tasks.{Tasks}
use Rattle.mono_model.specs.Sleeps.{Sleeps}
use Rattle.mono_model.specs.Jobs.{Jobs, Job}
use Rattle.mono_model.specs.Jobs as job
use Rattle.mono_model.specs.Inbox.{is_waiting, with_waiting}
use Rattle.mono_model.specs.Valid.{AreValidTasks, AreValidSleeps, times}
use Rattle.mono_model.proofs.CountLemmas.{count_of-with_value, count_of-with_next, count_of-without, times-push, one_time, no_time}
use Rattle.mono_model.proofs.ValidTaskLemmas.{at_given, value_before, value_last}
use Rattle.mono_model.proofs.ValidSleepLemmas.{valid_later}
use Rattle.mono_machine.specs.Machine.{Machine, with_tasks, with_sleeps, with_jobs, with_inbox, IsValidJob, AreValidJobs, IsValidInbox, IsValidDuring}

-- a table that is not full has room for one more
or_false_left : (a b : Bool) → (a || b) ≡ false → a ≡ false
or_false_left true b e = e
or_false_left false b e = refl

true-false : true ≡ false → ⊥
true-false e = cc

pub room : {V : Type 0} (table : Table V) (limit : ℕ) → is_full table limit ≡ false → count_of table < limit
room table limit is = elim (leb_tells limit (count_of table)) [
  | inl t ↦ absurd (true-false (sym t.0 ∙ or_false_left _ _ is))
  | inr t ↦ t.1
]

issued_later : (next more : ℕ) → next ≤ more → (w : Option ℕ) → IfSome w (λ t. t < next) → IfSome w (λ t. t < more)
issued_later next more le None is = tt
issued_later next more le (Some t) is = omega (arith, is, le)

later_job : (next more : ℕ) → next ≤ more → (v : Option Job) → IfSome v (IsValidJob next) → IfSome v (IsValidJob more)
later_job next more le None valid = tt
later_job next more le (Some (job.running output waiter)) valid = issued_later next more le waiter valid
later_job next more le (Some (job.ended_ok output)) valid = tt
later_job next more le (Some job.ended_canceled) valid = tt
later_job next more le (Some job.taken) valid = tt

later_jobs : (next more : ℕ) (jobs : Jobs) → next ≤ more → AreValidJobs next jobs → AreValidJobs more jobs
later_jobs next more jobs le valid = record { each = λ j. later_job next more le (value_at jobs.table j) (valid.each j); within = valid.within }

later_inbox : (next more : ℕ) (inbox : List ℕ) → next ≤ more → IsValidInbox next inbox → IsValidInbox more inbox
later_inbox next more inbox le valid = record { once = valid.once; are_issued = λ t there. omega (arith, valid.are_issued t there, le) }

pub other_tasks : (turn after : Option ℕ) (m : Machine) (tasks : Tasks ℕ) → IsValidDuring turn m → AreValidTasks after tasks → next_number m.tasks.table ≤ next_number tasks.table → IsValidDuring after (with_tasks m tasks)
other_tasks turn after m tasks valid are le = record {
  tasks = are;
  sleeps = valid_later _ _ m.sleeps le valid.sleeps;
  jobs = later_jobs _ _ m.jobs le valid.jobs;
  inbox = later_inbox _ _ m.inbox le valid.inbox;
}

pub other_sleeps : (turn : Option ℕ) (m : Machine) (sleeps : Sleeps) → IsValidDuring turn m → AreValidSleeps (next_number m.tasks.table) sleeps → IsValidDuring turn (with_sleeps m sleeps)
other_sleeps turn m sleeps valid are = record { tasks = valid.tasks; sleeps = are; jobs = valid.jobs; inbox = valid.inbox }

pub other_jobs : (turn : Option ℕ) (m : Machine) (jobs : Jobs) → IsValidDuring turn m → AreValidJobs (next_number m.tasks.table) jobs → IsValidDuring turn (with_jobs m jobs)
other_jobs turn m jobs valid are = record { tasks = valid.tasks; sleeps = valid.sleeps; jobs = are; inbox = valid.inbox }

pub other_inbox : (turn : Option ℕ) (m : Machine) (inbox : List ℕ) → IsValidDuring turn m → IsValidInbox (next_number m.tasks.table) inbox → IsValidDuring turn (with_inbox m inbox)
other_inbox turn m inbox valid are = record { tasks = valid.tasks; sleeps = valid.sleeps; jobs = valid.jobs; inbox = are }

-- jobs
pub job_written : (next : ℕ) (jobs : Jobs) (j : ℕ) (old new : Job) → AreValidJobs next jobs → value_at jobs.table j ≡ Some old → IsValidJob next new
    → AreValidJobs next (record { table = with_value jobs.table j new; limit = jobs.limit })
job_written next jobs j old new valid at new_valid =
    let here : value_at (with_value jobs.table j new) j ≡ Some new = get_or-set_same jobs.table j (Some new) None (at_given jobs.table j old at) in
    record {
      each = λ q. elim (cases_eq q j) [
        | inl same ↦ rw (same, here) new_valid
        | inr apart ↦ rw (get_or-set_other jobs.table j q (Some new) None apart) (valid.each q)
      ];
      within = omega (arith, valid.within, count_of-with_value jobs.table j old new at);
    }

pub job_next : (next : ℕ) (jobs : Jobs) (new : Job) → AreValidJobs next jobs → count_of jobs.table < jobs.limit → IsValidJob next new
    → AreValidJobs next (record { table = with_next jobs.table new; limit = jobs.limit })
job_next next jobs new valid free new_valid = record {
  each = λ q. elim (cases_eq q (length jobs.table)) [
    | inl same ↦ rw (same, value_last jobs.table new) new_valid
    | inr apart ↦ rw (value_before jobs.table new q apart) (valid.each q)
  ];
  within = omega (arith, free, count_of-with_next jobs.table new);
}

pub job_gone : (next : ℕ) (jobs : Jobs) (j : ℕ) (old : Job) → AreValidJobs next jobs → value_at jobs.table j ≡ Some old → AreValidJobs next (record { table = without jobs.table j; limit = jobs.limit })
job_gone next jobs j old valid at = record {
  each = λ q. elim (cases_eq q j) [
    | inl same ↦ rw (same, get_or-set_same jobs.table j None None (at_given jobs.table j old at)) tt
    | inr apart ↦ rw (get_or-set_other jobs.table j q None None apart) (valid.each q)
  ];
  within = omega (arith, valid.within, count_of-without jobs.table j);
}

-- the inbox
not_waiting : (inbox : List ℕ) (t : ℕ) → is_waiting inbox t ≡ false → times inbox t ≡ 0
not_waiting [] t is = refl
not_waiting (x ∷ xs) t is = elim (eqb_tells x t) [
  | inl same ↦ absurd (true-false (sym (ap (λ b. b || list_any (λ w. w == t) xs) same.0) ∙ is))
  | inr apart ↦ omega (arith, no_time x t apart.1, not_waiting xs t (sym (ap (λ b. b || list_any (λ w. w == t) xs) apart.0) ∙ is))
]

pub put_valid : (next : ℕ) (inbox : List ℕ) (t : ℕ) → is_waiting inbox t ≡ false → t < next → IsValidInbox next inbox → IsValidInbox next (with_waiting inbox t)
put_valid next inbox t free issued valid = record {
  once = λ q. elim (cases_eq q t) [
    | inl same ↦ rw same (omega (arith, times-push inbox t t, one_time t, not_waiting inbox t free))
    | inr apart ↦ omega (arith, times-push inbox t q, no_time t q (λ same. apart (sym same)), valid.once q)
  ];
  are_issued = λ q there. elim (cases_eq q t) [
    | inl same ↦ omega (arith, same, issued)
    | inr apart ↦ valid.are_issued q (omega (arith, there, times-push inbox t q, no_time t q (λ same. apart (sym same))))
  ];
}

pub empty_valid : (next : ℕ) → IsValidInbox next []
empty_valid next = record { once = λ t. omega arith; are_issued = λ t there. absurd (omega (arith, there)) }

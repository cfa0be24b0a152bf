-- A job that a call holds, and puts back or takes out of the table.
use Rattle.std.proofs.Common.{◌≡◌, ◌<◌, ℕ, inl, inr, true, false, Bool, cond, Some, None, Option, refl, ap, sym, ◌∙◌}
use Rattle.std.specs.Prelude.{Result, Ok, Err, length, slice_set, nat_lt, is_some}
use Rattle.std.proofs.lemmas.List.{get_or-set_same, get_or_past, set-get_or, set-set, length-set}
use Rattle.std.proofs.lemmas.Bool.{cases_lt, ltb-true}
use Rattle.mono_model.specs.Table.{Table, value_at, is_issued}
use Rattle.mono_model.specs.Jobs.{Jobs, Job}
use Rattle.mono_model.specs.Jobs as job
use Rattle.mono_machine.specs.JobCalls.{with_job, without_job, kept_job, kept_value, job_dropped, dropped_value, job_ended, ended_value, ended_as, job_polled, polled_value, polled_in, poll_value, poll_answer}
use Rattle.mono_joinword.specs.declared.outcome.JoinError.{JoinError}
use Rattle.mono_blocking.specs.JobTable.{ended_job, held_value, job_held}
use Rattle.mono_blocking.specs.JobAnswers.{how_of}
use Rattle.mono_machine.specs.declared.events.How.{How}
use Rattle.mono_machine.specs.declared.events.How.TheVariants as how
use Rattle.mono_machine.specs.declared.events.Refusal.{Refusal}
use Rattle.mono_machine.specs.declared.events.Refusal.TheVariants as refusal

none-true : {V : Type 0} (v : Option V) → v ≡ None → is_some v ≡ true → ⊥
none-true v is some = cc

-- a number with a value was given out
pub some_inside : {V : Type 0} (table : Table V) (t : ℕ) → is_some (value_at table t) ≡ true → t < length table
some_inside table t some = elim (cases_lt t (length table)) [
  | inl below ↦ below
  | inr past ↦ absurd (none-true (value_at table t) (get_or_past table t None past) some)
]

abbrev value_or : {A B : Type 0} → A → Result A B → A
value_or d (Ok x) = x
value_or d (Err e) = d

ok_is : {B : Type 0} (x y : Job) → ◌≡◌ {A = Result Job B} (Ok x) (Ok y) → x ≡ y
ok_is x y e = ap (value_or x) e

abbrev is_ok : {A B : Type 0} → Result A B → Bool
is_ok (Ok x) = true
is_ok (Err e) = false

true-false : true ≡ false → ⊥
true-false e = cc

no_error : {B : Type 0} (x : Job) (y : B) → ◌≡◌ {A = Result Job B} (Ok x) (Err y) → ⊥
no_error x y e = true-false (ap is_ok e)

kept_by : (b : Bool) (x : Option Job) (v : Job) → Ok v ≡ cond b (kept_value x) (Err refusal.NoTask) → (b ≡ true) × (x ≡ Some v)
kept_by true (Some w) v e = (refl, ap Some (sym (ok_is v w e)))
kept_by true None v e = absurd (no_error v _ e)
kept_by false x v e = absurd (no_error v _ e)

module _ (jobs : Jobs) (j : ℕ) (v : Job) (kept : Ok v ≡ kept_job jobs j) where
  pub kept_is : (is_issued jobs.table j ≡ true) × (value_at jobs.table j ≡ Some v)
  kept_is = kept_by (is_issued jobs.table j) (value_at jobs.table j) v kept

  pub dropped_is : job_dropped jobs j ≡ without_job jobs j
  dropped_is = ap (λ x. dropped_value x jobs j) (sym kept)

  pub polled_is : (by : ℕ) → job_polled jobs j by ≡ with_job jobs j (polled_in v by)
  polled_is by = ap (λ x. polled_value x jobs j by) (sym kept)

  pub held_is : job_held jobs j ≡ with_job jobs j job.taken
  held_is = ap (λ x. held_value x jobs j) (sym kept)

  -- put back to its place
  pub back_is : (mid new : Jobs) (x : Job) → mid ≡ job_held jobs j → new ≡ with_job mid j x → new ≡ with_job jobs j x
  back_is mid new x held put =
      put ∙ ap (λ m. with_job m j x) (held ∙ held_is) ∙ ap (λ t. record { table = t; limit = jobs.limit }) (set-set jobs.table j (Some job.taken) (Some x))

  -- taken out while it is held
  pub out_is : without_job (job_held jobs j) j ≡ job_dropped jobs j
  out_is = ap (λ m. without_job m j) held_is ∙ ap (λ t. record { table = t; limit = jobs.limit }) (set-set jobs.table j (Some job.taken) None) ∙ sym dropped_is

  pub same_is : with_job jobs j v ≡ jobs
  same_is = ap (λ t. record { table = t; limit = jobs.limit }) (ap (λ x. slice_set jobs.table j x) (sym kept_is.1) ∙ set-get_or jobs.table j None)

  -- with another value
  pub kept_after : (x : Job) → kept_job (with_job jobs j x) j ≡ Ok x
  kept_after x =
      ap (λ b. cond b (kept_value (value_at (with_job jobs j x).table j)) (Err refusal.NoTask)) (ap (λ n. nat_lt j n) (length-set jobs.table j (Some x)) ∙ kept_is.0)
      ∙ ap kept_value (get_or-set_same jobs.table j (Some x) None (ltb-true j (length jobs.table) kept_is.0))

  pub twice_is : (x y : Job) → with_job (with_job jobs j x) j y ≡ with_job jobs j y
  twice_is x y = ap (λ t. record { table = t; limit = jobs.limit }) (set-set jobs.table j (Some x) (Some y))

  pub gone_after : (x : Job) → job_dropped (with_job jobs j x) j ≡ without_job jobs j
  gone_after x =
      ap (λ k. dropped_value k (with_job jobs j x) j) (kept_after x) ∙ ap (λ t. record { table = t; limit = jobs.limit }) (set-set jobs.table j (Some x) None)

  pub polled_after : (x : Job) (by : ℕ) → job_polled (with_job jobs j x) j by ≡ with_job jobs j (polled_in x by)
  polled_after x by = ap (λ k. polled_value k (with_job jobs j x) j by) (kept_after x) ∙ twice_is x (polled_in x by)

-- the end of a job that runs
module _ (jobs : Jobs) (j n : ℕ) (w : Option ℕ) (kept : Ok (job.running n w) ≡ kept_job jobs j) where
  pub ended_is : (h : How) → job_ended jobs j h ≡ with_job jobs j (ended_as h n)
  ended_is h = ap (λ x. ended_value x jobs j h) (kept_is jobs j (job.running n w) kept).1

  pub dropped_then : (h : How) → job_dropped (job_ended jobs j h) j ≡ without_job jobs j
  dropped_then h = ap (λ x. job_dropped x j) (ended_is h) ∙ gone_after jobs j (job.running n w) kept (ended_as h n)

  pub polled_then : (h : How) (by : ℕ) → job_polled (job_ended jobs j h) j by ≡ with_job jobs j (polled_in (ended_as h n) by)
  polled_then h by = ap (λ x. job_polled x j by) (ended_is h) ∙ polled_after jobs j (job.running n w) kept (ended_as h n) by

pub polled_ended : (h : How) (n by : ℕ) → polled_in (ended_as h n) by ≡ job.taken
polled_ended how.Ran n by = refl
polled_ended how.Canceled n by = refl

pub ended_job_is : {A : Type 0} (r : Result A JoinError) (n : ℕ) → ended_job n r ≡ ended_as (how_of r) n
ended_job_is (Ok output) n = refl
ended_job_is (Err e) n = refl

pub polled_ended_job : {A : Type 0} (r : Result A JoinError) (n by : ℕ) → polled_in (ended_job n r) by ≡ job.taken
polled_ended_job (Ok output) n by = refl
polled_ended_job (Err e) n by = refl

ok_no : {A B : Type 0} (x : A) (y : B) → ◌≡◌ {A = Result A B} (Ok x) (Err y) → ⊥
ok_no x y e = true-false (ap is_ok e)

-- a poll that is refused changes nothing
module _ (jobs : Jobs) (j by : ℕ) where
  refused_by : (k : Result Job Refusal) → k ≡ kept_job jobs j → (r : Refusal) → poll_value k ≡ Err r → polled_value k jobs j by ≡ jobs
  refused_by (Err e) is r told = refl
  refused_by (Ok (job.running n w)) is r told = absurd (ok_no _ r told)
  refused_by (Ok (job.ended_ok n)) is r told = absurd (ok_no _ r told)
  refused_by (Ok job.ended_canceled) is r told = absurd (ok_no _ r told)
  refused_by (Ok job.taken) is r told = same_is jobs j job.taken is

  pub refused_stays : (r : Refusal) → poll_answer jobs j ≡ Err r → job_polled jobs j by ≡ jobs
  refused_stays r told = refused_by (kept_job jobs j) refl r told

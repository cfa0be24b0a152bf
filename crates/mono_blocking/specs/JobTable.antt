-- The view of the table of jobs.
use Rattle.std.specs.Prelude.{◌≡◌, ◌<◌, ⊤, ℕ, false, List, map, Option, Some, None, Result, Ok, Err, IfSome}
use Rattle.std.specs.Option.{option_map}
use Rattle.mono_model.specs.Table.{value_at, next_number}
use Rattle.mono_model.specs.Jobs.{Jobs}
use Rattle.mono_model.specs.Jobs as model
use Rattle.mono_joinword.specs.Ends.{joiner_view}
use Rattle.mono_joinword.specs.Views.{HasNumber}
use Rattle.mono_joinword.specs.declared.outcome.JoinError.{JoinError}
use Rattle.mono_joinword.specs.declared.views.JoinerView.{JoinerView}
use Rattle.mono_machine.specs.JobCalls.{kept_job, with_job}
use Rattle.mono_machine.specs.declared.events.Refusal.{Refusal}
use Rattle.mono_blocking.specs.declared.jobs.table.Place.{Place}
use Rattle.mono_blocking.specs.declared.jobs.table.Place.TheVariants.{Running, Ended, Taken}

-- The jobs, the knowledge of the joiners of those that run, and the number of places for which there is room.
pub record Seen : Type 0 where
  pub jobs : Jobs
  pub joiners : List (Option JoinerView)
  pub room : ℕ

abbrev pub HasPlace : Seen → Type 0
HasPlace seen = next_number seen.jobs.table < seen.room

-- The jobs while a call holds one whose handle is kept.
abbrev pub held_value : Result model.Job Refusal → Jobs → ℕ → Jobs
held_value (Ok value) jobs j = with_job jobs j model.taken
held_value (Err error) jobs j = jobs

abbrev pub job_held : Jobs → ℕ → Jobs
job_held jobs j = held_value (kept_job jobs j) jobs j

module _ {A : Type 0} where
  abbrev pub ended_job : ℕ → Result A JoinError → model.Job
  ended_job n (Ok output) = model.ended_ok n
  ended_job n (Err e) = model.ended_canceled

module _ {J A U : Type 0} where
  abbrev pub job_of : Place J A U → model.Job
  job_of (Running n joiner waiter) = model.running n waiter
  job_of (Ended n r) = ended_job n r
  job_of Taken = model.taken

  abbrev pub joiner_of : Place J A U → Option JoinerView
  joiner_of (Running n joiner waiter) = Some (joiner_view joiner)
  joiner_of (Ended n r) = None
  joiner_of Taken = None

  abbrev pub place_of : Option (Place J A U) → Option model.Job
  place_of = option_map job_of

  abbrev pub joiner_in : Option (Place J A U) → Option JoinerView
  joiner_in None = None
  joiner_in (Some place) = joiner_of place

  abbrev pub jobs_of : List (Option (Place J A U)) → ℕ → Jobs
  jobs_of places limit = record { table = map place_of places; limit = limit }

  abbrev pub joiners_of : List (Option (Place J A U)) → List (Option JoinerView)
  joiners_of places = map joiner_in places

  -- Whether the joiner has not taken the output and has the job's number, or the kept output has it.
  abbrev pub IsSound : (A → ℕ) → Place J A U → Type 0
  IsSound number (Running n joiner waiter) = ((joiner_view joiner).took ≡ false) × ((joiner_view joiner).number ≡ n)
  IsSound number (Ended n r) = HasNumber number n r
  IsSound number Taken = ⊤

  abbrev pub AreSound : (A → ℕ) → List (Option (Place J A U)) → Type 0
  AreSound number places = (j : ℕ) → IfSome (value_at places j) (IsSound number)

  abbrev pub found_of : Result (Place J A U) Refusal → Result model.Job Refusal
  found_of (Ok place) = Ok (job_of place)
  found_of (Err r) = Err r

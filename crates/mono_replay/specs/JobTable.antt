-- The jobs of the machine that the places of the table represent.
use Rattle.std.specs.Prelude.{ℕ, map, Option, Result, Ok, Err}
use Rattle.std.specs.Option.{option_map}
use Rattle.mono_model.specs.Table.{Table}
use Rattle.mono_model.specs.Jobs.{Jobs}
use Rattle.mono_model.specs.Jobs as model
use Rattle.mono_replay.specs.declared.jobs.Job.{Job}
use Rattle.mono_replay.specs.declared.jobs.Job.TheVariants.{Running, EndedOk, EndedCanceled, Taken}
use Rattle.mono_machine.specs.declared.events.Refusal.{Refusal}

abbrev pub job_of : Job → model.Job
job_of (Running output waiter) = model.running output waiter
job_of (EndedOk output) = model.ended_ok output
job_of EndedCanceled = model.ended_canceled
job_of Taken = model.taken

abbrev pub place_of : Option Job → Option model.Job
place_of = option_map job_of

abbrev pub jobs_of : Table Job → ℕ → Jobs
jobs_of places limit = record { table = map place_of places; limit = limit }

abbrev pub found_of : Result Job Refusal → Result model.Job Refusal
found_of (Ok job) = Ok (job_of job)
found_of (Err r) = Err r

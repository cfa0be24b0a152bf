-- The answers of calls on a job's handle, and the step of the job's joiner that gives each.
use Rattle.std.specs.Prelude.{◌≡◌, ◌⊎◌, ⊤, ℕ, Bool, true, false, Option, Some, None, Result, Ok, Err}
use Rattle.mono_model.specs.Table.{value_at}
use Rattle.mono_model.specs.Jobs.{Jobs, Job}
use Rattle.mono_model.specs.declared.poll.Poll.{Poll}
use Rattle.mono_model.specs.declared.poll.Poll.TheVariants.{Ready, Pending}
use Rattle.mono_joinword.specs.Calls.{Polled, Peeked, Cancels}
use Rattle.mono_joinword.specs.Ends.{joiner_view, last_view}
use Rattle.mono_joinword.specs.declared.outcome.JoinError.{JoinError}
use Rattle.mono_joinword.specs.declared.views.JoinerView.{JoinerView}
use Rattle.mono_joinword.specs.declared.joiner.Joiner.{Joiner}
use Rattle.mono_joinword.specs.declared.joiner.JoinerSeat.{JoinerSeat}
use Rattle.mono_machine.specs.JobCalls.{job_ended, end_answer, finished_answer, is_over}
use Rattle.mono_machine.specs.declared.events.How.{How}
use Rattle.mono_machine.specs.declared.events.How.TheVariants as how
use Rattle.mono_machine.specs.declared.events.Reply.{Reply}
use Rattle.mono_machine.specs.declared.events.Reply.TheVariants as reply
use Rattle.mono_machine.specs.declared.events.Refusal.{Refusal}
use Rattle.mono_blocking.specs.declared.jobs.ends.End.{End}
use Rattle.mono_blocking.specs.JobTable.{Seen}

-- The jobs after an end that a call saw.
abbrev pub after_end : Option End → Jobs → ℕ → Jobs
after_end None jobs j = jobs
after_end (Some e) jobs j = job_ended jobs j e.how

-- Whether the end is that of a running job and names its waiter.
abbrev pub IsEnd : Option End → Jobs → ℕ → Type 0
IsEnd None jobs j = ⊤
IsEnd (Some e) jobs j = end_answer jobs j ≡ Ok (reply.Ended e.waiter)

-- The refusal of a call, if it was refused.
abbrev pub refusal_in : Result Reply Refusal → Option Refusal
refusal_in (Ok reply) = None
refusal_in (Err e) = Some e

module _ {A : Type 0} where
  abbrev pub how_of : Result A JoinError → How
  how_of (Ok output) = how.Ran
  how_of (Err e) = how.Canceled

module _ {A : Type 0} (number : A → ℕ) where
  abbrev pub told_in : Result A JoinError → Reply
  told_in (Ok output) = reply.Output (number output)
  told_in (Err e) = reply.Canceled

  abbrev pub told_poll : Poll (Result A JoinError) → Reply
  told_poll (Ready r) = told_in r
  told_poll Pending = reply.Pending

  abbrev pub polled_reply : Result (Poll (Result A JoinError)) Refusal → Result Reply Refusal
  polled_reply (Ok answer) = Ok (told_poll answer)
  polled_reply (Err e) = Err e

  abbrev pub output_in : Option (Result A JoinError) → Option ℕ
  output_in None = None
  output_in (Some (Ok output)) = Some (number output)
  output_in (Some (Err e)) = None

  abbrev pub dropped_reply : Result (Option (Result A JoinError)) Refusal → Result Reply Refusal
  dropped_reply (Ok output) = Ok (reply.Dropped (output_in output))
  dropped_reply (Err e) = Err e

-- The joiner's knowledge of job j, if that runs.
abbrev pub joiner_at : Seen → ℕ → Option JoinerView
joiner_at seen j = value_at seen.joiners j

-- Whether the job had ended, or was taken.
abbrev pub over_in : Option Job → Bool
over_in None = false
over_in (Some value) = is_over value

abbrev pub IsOver : Seen → ℕ → Type 0
IsOver seen j = over_in (value_at seen.jobs.table j) ≡ true

-- The last knowledge of a joiner that a call used up.
module _ {O W : Type 0} where
  abbrev pub used : Option (Joiner O W) → Option JoinerView
  used None = None
  used (Some joiner) = Some (joiner_view joiner)

  abbrev pub left : Option (JoinerSeat O W) → Option JoinerView
  left None = None
  left (Some seat) = Some (last_view seat)

module _ {A : Type 0} (number : A → ℕ) where
  -- Whether one poll of the joiner gave this answer.
  abbrev pub Asked : Option JoinerView → ℕ → Poll (Result A JoinError) → Option JoinerView → Type 0
  Asked None waker answer after = ⊥
  Asked (Some before) waker answer None = ⊥
  Asked (Some before) waker answer (Some after) = Polled number before waker answer after

  -- Whether one cancel of the joiner gave this output.
  abbrev pub Released : Option JoinerView → Option (Result A JoinError) → Option JoinerView → Type 0
  Released None output after = ⊥
  Released (Some before) output None = ⊥
  Released (Some before) output (Some after) = Cancels number before output after

  -- Pending comes from a poll of the joiner in this call; so does an output of a job that had not ended.
  abbrev pub PollShown : Seen → ℕ → ℕ → Result (Poll (Result A JoinError)) Refusal → Option JoinerView → Seen → Type 0
  PollShown old j waker (Ok Pending) last new = Asked (joiner_at old j) waker Pending (joiner_at new j)
  PollShown old j waker (Ok (Ready r)) last new = IsOver old j ⊎ Asked (joiner_at old j) waker (Ready r) last
  PollShown old j waker (Err e) last new = ⊤

  -- If the job had not ended, one cancel of the joiner in this call gave the answer: its output, or none.
  abbrev pub DropShown : Seen → ℕ → Result (Option (Result A JoinError)) Refusal → Option JoinerView → Type 0
  DropShown old j (Ok output) last = IsOver old j ⊎ Released (joiner_at old j) output last
  DropShown old j (Err e) last = ⊤

-- Whether one load of the joiner saw this.
abbrev pub Loaded : Option JoinerView → Bool → Option JoinerView → Type 0
Loaded None answer after = ⊥
Loaded (Some before) answer None = ⊥
Loaded (Some before) answer (Some after) = Peeked before answer after

-- A refusal is the machine's. The machine says Yes of a job that ended in its table; if the job runs there, a load of
-- the joiner in this call says whether it has ended.
abbrev pub FinishShown : Seen → ℕ → Result Bool Refusal → Seen → Type 0
FinishShown old j (Ok false) new = (finished_answer old.jobs j ≡ Ok reply.No) × Loaded (joiner_at old j) false (joiner_at new j)
FinishShown old j (Ok true) new = (finished_answer old.jobs j ≡ Ok reply.Yes) ⊎ ((finished_answer old.jobs j ≡ Ok reply.No) × Loaded (joiner_at old j) true (joiner_at new j))
FinishShown old j (Err e) new = finished_answer old.jobs j ≡ Err e

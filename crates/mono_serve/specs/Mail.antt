-- The effect of a task's calls on mailboxes, and the answer and the effect of one poll of a future that receives.
use Rattle.std.specs.Prelude.{⊤, ◌≡◌, ℕ, ◌*◌, false, Option, Some, None, Result, Ok, Err}
use Rattle.std.specs.Duration.{as_nanos}
use Rattle.std.specs.declared.time.Duration.{Duration}
use Rattle.mono_model.specs.Tasks.{Tasks}
use Rattle.mono_model.specs.declared.poll.Poll.{Poll}
use Rattle.mono_model.specs.declared.poll.Poll.TheVariants.{Ready, Pending}
use Rattle.mono_actor.specs.declared.answers.ActorError.{ActorError}
use Rattle.mono_actor.specs.declared.answers.Sent.{Sent}
use Rattle.mono_actor.specs.declared.answers.SendRefused.{SendRefused}
use Rattle.mono_time.specs.declared.naps.SleepFor.{SleepFor}
use Rattle.mono_time.specs.declared.naps.SleepFor.TheVariants.{Fresh}
use Rattle.mono_serve.specs.declared.mailboxes.Mailboxes.{Mailboxes}
use Rattle.mono_serve.specs.declared.mailboxes.Received.{Received}
use Rattle.mono_serve.specs.declared.mailboxes.Received.TheVariants as receive
use Rattle.mono_serve.specs.declared.receives.Receive.{Receive}
use Rattle.mono_serve.specs.MailCalls.{Sends, Stops, Receives, GivesUp, Then}

module _ {M C : Type 0} (part : C → Mailboxes M) (work : C → Tasks ⊤) where
  -- A message is sent.
  pub record SendsIn (from to : ℕ) (message : M) (answer : Result Sent (SendRefused M)) (c d : C) : Type 0 where
    pub sends : Then (Sends (part c) from to message answer) to (part d)
    pub work_after : work d ≡ work c

  -- An actor is removed.
  pub record StopsIn (actor : ℕ) (answer : Result ⊤ ActorError) (c d : C) : Type 0 where
    pub stops : Then (Stops (part c) actor answer) actor (part d)
    pub work_after : work d ≡ work c

module _ {M C : Type 0} (part : C → Mailboxes M) (number : C → ℕ) (work : C → Tasks ⊤) where
  -- The future leaves the line.
  pub record Leaves (ticket : ℕ) (c d : C) : Type 0 where
    pub left : GivesUp (part c) ticket (number c) (part d)
    pub work_after : work d ≡ work c

  abbrev pub ReceiveCancels : Option ℕ → C → C → Type 0
  ReceiveCancels None c d = d ≡ c
  ReceiveCancels (Some ticket) c d = Leaves ticket c d

  abbrev pub AfterReceive : Received M → Poll (Result (ℕ × M) ActorError) → Option ℕ → Type 0
  AfterReceive (receive.Got from message) r left = (r ≡ Ready (Ok (from, message))) × (left ≡ None)
  AfterReceive (receive.Waits ticket) r left = (r ≡ Pending) × (left ≡ Some ticket)
  AfterReceive (receive.Refused error) r left = (r ≡ Ready (Err error)) × (left ≡ None)

  -- A future asks for a message.
  pub record ReceivePolls (ticket : Option ℕ) (actor : ℕ) (c : C) (r : Poll (Result (ℕ × M) ActorError)) (left : Option ℕ) (d : C) : Type 0 where
    pub answer : Received M
    pub receives : Receives (part c) ticket actor (number c) answer (part d)
    pub work_after : work d ≡ work c
    pub rest : AfterReceive answer r left

  -- The answer is that of a poll of a future that receives a message to the actor, in some context.
  pub record ReceiveGives (actor : ℕ) (answer : Result (ℕ × M) ActorError) : Type 0 where
    pub ticket : Option ℕ
    pub at : C
    pub after : C
    pub polled : ReceivePolls ticket actor at (Ready answer) None after

-- A future that receives a message to the actor, and its delay of so many milliseconds. Neither was polled.
pub record IsLimited {W M : Type 0} (actor ms : ℕ) (both : Option (Receive W M × SleepFor)) : Type 0 where
  pub future : Receive W M
  pub duration : Duration
  pub is : both ≡ Some (future, Fresh duration)
  pub its_actor : future.actor ≡ actor
  pub no_ticket : future.ticket ≡ None
  pub unspent : future.has_answered ≡ false
  pub length : as_nanos duration ≡ ms * 1000000

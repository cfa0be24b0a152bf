-- A future gives what a poll answers.
use Rattle.std.proofs.Common.{ℕ, ◌≡◌, Option, Some, None, Result, Ok, Err, refl}
use Rattle.std.specs.Prelude.{⊤}
use Rattle.mono_model.specs.Poll.{IfReady}
use Rattle.mono_model.specs.Tasks.{Tasks}
use Rattle.mono_model.specs.declared.poll.Poll.{Poll}
use Rattle.mono_model.specs.declared.poll.Poll.TheVariants.{Ready, Pending}
use Rattle.mono_time.specs.Sleeps.{SleepTable}
use Rattle.mono_time.specs.declared.sleeps.Sleep.{Sleep}
use Rattle.mono_actor.specs.declared.answers.ActorError.{ActorError}
use Rattle.mono_serve.specs.declared.buckets.Buckets.{Buckets}
use Rattle.mono_serve.specs.declared.keepers.KeeperError.{KeeperError}
use Rattle.mono_serve.specs.declared.keepers.Phase.{Phase}
use Rattle.mono_serve.specs.declared.keepers.Phase.TheVariants as phase
use Rattle.mono_serve.specs.declared.leases.Leases.{Leases}
use Rattle.mono_serve.specs.declared.locks.AcquireError.{AcquireError}
use Rattle.mono_serve.specs.declared.mailboxes.Mailboxes.{Mailboxes}
use Rattle.mono_serve.specs.declared.mailboxes.Received.{Received}
use Rattle.mono_serve.specs.declared.mailboxes.Received.TheVariants as receive
use Rattle.mono_serve.specs.declared.takes.Stage.{Stage}
use Rattle.mono_serve.specs.declared.takes.Stage.TheVariants as stage
use Rattle.mono_serve.specs.declared.takes.TakeError.{TakeError}
use Rattle.mono_serve.specs.Keepers.{Keeps, KeeperGives}
use Rattle.mono_serve.specs.Locks.{AsksFor, LooksAgain, AcquireGives}
use Rattle.mono_serve.specs.Mail.{ReceiveGives}
use Rattle.mono_serve.specs.MailCalls.{Receives}
use Rattle.mono_serve.specs.Takes.{GoesOn, Naps, TakePolls, TakeGives}

module _ {C : Type 0} (part : C → Buckets) (number nanos : C → ℕ) (sleeps : C → SleepTable) (work : C → Tasks ⊤) (reaches : C → C → Type 0) where
  take_given : (s : Stage) (bucket n : ℕ) (c : C) (r : Poll (Result ⊤ TakeError)) (left : Stage) (d : C)
      → TakePolls part number nanos sleeps work reaches s bucket n c r left d → IfReady r (TakeGives part number nanos sleeps work reaches bucket n)
  take_given s bucket n c (Ready answer) left d polled = record { stage = s; left = left; at = c; after = d; polled = polled }
  take_given s bucket n c Pending left d polled = tt

  pub gone_on_given : (ticket : Option ℕ) (bucket n : ℕ) (c : C) (r : Poll (Result ⊤ TakeError)) (left : Stage) (d : C)
      → GoesOn part number nanos sleeps work reaches ticket bucket n c r left d → IfReady r (TakeGives part number nanos sleeps work reaches bucket n)
  gone_on_given None bucket n c r left d goes_on = take_given stage.Fresh bucket n c r left d goes_on
  gone_on_given (Some ticket) bucket n c r left d goes_on = take_given (stage.Waits ticket) bucket n c r left d goes_on

  pub napped_given : (ticket : ℕ) (sleep : Sleep) (bucket n : ℕ) (c : C) (r : Poll (Result ⊤ TakeError)) (left : Stage) (d : C)
      → Naps part number sleeps work reaches ticket sleep c (Some r) left d → IfReady r (TakeGives part number nanos sleeps work reaches bucket n)
  napped_given ticket sleep bucket n c r left d naps =
      take_given (stage.Sleeps ticket sleep) bucket n c r left d (record { answer = Some r; stage = left; middle = d; naps = naps; rest = (refl, refl, refl) })

module _ {C : Type 0} (part : C → Leases) (number nanos : C → ℕ) (sleeps : C → SleepTable) (work : C → Tasks ⊤) (reaches : C → C → Type 0) where
  pub kept_given : (c : C) (r : Poll (Result ⊤ KeeperError)) (left : Phase) (d : C)
      → Keeps part number nanos sleeps work reaches c r left d → IfReady r (KeeperGives part number nanos sleeps work reaches)
  kept_given c (Ready answer) left d keeps = record { phase = phase.Waits; left = left; at = c; after = d; polled = keeps }
  kept_given c Pending left d keeps = tt

module _ {C : Type 0} (part : C → Leases) (number nanos : C → ℕ) (work : C → Tasks ⊤) where
  pub asked_given : (s key : ℕ) (c : C) (r : Poll (Result ⊤ AcquireError)) (left : Option ℕ) (d : C)
      → AsksFor part number nanos work s key c r left d → IfReady r (AcquireGives part number nanos work s key)
  asked_given s key c (Ready answer) left d asks = record { ticket = None; left = left; at = c; after = d; polled = asks }
  asked_given s key c Pending left d asks = tt

  pub looked_given : (ticket s key : ℕ) (c : C) (r : Poll (Result ⊤ AcquireError)) (left : Option ℕ) (d : C)
      → LooksAgain part number nanos work ticket s key c r left d → IfReady r (AcquireGives part number nanos work s key)
  looked_given ticket s key c (Ready answer) left d looks = record { ticket = Some ticket; left = left; at = c; after = d; polled = looks }
  looked_given ticket s key c Pending left d looks = tt

module _ {M C : Type 0} (part : C → Mailboxes M) (number : C → ℕ) (work : C → Tasks ⊤) where
  pub got_given : (ticket : Option ℕ) (actor from : ℕ) (message : M) (c d : C)
      → Receives (part c) ticket actor (number c) (receive.Got from message) (part d) → work d ≡ work c → ReceiveGives part number work actor (Ok (from, message))
  got_given ticket actor from message c d receives same = record {
    ticket = ticket;
    at = c;
    after = d;
    polled = record { answer = receive.Got from message; receives = receives; work_after = same; rest = (refl, refl) };
  }

  pub refused_given : (ticket : Option ℕ) (actor : ℕ) (error : ActorError) (c d : C)
      → Receives (part c) ticket actor (number c) (receive.Refused error) (part d) → work d ≡ work c → ReceiveGives part number work actor (Err error)
  refused_given ticket actor error c d receives same = record {
    ticket = ticket;
    at = c;
    after = d;
    polled = record { answer = receive.Refused error; receives = receives; work_after = same; rest = (refl, refl) };
  }

-- Laws that hold over any calls of mailboxes by any tasks.
use Rattle.std.specs.Prelude.{◌≡◌, ◌==◌, ◌⊎◌, ℕ, true, if◌then◌else◌, List, [], ◌∷◌, ◌++◌, Option, Result, Ok, Err}
use Rattle.mono_actor.specs.Actors.{no_actors}
use Rattle.mono_actor.specs.Callers.{actors_of}
use Rattle.mono_actor.specs.Laws.{IsPrefix}
use Rattle.mono_actor.specs.Receives.{waits_at}
use Rattle.mono_actor.specs.declared.mailboxes.Letter.{Letter}
use Rattle.mono_actor.specs.declared.answers.Sent.{Sent}
use Rattle.mono_actor.specs.declared.answers.SendRefused.{SendRefused}
use Rattle.mono_sync.specs.Runs.{Run}
use Rattle.mono_serve.specs.declared.mailboxes.Received.{Received}
use Rattle.mono_serve.specs.declared.mailboxes.Received.TheVariants as receive
use Rattle.mono_serve.specs.declared.mailboxes.Mailboxes.{Mailboxes}
use Rattle.mono_serve.specs.MailCalls.{is_there, has_actor, Receives, CallsNext, Event, spawned_one, sent_one, stopped_one, received, called_next, gave_up, handed, Step}

module _ {M : Type 0} where
  -- The messages that one call sent to an actor, and those that several calls sent.
  abbrev pub letter_if : ℕ → ℕ → M → Result Sent (SendRefused M) → List (Letter M)
  letter_if a from message (Ok what) = record { sender = from; message = message } ∷ []
  letter_if a from message (Err refused) = []

  abbrev pub sent_by : ℕ → Event M → List (Letter M)
  sent_by a (spawned_one r) = []
  sent_by a (sent_one from to message r) = if to == a then letter_if a from message r else []
  sent_by a (stopped_one actor r) = []
  sent_by a (received ticket actor task r) = []
  sent_by a (called_next actor) = []
  sent_by a (gave_up ticket me) = []
  sent_by a (handed task) = []

  abbrev pub sent_to : ℕ → List (Event M) → List (Letter M)
  sent_to a [] = []
  sent_to a (e ∷ es) = sent_by a e ++ sent_to a es

  -- The messages that futures of an actor received, in order.
  abbrev pub letter_of : Received M → List (Letter M)
  letter_of (receive.Got from message) = record { sender = from; message = message } ∷ []
  letter_of (receive.Waits ticket) = []
  letter_of (receive.Refused error) = []

  abbrev pub received_by : ℕ → Event M → List (Letter M)
  received_by a (spawned_one r) = []
  received_by a (sent_one from to message r) = []
  received_by a (stopped_one actor r) = []
  received_by a (received ticket actor task r) = if actor == a then letter_of r else []
  received_by a (called_next actor) = []
  received_by a (gave_up ticket me) = []
  received_by a (handed task) = []

  abbrev pub received_from : ℕ → List (Event M) → List (Letter M)
  received_from a [] = []
  received_from a (e ∷ es) = received_by a e ++ received_from a es

-- Over any calls of any tasks, the messages that futures of an actor received are a prefix of those that were sent to
-- it. So each message is received at most once, in the order in which they were sent.
abbrev pub ReceivedInOrder : Type 0 → Type 0
ReceivedInOrder M = (es : List (Event M)) (u v : Mailboxes M) (most_actors most_messages a : ℕ) → actors_of u.actors ≡ no_actors most_actors most_messages → Run Step u es v
    → IsPrefix (received_from a es) (sent_to a es)

-- A task whose future waits is in the line, for its actor.
abbrev pub WaitsInLine : Type 0 → Type 0
WaitsInLine M = (a b : Mailboxes M) (ticket : Option ℕ) (actor task t : ℕ) → Receives a ticket actor task (receive.Waits t) b → is_there b.waiters.items t actor task ≡ true

-- After a call, while a task waits in the line for its actor, no message is there for it: none waits for the actor, or
-- one that came before was called.
abbrev pub NoMessageIsMissed : Type 0 → Type 0
NoMessageIsMissed M = (a b : Mailboxes M) (actor : ℕ) → CallsNext a actor b → has_actor b.waiters.items actor ≡ true → (waits_at (actors_of b.actors) actor ≡ true) ⊎ (has_actor b.called.items actor ≡ true)

-- The calls of a channel for one message, each with its answer, and the wakes of the tasks that it owes.
use Rattle.std.specs.Prelude.{⊤, ℕ, List, [], ◌∷◌, ◌++◌, Option, Some, None, Result, Ok, Err}
use Rattle.mono_sync.specs.declared.lines.Waiter.{Waiter}
use Rattle.mono_sync.specs.declared.oneshot.Oneshot.{Oneshot}
use Rattle.mono_sync.specs.declared.oneshot.TryRecvError.{TryRecvError}
use Rattle.mono_sync.specs.declared.oneshot.Receiving.{Receiving}
use Rattle.mono_sync.specs.declared.oneshot.Receiving.TheVariants as receiving
use Rattle.mono_sync.specs.Oneshot.{Sends, TriesToReceive, Receives, Closes, GivesUp, Pays}

pub data Event (T : Type 0) : Type 0 where
  sent : (message : T) → (answer : Result ⊤ T) → Event T
  tried : (answer : Result T TryRecvError) → Event T
  asked : (ticket : Option ℕ) → (task : ℕ) → (answer : Receiving T) → Event T
  closed : Event T
  gave_up : (ticket : Option ℕ) → (task : ℕ) → Event T
  served : (first : Option Waiter) → Event T

abbrev pub Step : {T : Type 0} → Oneshot T → Event T → Oneshot T → Type 0
Step a (sent x r) b = Sends a x r b
Step a (tried r) b = TriesToReceive a r b
Step a (asked ticket task r) b = Receives a ticket task r b
Step a closed b = Closes a b
Step a (gave_up ticket task) b = GivesUp a ticket task b
Step a (served first) b = Pays a first b

module _ {T : Type 0} where
  -- The message that the channel holds, if any.
  abbrev pub held : Option T → List T
  held None = []
  held (Some x) = x ∷ []

  -- The message that the call sent, if any.
  abbrev pub sent_by : Event T → List T
  sent_by (sent x (Ok done)) = x ∷ []
  sent_by (sent x (Err y)) = []
  sent_by (tried r) = []
  sent_by (asked ticket task r) = []
  sent_by closed = []
  sent_by (gave_up ticket task) = []
  sent_by (served first) = []

  abbrev pub all_sent : List (Event T) → List T
  all_sent [] = []
  all_sent (e ∷ es) = sent_by e ++ all_sent es

  -- The message that the call received, if any.
  abbrev pub received_by : Event T → List T
  received_by (sent x r) = []
  received_by (tried (Ok x)) = x ∷ []
  received_by (tried (Err e)) = []
  received_by (asked ticket task (receiving.Received x)) = x ∷ []
  received_by (asked ticket task receiving.Closed) = []
  received_by (asked ticket task receiving.Waits) = []
  received_by (asked ticket task receiving.Taken) = []
  received_by (asked ticket task (receiving.Joined t)) = []
  received_by (asked ticket task receiving.Memory) = []
  received_by closed = []
  received_by (gave_up ticket task) = []
  received_by (served first) = []

  abbrev pub all_received : List (Event T) → List T
  all_received [] = []
  all_received (e ∷ es) = received_by e ++ all_received es

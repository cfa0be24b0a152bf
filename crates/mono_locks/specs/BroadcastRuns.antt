-- The calls of a broadcast, each with its answer, and the wakes of the tasks that it owes.
use Rattle.std.specs.Prelude.{⊤, ℕ, List, [], ◌∷◌, ◌++◌, Option, Result, Ok, Err}
use Rattle.mono_locks.specs.declared.queues.Asked.{Asked}
use Rattle.mono_locks.specs.declared.queues.Entry.{Entry}
use Rattle.mono_locks.specs.declared.broadcast.Broadcast.{Broadcast}
use Rattle.mono_locks.specs.declared.broadcast.Received.{Received}
use Rattle.mono_locks.specs.declared.broadcast.SendError.{SendError}
use Rattle.mono_locks.specs.Broadcasts.{Sends, Receives, Closes, GivesUp, Pays}

pub data Event (T : Type 0) : Type 0 where
  was_sent : (message : T) → (answer : Result ⊤ (SendError T)) → Event T
  received : (next : ℕ) → (ticket : Option ℕ) → (task : ℕ) → (answer : Asked (Received T)) → Event T
  closed : Event T
  gave_up : (ticket : Option ℕ) → (task : ℕ) → Event T
  served : (first : Option Entry) → Event T

abbrev pub Step : {T : Type 0} → Broadcast T → Event T → Broadcast T → Type 0
Step a (was_sent x r) b = Sends a x r b
Step a (received n ticket task r) b = Receives a n ticket task r b
Step a closed b = Closes a b
Step a (gave_up ticket task) b = GivesUp a ticket task b
Step a (served first) b = Pays a first b

module _ {T : Type 0} where
  -- The message that the call sent, if any.
  abbrev pub sent_by : Event T → List T
  sent_by (was_sent x (Ok done)) = x ∷ []
  sent_by (was_sent x (Err e)) = []
  sent_by (received n ticket task r) = []
  sent_by closed = []
  sent_by (gave_up ticket task) = []
  sent_by (served first) = []

  -- The messages that were sent, in order.
  abbrev pub all_sent : List (Event T) → List T
  all_sent [] = []
  all_sent (e ∷ es) = sent_by e ++ all_sent es

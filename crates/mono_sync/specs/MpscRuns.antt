-- A sequence of calls of a channel.
use Rattle.std.specs.Prelude.{⊤, ◌≡◌, ℕ, List, [], ◌∷◌, ◌++◌, Option, Result, Ok, Err, refl}
use Rattle.std.proofs.Common.{subst}
use Rattle.mono_sync.specs.declared.lines.Waiter.{Waiter}
use Rattle.mono_sync.specs.declared.mpsc.Channel.{Channel}
use Rattle.mono_sync.specs.declared.mpsc.TrySendError.{TrySendError}
use Rattle.mono_sync.specs.declared.mpsc.TryRecvError.{TryRecvError}
use Rattle.mono_sync.specs.declared.mpsc.Sending.{Sending}
use Rattle.mono_sync.specs.declared.mpsc.Sending.TheVariants as sending
use Rattle.mono_sync.specs.declared.mpsc.Receiving.{Receiving}
use Rattle.mono_sync.specs.declared.mpsc.Receiving.TheVariants as receiving
use Rattle.mono_sync.specs.Mpsc.{TriesToSend, TriesToReceive, Sends, Receives, GivesUpSend, GivesUpReceive, Closes, PaysSender, PaysReceiver}

-- A call with its answer, or the wake of the first owed task of a line.
pub data Event (T : Type 0) : Type 0 where
  tried_to_send : (message : T) → (answer : Result ⊤ (TrySendError T)) → Event T
  tried_to_receive : (answer : Result T TryRecvError) → Event T
  asked_to_send : (ticket : Option ℕ) → (message : T) → (task : ℕ) → (answer : Sending T) → Event T
  asked_to_receive : (ticket : Option ℕ) → (task : ℕ) → (answer : Receiving T) → Event T
  gave_up_send : (ticket : Option ℕ) → (task : ℕ) → Event T
  gave_up_receive : (ticket : Option ℕ) → (task : ℕ) → Event T
  closed : Event T
  served_sender : (first : Option Waiter) → Event T
  served_receiver : (first : Option Waiter) → Event T

module _ {T : Type 0} where
  abbrev pub Step : Channel T → Event T → Channel T → Type 0
  Step a (tried_to_send x r) b = TriesToSend a x r b
  Step a (tried_to_receive r) b = TriesToReceive a r b
  Step a (asked_to_send ticket x task r) b = Sends a ticket x task r b
  Step a (asked_to_receive ticket task r) b = Receives a ticket task r b
  Step a (gave_up_send ticket task) b = GivesUpSend a ticket task b
  Step a (gave_up_receive ticket task) b = GivesUpReceive a ticket task b
  Step a closed b = Closes a b
  Step a (served_sender first) b = PaysSender a first b
  Step a (served_receiver first) b = PaysReceiver a first b

  abbrev pub Run : Channel T → List (Event T) → Channel T → Type 0
  Run a [] b = b ≡ a
  Run a (e ∷ es) b = (m : Channel T) × Step a e m × Run m es b

  -- The message that the call sent, if any.
  abbrev pub sent_by : Event T → List T
  sent_by (tried_to_send x (Ok done)) = x ∷ []
  sent_by (tried_to_send x (Err e)) = []
  sent_by (tried_to_receive r) = []
  sent_by (asked_to_send ticket x task sending.Sent) = x ∷ []
  sent_by (asked_to_send ticket x task (sending.Closed y)) = []
  sent_by (asked_to_send ticket x task (sending.Memory y)) = []
  sent_by (asked_to_send ticket x task (sending.Joined t y)) = []
  sent_by (asked_to_send ticket x task (sending.Waits y)) = []
  sent_by (asked_to_receive ticket task r) = []
  sent_by (gave_up_send ticket task) = []
  sent_by (gave_up_receive ticket task) = []
  sent_by closed = []
  sent_by (served_sender first) = []
  sent_by (served_receiver first) = []

  abbrev pub sent : List (Event T) → List T
  sent [] = []
  sent (e ∷ es) = sent_by e ++ sent es

  -- The message that the call received, if any.
  abbrev pub received_by : Event T → List T
  received_by (tried_to_send x r) = []
  received_by (tried_to_receive (Ok x)) = x ∷ []
  received_by (tried_to_receive (Err e)) = []
  received_by (asked_to_send ticket x task r) = []
  received_by (asked_to_receive ticket task (receiving.Received x)) = x ∷ []
  received_by (asked_to_receive ticket task receiving.Closed) = []
  received_by (asked_to_receive ticket task receiving.Memory) = []
  received_by (asked_to_receive ticket task (receiving.Joined t)) = []
  received_by (asked_to_receive ticket task receiving.Waits) = []
  received_by (gave_up_send ticket task) = []
  received_by (gave_up_receive ticket task) = []
  received_by closed = []
  received_by (served_sender first) = []
  received_by (served_receiver first) = []

  abbrev pub received : List (Event T) → List T
  received [] = []
  received (e ∷ es) = received_by e ++ received es

  -- Calls lead from the first to the second.
  pub record Leads (a b : Channel T) : Type 0 where
    pub events : List (Event T)
    pub run : Run a events b

  pub leads_itself : (a : Channel T) → Leads a a
  leads_itself a = record { events = []; run = refl }

  run_on : (xs ys : List (Event T)) (a b c : Channel T) → Run a xs b → Run b ys c → Run a (xs ++ ys) c
  run_on [] ys a b c same more = subst (λ m. Run m ys c) same more
  run_on (x ∷ xs) ys a b c (m, step, rest) more = (m, step, run_on xs ys m b c rest more)

  pub leads_on : (a b c : Channel T) → Leads a b → Leads b c → Leads a c
  leads_on a b c p q = record { events = p.events ++ q.events; run = run_on p.events q.events a b c p.run q.run }

  -- One call leads from the channel before it to the channel after it.
  pub leads_by : (e : Event T) (a b : Channel T) → Step a e b → Leads a b
  leads_by e a b step = record { events = e ∷ []; run = (b, step, refl) }

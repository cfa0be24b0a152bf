-- Nobody overtakes a line, a task waits only while all is reserved, and a future that is given up passes its place on.
use Rattle.std.specs.Prelude.{⊤, false, ◌≡◌, ◌<◌, ◌≤◌, ◌⊎◌, ℕ, zero, suc, List, [], ◌∷◌, length, Some, None, Ok, true}
use Rattle.mono_sync.specs.declared.lines.Waiter.{Waiter}
use Rattle.mono_sync.specs.declared.semaphores.Semaphore.{Semaphore}
use Rattle.mono_sync.specs.declared.semaphores.Acquiring.{Acquiring}
use Rattle.mono_sync.specs.declared.semaphores.Acquiring.TheVariants as acquiring
use Rattle.mono_sync.specs.declared.mpsc.Channel.{Channel}
use Rattle.mono_sync.specs.declared.mpsc.Sending.TheVariants as sending
use Rattle.mono_sync.specs.declared.mpsc.Receiving.TheVariants as receiving
use Rattle.mono_sync.specs.declared.notices.Notify.{Notify}
use Rattle.mono_sync.specs.Lines.{holder_of, starts_below, tasks_of}
use Rattle.mono_sync.specs.Laws.{Rises}
use Rattle.mono_sync.specs.Semaphores as semaphore
use Rattle.mono_sync.specs.SemaphoreRuns as semaphores
use Rattle.mono_sync.specs.Mpsc as channel
use Rattle.mono_sync.specs.MpscRuns as channels
use Rattle.mono_sync.specs.Notices as notice
use Rattle.mono_sync.specs.NoticeRuns as notices
use Rattle.mono_sync.specs.Runs.{Run}

-- A permit is taken at once, by a try or by a future without a ticket, only if each task that waits is owed one.
abbrev pub NoTaskIsOvertaken : Type 0
NoTaskIsOvertaken = (a b : Semaphore) (me : ℕ) → semaphore.TriesToAcquire a (Ok tt) b ⊎ semaphore.Acquires a None me acquiring.Acquired b → semaphore.owed_by b ≡ semaphore.waiting_in b

-- A message is sent at once only if each sender that waits is owed a place. A message is received at once only if each
-- receiver that waits is owed one.
abbrev pub NoSenderIsOvertaken : Type 0 → Type 0
NoSenderIsOvertaken T = (a b : Channel T) (x : T) (me : ℕ)
    → (channel.TriesToSend a x (Ok tt) b ⊎ channel.Sends a None x me sending.Sent b → channel.owed_senders b ≡ tasks_of b.senders.waiters.items)
    × (channel.TriesToReceive a (Ok x) b ⊎ channel.Receives a None me (receiving.Received x) b → channel.owed_receivers b ≡ tasks_of b.receivers.waiters.items)

-- What is reserved is there.
abbrev pub IsCovered : Semaphore → Type 0
IsCovered a = a.line.granted ≤ a.available

-- Whatever is called: while a task waits for a permit and nothing is owed, each free permit is reserved, and no more are.
abbrev pub WaitsIfReserved : Type 0
WaitsIfReserved = (es : List semaphores.Event) (a b : Semaphore) (p : List ℕ) (t : ℕ) → IsCovered a → semaphores.Run a es b → semaphore.owed_by b ≡ [] → semaphore.listed_by b p t ≡ true → b.available ≡ b.line.granted

module _ {T : Type 0} where
  -- The places and messages that are reserved are there, as long as the channel is open.
  abbrev pub AreCovered : Channel T → Type 0
  AreCovered a = a.is_closed ≡ false → (a.senders.granted ≤ channel.places a) × (a.receivers.granted ≤ length a.queue.items)

-- Whatever is called: while a task waits at a channel and nothing is owed, each free place, or each message, is reserved, and
-- no more are.
abbrev pub WaitsIfPromised : Type 0 → Type 0
WaitsIfPromised T = (es : List (channels.Event T)) (a b : Channel T) (k t : ℕ) → AreCovered a → channels.Run a es b → channel.owed_by b ≡ []
    → (channel.listed_by b (zero ∷ k ∷ []) t ≡ true → channel.places b ≡ b.senders.granted) × (channel.listed_by b (suc zero ∷ k ∷ []) t ≡ true → length b.queue.items ≡ b.receivers.granted)

-- Whatever was called: if a future that was served is given up, its permit is owed to the first task that waits.
abbrev pub PassesItsPermitOn : Type 0
PassesItsPermitOn = (es : List semaphores.Event) (a b c : Semaphore) (k me : ℕ) (w : Waiter) (ws : List Waiter) → IsCovered a → semaphores.Run a es b
    → k < b.line.next → holder_of b.line.waiters.items k ≡ None → 0 < b.line.granted → b.line.waiters.items ≡ w ∷ ws
    → semaphore.GivesUp b (Some k) me c → (us : List ℕ) × (semaphore.owed_by c ≡ w.task ∷ us)

-- Whatever was called: if a future that was served is given up, its place is owed to the first sender that waits, its message
-- to the first receiver.
abbrev pub PassesItsPlaceOn : Type 0 → Type 0
PassesItsPlaceOn T = (es : List (channels.Event T)) (a b c : Channel T) (k me : ℕ) (w : Waiter) (ws : List Waiter) → AreCovered a → channels.Run a es b
    → (k < b.senders.next → holder_of b.senders.waiters.items k ≡ None → 0 < b.senders.granted → b.senders.waiters.items ≡ w ∷ ws → channel.GivesUpSend b (Some k) me c → (us : List ℕ) × (channel.owed_senders c ≡ w.task ∷ us))
    × (k < b.receivers.next → holder_of b.receivers.waiters.items k ≡ None → 0 < b.receivers.granted → b.receivers.waiters.items ≡ w ∷ ws → channel.GivesUpReceive b (Some k) me c → (us : List ℕ) × (channel.owed_receivers c ≡ w.task ∷ us))

-- A future has a notice to one: it left the line notified alone, or it has one in the line or out of it.
abbrev pub IsNotified : Notify → ℕ → Type 0
IsNotified a k = ((holder_of a.line.waiters.items k ≡ None) × (notice.was_alone a k ≡ true)) ⊎ (Rises 0 a.line.waiters.items a.line.next × (notice.has_notice a k ≡ true))

-- If a future that has a notice to one is given up, also one that was not woken yet, the first task that waits is owed a
-- notice.
abbrev pub PassesItsNoticeOn : Type 0
PassesItsNoticeOn = (a b : Notify) (k me : ℕ) (w : Waiter) (ws : List Waiter) → IsNotified a k → notice.GivesUp a (Some k) me b → b.line.waiters.items ≡ w ∷ ws
    → (us : List ℕ) × (notice.owed_by b ≡ w.task ∷ us)

-- Each task that waits at a notice to all is owed it, also one whose future was enabled and not polled.
abbrev pub NoticeReachesAll : Type 0
NoticeReachesAll = (a b : Notify) → Rises 0 a.line.waiters.items a.line.next → notice.NotifiesAll a b → notice.owed_by b ≡ notice.waiting_in a

-- Tickets rise along the line of a notice, and the last two notices to all came one after the other, before the next ticket.
abbrev pub IsOrdered : Notify → Type 0
IsOrdered a = (a.cleared.before ≤ a.cleared.next) × (a.cleared.next ≤ a.line.next) × Rises 0 a.line.waiters.items a.line.next

-- Whatever is called, a future that has a notice to one keeps it, woken or not, if at most one notice to all came since its
-- first poll.
abbrev pub NoticeOutlivesNoticeToAll : Type 0
NoticeOutlivesNoticeToAll = (es : List notices.Event) (a b : Notify) → IsOrdered a → Run notices.Step a es b → IsOrdered b × ((k : ℕ) → notice.has_notice a k ≡ true → b.cleared.before ≤ k → notice.has_notice b k ≡ true)

-- A task that is woken for a notice to one has it.
abbrev pub WokenHasNotice : Type 0
WokenHasNotice = (a b : Notify) (w : Waiter) → Rises 0 a.line.waiters.items a.line.next → starts_below a.cleared.next a.line.waiters.items ≡ false → notice.Pays a (Some w) b
    → (b.cleared.next ≤ w.ticket) × (notice.has_notice b w.ticket ≡ true)

-- A number that was never drawn and with which no task waits is no ticket: a future asks with it as one without a ticket, and
-- changes nothing if it is given up.
abbrev pub UndrawnIsNoTicket : Type 0
UndrawnIsNoTicket = (a b : Semaphore) (k me : ℕ) → a.line.next ≤ k → holder_of a.line.waiters.items k ≡ None
    → ((r : Acquiring) → semaphore.Acquires a (Some k) me r b → semaphore.Acquires a None me r b) × (semaphore.GivesUp a (Some k) me b → b ≡ a)

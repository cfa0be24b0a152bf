-- Laws that hold over any calls of channels and of a semaphore.
use Rattle.std.specs.Prelude.{true, false, ◌≡◌, ◌<◌, ◌≤◌, ◌+◌, ℕ, List, [], ◌∷◌, ◌++◌, length, Some, None}
use Rattle.mono_sync.specs.declared.lines.Waiter.{Waiter}
use Rattle.mono_sync.specs.declared.semaphores.Semaphore.{Semaphore}
use Rattle.mono_sync.specs.declared.mpsc.Channel.{Channel}
use Rattle.mono_sync.specs.Semaphores.{Pays}
use Rattle.mono_sync.specs.Mpsc.{PaysSender, PaysReceiver}
use Rattle.mono_sync.specs.SemaphoreRuns as semaphore
use Rattle.mono_sync.specs.MpscRuns as channel
use Rattle.mono_sync.specs.declared.oneshot.Oneshot.{Oneshot}
use Rattle.mono_sync.specs.Runs.{Run}
use Rattle.mono_sync.specs.OneshotRuns as oneshot

-- The given permits and the remaining ones are those at the start and those put back.
abbrev pub PermitsAreKept : Type 0
PermitsAreKept = (es : List semaphore.Event) (a b : Semaphore) → semaphore.Run a es b → semaphore.given es + b.available ≡ a.available + semaphore.put_back es

-- The waiting tasks have rising tickets, the first at least `low`, the last below the next ticket.
abbrev pub Rises : ℕ → List Waiter → ℕ → Type 0
Rises low [] next = low ≤ next
Rises low (w ∷ ws) next = (low ≤ w.ticket) × (w.ticket < next) × Rises (w.ticket + 1) ws next

-- Tickets rise along a line, whatever was called. So the first, which is served, has the least.
abbrev pub FirstComeFirstServed : Type 0
FirstComeFirstServed = (es : List semaphore.Event) (a b c : Semaphore) (w : Waiter) → Rises 0 a.line.waiters.items a.line.next → semaphore.Run a es b → Pays b (Some w) c → Rises (w.ticket + 1) c.line.waiters.items c.line.next

-- Tickets rise along both lines of a channel. So the sender that has waited longest is served first, and so is the
-- receiver that has waited longest.
abbrev pub ServedInOrder : (T : Type 0) → Type 0
ServedInOrder T = (es : List (channel.Event T)) (a b c : Channel T) (w : Waiter) → channel.Run a es b
    → (Rises 0 a.senders.waiters.items a.senders.next → PaysSender b (Some w) c → Rises (w.ticket + 1) c.senders.waiters.items c.senders.next)
    × (Rises 0 a.receivers.waiters.items a.receivers.next → PaysReceiver b (Some w) c → Rises (w.ticket + 1) c.receivers.waiters.items c.receivers.next)

-- The received messages, followed by the queue at the end, are the queue at the start, followed by the sent messages.
abbrev pub InOrder : (T : Type 0) → Type 0
InOrder T = (es : List (channel.Event T)) (a b : Channel T) → channel.Run a es b → channel.received es ++ b.queue.items ≡ a.queue.items ++ channel.sent es

-- A closed channel stays closed, and takes no message.
abbrev pub NothingAfterClose : (T : Type 0) → Type 0
NothingAfterClose T = (es : List (channel.Event T)) (a b : Channel T) → a.is_closed ≡ true → channel.Run a es b → (b.is_closed ≡ true) × (channel.sent es ≡ []) × (channel.received es ++ b.queue.items ≡ a.queue.items)

-- The bound stays the same, and the channel stays within it.
abbrev pub StaysBounded : (T : Type 0) → Type 0
StaysBounded T = (es : List (channel.Event T)) (a b : Channel T) → channel.Run a es b → (b.bound ≡ a.bound) × (length a.queue.items ≤ a.bound → length b.queue.items ≤ b.bound)

-- An open channel holds no message. One message is sent at most, and none after a close. What is received was sent, and
-- comes out once.
abbrev pub ReceivedOnce : (T : Type 0) → Type 0
ReceivedOnce T = (es : List (oneshot.Event T)) (a b : Oneshot T) → (a.is_closed ≡ false → a.message ≡ None) → Run oneshot.Step a es b
    → (oneshot.all_received es ++ oneshot.held b.message ≡ oneshot.held a.message ++ oneshot.all_sent es) × (length (oneshot.all_sent es) ≤ 1) × (a.is_closed ≡ true → oneshot.all_sent es ≡ [])

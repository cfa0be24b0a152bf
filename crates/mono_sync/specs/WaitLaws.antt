-- Where a pending future is listed, and what a value that owes nothing has.
use Rattle.std.specs.Prelude.{true, false, ◌≡◌, ◌≤◌, ◌⊎◌, ℕ, zero, suc, List, [], ◌∷◌, length, Option, Some, None}
use Rattle.mono_sync.specs.declared.semaphores.Semaphore.{Semaphore}
use Rattle.mono_sync.specs.declared.semaphores.Acquiring.{Acquiring}
use Rattle.mono_sync.specs.declared.semaphores.Acquiring.TheVariants as acquiring
use Rattle.mono_sync.specs.declared.mpsc.Channel.{Channel}
use Rattle.mono_sync.specs.declared.mpsc.Sending.TheVariants as sending
use Rattle.mono_sync.specs.declared.mpsc.Receiving.TheVariants as receiving
use Rattle.mono_sync.specs.declared.oneshot.Oneshot.{Oneshot}
use Rattle.mono_sync.specs.declared.oneshot.Receiving.TheVariants as delivering
use Rattle.mono_sync.specs.declared.notices.Notify.{Notify}
use Rattle.mono_sync.specs.declared.notices.Notifying.TheVariants as notifying
use Rattle.mono_sync.specs.declared.watch.Watch.{Watch}
use Rattle.mono_sync.specs.declared.watch.Changing.TheVariants as changing
use Rattle.mono_sync.specs.Semaphores as semaphore
use Rattle.mono_sync.specs.Mpsc as channel
use Rattle.mono_sync.specs.Oneshot as oneshot
use Rattle.mono_sync.specs.Notices as notice
use Rattle.mono_sync.specs.Watches as watch
use Rattle.mono_sync.specs.NoticeRuns as notices
use Rattle.mono_sync.specs.WatchRuns as watches
use Rattle.mono_sync.specs.Runs.{Run}
use Rattle.mono_sync.specs.Laws.{Rises}

-- A future that is pending is listed with its task, at its ticket.
abbrev pub PendingIsListed : Type 0
PendingIsListed = (a b : Semaphore) (ticket : Option ℕ) (me k : ℕ)
    → (semaphore.Acquires a (Some k) me acquiring.Waits b → semaphore.listed_by b (k ∷ []) me ≡ true) × (semaphore.Acquires a ticket me (acquiring.Joined k) b → semaphore.listed_by b (k ∷ []) me ≡ true)

abbrev pub PendingSenderIsListed : Type 0 → Type 0
PendingSenderIsListed T = (a b : Channel T) (ticket : Option ℕ) (x y : T) (me k : ℕ)
    → (channel.Sends a (Some k) x me (sending.Waits y) b → channel.listed_by b (zero ∷ k ∷ []) me ≡ true) × (channel.Sends a ticket x me (sending.Joined k y) b → channel.listed_by b (zero ∷ k ∷ []) me ≡ true)

abbrev pub PendingReceiverIsListed : Type 0 → Type 0
PendingReceiverIsListed T = (a b : Channel T) (ticket : Option ℕ) (me k : ℕ)
    → (channel.Receives a (Some k) me receiving.Waits b → channel.listed_by b (suc zero ∷ k ∷ []) me ≡ true) × (channel.Receives a ticket me (receiving.Joined k) b → channel.listed_by b (suc zero ∷ k ∷ []) me ≡ true)

abbrev pub PendingDeliveryIsListed : Type 0 → Type 0
PendingDeliveryIsListed T = (a b : Oneshot T) (ticket : Option ℕ) (me k : ℕ)
    → (oneshot.Receives a (Some k) me delivering.Waits b → oneshot.listed_by b (k ∷ []) me ≡ true) × (oneshot.Receives a ticket me (delivering.Joined k) b → oneshot.listed_by b (k ∷ []) me ≡ true)

abbrev pub PendingNoticeIsListed : Type 0
PendingNoticeIsListed = (a b : Notify) (ticket : Option ℕ) (me k : ℕ)
    → (notice.Awaits a (Some k) me notifying.Waits b → notice.listed_by b (k ∷ []) me ≡ true) × (notice.Awaits a ticket me (notifying.Joined k) b → notice.listed_by b (k ∷ []) me ≡ true)

abbrev pub PendingChangeIsListed : Type 0 → Type 0
PendingChangeIsListed T = (a b : Watch T) (seen : ℕ) (ticket : Option ℕ) (me k : ℕ)
    → (watch.Changes a seen (Some k) me changing.Waits b → watch.listed_by b (k ∷ []) me ≡ true) × (watch.Changes a seen ticket me (changing.Joined k) b → watch.listed_by b (k ∷ []) me ≡ true)

-- The place of a future with this ticket, if it drew one.
abbrev pub IsPlaceOf : Option ℕ → List ℕ → Type 0
IsPlaceOf None p = ⊥
IsPlaceOf (Some k) p = p ≡ k ∷ []

-- A future that asks or is given up takes nobody out but its own task, at its own ticket.
abbrev pub TakesOutItsOwn : Type 0
TakesOutItsOwn = (a b : Semaphore) (ticket : Option ℕ) (me : ℕ) (p : List ℕ) (t : ℕ) → semaphore.listed_by a p t ≡ true
    → ((r : Acquiring) → semaphore.Acquires a ticket me r b → (semaphore.listed_by b p t ≡ true) ⊎ ((t ≡ me) × IsPlaceOf ticket p)) × (semaphore.GivesUp a ticket me b → (semaphore.listed_by b p t ≡ true) ⊎ ((t ≡ me) × IsPlaceOf ticket p))

-- While a semaphore owes nothing and a task waits, it is open, and no permit is free: each is held, or reserved for a task
-- that was served.
abbrev pub NoPermitLiesIdle : Type 0
NoPermitLiesIdle = (a : Semaphore) (p : List ℕ) (t : ℕ) → semaphore.owed_by a ≡ [] → semaphore.listed_by a p t ≡ true → (a.is_closed ≡ false) × (a.available ≤ a.line.granted)

-- While a channel owes nothing and a task waits, it is open. If the task waits to send, each free place is reserved for a
-- task that was served. If it waits to receive, each queued message is promised to one.
abbrev pub NoMessageLiesIdle : Type 0 → Type 0
NoMessageLiesIdle T = (a : Channel T) (k t : ℕ) → channel.owed_by a ≡ []
    → (channel.listed_by a (zero ∷ k ∷ []) t ≡ true → (a.is_closed ≡ false) × (channel.places a ≤ a.senders.granted))
    × (channel.listed_by a (suc zero ∷ k ∷ []) t ≡ true → (a.is_closed ≡ false) × (length a.queue.items ≤ a.receivers.granted))

-- While a channel for one message owes nothing and a task waits, a message may come, and one that came is promised.
abbrev pub NoDeliveryLiesIdle : Type 0 → Type 0
NoDeliveryLiesIdle T = (a : Oneshot T) (k t : ℕ) → oneshot.owed_by a ≡ [] → oneshot.listed_by a (k ∷ []) t ≡ true → (oneshot.is_over a ≡ false) × (oneshot.count a.message ≤ a.line.granted)

-- While a notice owes nothing and a task waits, whatever was called, no notice is left, and the task came after the last
-- notice to all.
abbrev pub NoNoticeLiesIdle : Type 0
NoNoticeLiesIdle = (es : List notices.Event) (a b : Notify) (k t : ℕ) → Rises 0 a.line.waiters.items a.line.next → Run notices.Step a es b
    → notice.owed_by b ≡ [] → notice.listed_by b (k ∷ []) t ≡ true → (b.pending ≡ 0) × (b.cleared.next ≤ k)

-- While a watched value owes nothing and a task waits, whatever was called, it is open, and the task came after the last
-- send.
abbrev pub NoChangeLiesIdle : Type 0 → Type 0
NoChangeLiesIdle T = (es : List (watches.Event T)) (a b : Watch T) (k t : ℕ) → Rises 0 a.line.waiters.items a.line.next → Run watches.Step a es b
    → watch.owed_by b ≡ [] → watch.listed_by b (k ∷ []) t ≡ true → (b.is_closed ≡ false) × (b.cleared ≤ k)

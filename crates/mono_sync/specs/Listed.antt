-- Each task that a value lists is one of those that wait in it.
use Rattle.std.specs.Prelude.{true, ◌≡◌, ◌==◌, ℕ, List}
use Rattle.std.specs.List.{list_any}
use Rattle.mono_sync.specs.declared.semaphores.Semaphore.{Semaphore}
use Rattle.mono_sync.specs.declared.mpsc.Channel.{Channel}
use Rattle.mono_sync.specs.declared.oneshot.Oneshot.{Oneshot}
use Rattle.mono_sync.specs.declared.notices.Notify.{Notify}
use Rattle.mono_sync.specs.declared.watch.Watch.{Watch}
use Rattle.mono_sync.specs.Semaphores as semaphore
use Rattle.mono_sync.specs.Mpsc as channel
use Rattle.mono_sync.specs.Oneshot as oneshot
use Rattle.mono_sync.specs.Notices as notice
use Rattle.mono_sync.specs.Watches as watch
use Rattle.mono_sync.specs.Lines.{tasks_of}
use Rattle.mono_sync.specs.Owing.{line_some}
use Rattle.mono_sync.specs.Parts.{two_some}

pub semaphore_some : (a : Semaphore) (p : List ℕ) (t : ℕ) → semaphore.listed_by a p t ≡ true → list_any (λ u. u == t) (semaphore.waiting_in a) ≡ true
semaphore_some a = line_some a.line.waiters.items

pub notice_some : (a : Notify) (p : List ℕ) (t : ℕ) → notice.listed_by a p t ≡ true → list_any (λ u. u == t) (notice.waiting_in a) ≡ true
notice_some a = line_some a.line.waiters.items

module _ {T : Type 0} where
  pub channel_some : (a : Channel T) (p : List ℕ) (t : ℕ) → channel.listed_by a p t ≡ true → list_any (λ u. u == t) (channel.waiting_in a) ≡ true
  channel_some = two_some channel.sender_at channel.receiver_at (λ a. tasks_of a.senders.waiters.items) (λ a. tasks_of a.receivers.waiters.items) (λ a. line_some a.senders.waiters.items) (λ a. line_some a.receivers.waiters.items)

  pub oneshot_some : (a : Oneshot T) (p : List ℕ) (t : ℕ) → oneshot.listed_by a p t ≡ true → list_any (λ u. u == t) (oneshot.waiting_in a) ≡ true
  oneshot_some a = line_some a.line.waiters.items

  pub watch_some : (a : Watch T) (p : List ℕ) (t : ℕ) → watch.listed_by a p t ≡ true → list_any (λ u. u == t) (watch.waiting_in a) ≡ true
  watch_some a = line_some a.line.waiters.items

-- The calls of a notice, each with its answer, and the wakes of the tasks that it owes.
use Rattle.std.specs.Prelude.{ℕ, Option}
use Rattle.mono_sync.specs.declared.lines.Waiter.{Waiter}
use Rattle.mono_sync.specs.declared.notices.Notify.{Notify}
use Rattle.mono_sync.specs.declared.notices.Notifying.{Notifying}
use Rattle.mono_sync.specs.Notices.{NotifiesOne, NotifiesAll, Awaits, GivesUp, Pays}

pub data Event : Type 0 where
  one : Event
  all : Event
  asked : (ticket : Option ℕ) → (task : ℕ) → (answer : Notifying) → Event
  gave_up : (ticket : Option ℕ) → (task : ℕ) → Event
  served : (first : Option Waiter) → Event

abbrev pub Step : Notify → Event → Notify → Type 0
Step a one b = NotifiesOne a b
Step a all b = NotifiesAll a b
Step a (asked ticket task r) b = Awaits a ticket task r b
Step a (gave_up ticket task) b = GivesUp a ticket task b
Step a (served first) b = Pays a first b

-- The answer and the effect of one poll of a future that waits for the notice with one key.
use Rattle.std.specs.Prelude.{⊤, ◌≡◌, ◌⊎◌, ℕ, Option, Some, None, Result, Ok, Err}
use Rattle.mono_model.specs.Tasks.{Tasks}
use Rattle.mono_model.specs.Table.{Table, value_at}
use Rattle.mono_model.specs.declared.poll.Poll.{Poll}
use Rattle.mono_model.specs.declared.poll.Poll.TheVariants.{Ready, Pending}
use Rattle.mono_sync.specs.declared.notices.Notify.{Notify}
use Rattle.mono_sync.specs.declared.notices.Notifying.{Notifying}
use Rattle.mono_sync.specs.declared.notices.Notifying.TheVariants as notifying
use Rattle.mono_sync.specs.declared.keyed_notifications.NotifiedAtError.{NotifiedAtError}
use Rattle.mono_sync.specs.declared.keyed_notifications.NotifiedAtError.TheVariants.{Missing, Memory}
use Rattle.mono_sync.specs.Notices.{NotifiesOne, NotifiesAll, Awaits, GivesUp}
use Rattle.mono_sync.specs.Many.{At}
use Rattle.mono_sync.specs.KeyedCalls.{AtOr}

module _ (key : ℕ) where
  -- The notice with this key is asked, as `Awaits` says. If no notice has the key, there is no answer, and nothing changes.
  abbrev pub AwaitsAt : Table Notify → Option ℕ → ℕ → Option Notifying → Table Notify → Type 0
  AwaitsAt a ticket me None b = (value_at a key ≡ None) × (b ≡ a)
  AwaitsAt a ticket me (Some r) b = At (λ x y. Awaits x ticket me r y) key a b

  -- A future leaves the line of the notice with this key, if there is one, or passes its notice on.
  abbrev pub GivesUpAt : Table Notify → Option ℕ → ℕ → Table Notify → Type 0
  GivesUpAt a ticket me b = AtOr (λ x y. GivesUp x ticket me y) ⊤ key a b

  -- One task that waits for the notice with this key is notified, as `NotifiesOne` says. With no such notice nothing is done.
  abbrev pub NotifiesOneAt : Table Notify → Table Notify → Type 0
  NotifiesOneAt a b = AtOr NotifiesOne ⊤ key a b

  -- All tasks that wait for the notice with this key are notified, as `NotifiesAll` says. With no such notice nothing is done.
  abbrev pub NotifiesAllAt : Table Notify → Table Notify → Type 0
  NotifiesAllAt a b = AtOr NotifiesAll ⊤ key a b

module _ {C : Type 0} (table : C → Table Notify) (number : C → ℕ) (work : C → Tasks ⊤) (key : ℕ) where
  -- The notice's answer is the future's. A pending future is in the line with its ticket.
  abbrev pub NotifiedAtPolls : Option ℕ → C → Poll (Result ⊤ NotifiedAtError) → Option ℕ → C → Type 0
  NotifiedAtPolls ticket c (Ready (Ok done)) left d = AwaitsAt key (table c) ticket (number c) (Some notifying.Notified) (table d) × (work d ≡ work c)
  NotifiedAtPolls ticket c (Ready (Err Missing)) left d = AwaitsAt key (table c) ticket (number c) None (table d) × (work d ≡ work c)
  NotifiedAtPolls ticket c (Ready (Err Memory)) left d = AwaitsAt key (table c) ticket (number c) (Some notifying.Memory) (table d) × (work d ≡ work c)
  NotifiedAtPolls ticket c Pending left d = ((left ≡ ticket) × AwaitsAt key (table c) ticket (number c) (Some notifying.Waits) (table d) × (work d ≡ work c)) ⊎ ((t : ℕ) × ((left ≡ Some t) × AwaitsAt key (table c) ticket (number c) (Some (notifying.Joined t)) (table d) × (work d ≡ work c)))

  -- The future leaves the line, or passes its notice on.
  abbrev pub NotifiedAtCancels : Option ℕ → C → C → Type 0
  NotifiedAtCancels ticket c d = GivesUpAt key (table c) ticket (number c) (table d) × (work d ≡ work c)

  -- The answer is that of a poll of such a future in some context.
  pub record NotifiedAtGives (answer : Result ⊤ NotifiedAtError) : Type 0 where
    pub ticket : Option ℕ
    pub at : C
    pub after : C
    pub polled : NotifiedAtPolls ticket at (Ready answer) None after

-- A value that owes nothing while a task waits has nothing for it.
use Rattle.std.proofs.Common.{◌≡◌, ◌-◌, ◌≤◌, ℕ, zero, suc, Bool, true, false, cond, List, [], ◌∷◌, ◌++◌, length, refl, arith}
use Rattle.mono_sync.specs.declared.lines.Waiter.{Waiter}
use Rattle.mono_sync.specs.Lines.{due, tasks_of, waits_at}
use Rattle.mono_sync.specs.Oneshot.{count, is_over}
use Rattle.mono_sync.specs.Parts.{nil_first, nil_second}
use Rattle.mono_sync.specs.Mpsc.{places}
use Rattle.mono_sync.specs.WaitLaws.{NoPermitLiesIdle, NoMessageLiesIdle, NoDeliveryLiesIdle}
use Rattle.mono_sync.proofs.WaitLemmas.{false-true}

cons-nil : (t : ℕ) (ts : List ℕ) → t ∷ ts ≡ [] → ⊥
cons-nil t ts e = cc

full : (room granted : ℕ) → room - granted ≡ 0 → room ≤ granted
full room granted is = omega (arith, is)

-- a line that waits and is owed nothing has no room
no_room : (n k t : ℕ) (ws : List Waiter) → waits_at ws k t ≡ true → due n ws ≡ [] → n ≡ 0
no_room n k t [] waits none = absurd (false-true waits)
no_room zero k t (w ∷ ws) waits none = refl
no_room (suc n) k t (w ∷ ws) waits none = absurd (cons-nil w.task _ none)

all_owed : (k t : ℕ) (ws : List Waiter) → waits_at ws k t ≡ true → tasks_of ws ≡ [] → ⊥
all_owed k t [] waits none = false-true waits
all_owed k t (w ∷ ws) waits none = cons-nil w.task _ none

by_closed : (c : Bool) (available granted k t : ℕ) (ws : List Waiter) → cond c (tasks_of ws) (due (available - granted) ws) ≡ [] → waits_at ws k t ≡ true → (c ≡ false) × (available ≤ granted)
by_closed true available granted k t ws none waits = absurd (all_owed k t ws waits none)
by_closed false available granted k t ws none waits = (refl, full available granted (no_room (available - granted) k t ws waits none))

pub no_permit : NoPermitLiesIdle
no_permit a [] t none listed = absurd (false-true listed)
no_permit a (k ∷ []) t none listed = by_closed a.is_closed a.available a.line.granted k t a.line.waiters.items none listed
no_permit a (k ∷ l ∷ p) t none listed = absurd (false-true listed)

module _ (n m k t : ℕ) (ss rs : List Waiter) where
  abbrev owed : Bool → List ℕ
  owed c = cond c (tasks_of ss) (due n ss) ++ cond c (tasks_of rs) (due m rs)

  sender_idle : (c : Bool) → owed c ≡ [] → waits_at ss k t ≡ true → (c ≡ false) × (n ≡ 0)
  sender_idle true none waits = absurd (all_owed k t ss waits (nil_first (tasks_of ss) (tasks_of rs) none))
  sender_idle false none waits = (refl, no_room n k t ss waits (nil_first (due n ss) (due m rs) none))

  receiver_idle : (c : Bool) → owed c ≡ [] → waits_at rs k t ≡ true → (c ≡ false) × (m ≡ 0)
  receiver_idle true none waits = absurd (all_owed k t rs waits (nil_second (tasks_of ss) (tasks_of rs) none))
  receiver_idle false none waits = (refl, no_room m k t rs waits (nil_second (due n ss) (due m rs) none))

pub no_message : (T : Type 0) → NoMessageLiesIdle T
no_message T a k t none =
    let n = places a - a.senders.granted in
    let m = length a.queue.items - a.receivers.granted in (
      (λ listed. let both = sender_idle n m k t a.senders.waiters.items a.receivers.waiters.items a.is_closed none listed in (both.0, full (places a) a.senders.granted both.1)),
      (λ listed. let both = receiver_idle n m k t a.senders.waiters.items a.receivers.waiters.items a.is_closed none listed in (both.0, full (length a.queue.items) a.receivers.granted both.1)),
    )

pub no_delivery : (T : Type 0) → NoDeliveryLiesIdle T
no_delivery T a k t none listed = by_closed (is_over a) (count a.message) a.line.granted k t a.line.waiters.items none listed

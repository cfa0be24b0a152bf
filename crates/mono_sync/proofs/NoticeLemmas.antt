-- Whom a notice keeps, and whom it hands out.
use Rattle.std.proofs.Common.{◌≡◌, ◌<◌, ◌-◌, ◌||◌, ◌⊎◌, ℕ, zero, suc, Bool, true, false, cond, MatchBool, List, [], ◌∷◌, Option, Some, None, Ok, Err, refl, sym, ap, subst, ◌∙◌, nat_lt, inl, inr, arith}
use Rattle.std.specs.Prelude.{⊤, Result}
use Rattle.std.specs.declared.alloc.AllocError.{AllocError}
use Rattle.mono_model.specs.Tasks.{Tasks}
use Rattle.mono_model.specs.Poll.{IfReady}
use Rattle.mono_model.specs.declared.poll.Poll.{Poll}
use Rattle.mono_model.specs.declared.poll.Poll.TheVariants.{Ready, Pending}
use Rattle.mono_model.specs.Table.{Table}
use Rattle.mono_sync.specs.declared.keyed_notifications.NotifiedAtError.{NotifiedAtError}
use Rattle.mono_sync.specs.declared.keyed_notifications.NotifiedAtError.TheVariants.{Missing, Memory}
use Rattle.mono_sync.specs.KeyedNotices.{NotifiedAtPolls, NotifiedAtGives}
use Rattle.mono_sync.specs.Notifications.{NotifiedPolls, NotifiedGives}
use Rattle.mono_task.specs.Owed.{Keeps, Hands}
use Rattle.mono_sync.specs.declared.lines.Waiter.{Waiter}
use Rattle.mono_sync.specs.declared.lines.Line.{Line}
use Rattle.mono_sync.specs.declared.lines.Coming.TheVariants.{Waits, Free, Full}
use Rattle.mono_sync.specs.declared.notices.Notify.{Notify}
use Rattle.mono_sync.specs.declared.notices.Cleared.{Cleared}
use Rattle.mono_sync.specs.declared.notices.Notifying.{Notifying}
use Rattle.mono_sync.specs.declared.notices.Notifying.TheVariants as notifying
use Rattle.mono_sync.specs.Lines.{Leaves, Pops, holder_of, starts_below}
use Rattle.mono_sync.specs.Notices.{on_notice, owed_by, listed_by, OneMore, NotifiesOne, AwaitsFirst, AwaitsAgain, Awaits, GivesUp, GivesUpOf, LeavesLine, PaysOne, Pays, had_notice, was_alone}
use Rattle.mono_sync.proofs.WaitLemmas.{LineKept, to_places, line_same, kept_same, kept_joined, kept_tail, comes_keeps, leaves_keeps, joins_keeps, rests_keeps}

of_line : (me : ℕ) (a b : Notify) → LineKept me a.line b.line → Keeps listed_by me a b
of_line me a b kept = to_places me a.line.waiters.items b.line.waiters.items kept

pub line_stays : (me : ℕ) (a b : Notify) → b.line ≡ a.line → Keeps listed_by me a b
line_stays me a b same = of_line me a b (line_same me a.line b.line same)

again_keeps : (a b : Notify) (k me : ℕ) (r : Notifying) → AwaitsAgain a k me r b → Keeps listed_by me a b
again_keeps a b k me notifying.Waits s = of_line me a b (comes_keeps a.line b.line (Some k) me 1 Waits s.0)
again_keeps a b k me notifying.Notified s = elim s.0 [
  | inl free ↦ of_line me a b (comes_keeps a.line b.line (Some k) me 1 Free free)
  | inr full ↦ of_line me a b (comes_keeps a.line b.line (Some k) me 1 Full full.0)
]
again_keeps a b k me notifying.Memory s = of_line me a b (rests_keeps a.line s.0.0 b.line (Some k) me 1 Full s.0.1.0 s.0.1.2)
again_keeps a b k me (notifying.Joined u) s = of_line me a b (joins_keeps a.line s.0.0 b.line (Some k) me 1 u Full s.0.1.0 s.0.1.2)

first_keeps : (a b : Notify) (me : ℕ) (r : Notifying) → AwaitsFirst a me r b → Keeps listed_by me a b
first_keeps a b me notifying.Waits s = absurd s
first_keeps a b me notifying.Notified s = line_stays me a b s.3
first_keeps a b me notifying.Memory s = of_line me a b (kept_same me a.line.waiters.items b.line.waiters.items s.1.0)
first_keeps a b me (notifying.Joined u) s = of_line me a b (kept_joined me a.line.waiters.items _ b.line.waiters.items s.1.1)

awaits_if : (a b : Notify) (k me : ℕ) (r : Notifying) (c : Bool) → MatchBool c (AwaitsAgain a k me r b) (AwaitsFirst a me r b) → Keeps listed_by me a b
awaits_if a b k me r true s = again_keeps a b k me r s
awaits_if a b k me r false s = first_keeps a b me r s

pub awaits_keeps : (a b : Notify) (ticket : Option ℕ) (me : ℕ) (r : Notifying) → Awaits a ticket me r b → Keeps listed_by me a b
awaits_keeps a b None me r s = first_keeps a b me r s
awaits_keeps a b (Some k) me r s = awaits_if a b k me r (nat_lt k a.line.next) s

module _ (a b : Notify) (k me : ℕ) where
  drawn_if : (c : Bool) → MatchBool c (NotifiesOne a b) (b ≡ a) → Keeps listed_by me a b
  drawn_if true s = line_stays me a b s.1
  drawn_if false s = line_stays me a b (ap (λ x. x.line) s)

  gives_up_of : (o : Option ℕ) → GivesUpOf o a k me b → Keeps listed_by me a b
  gives_up_of (Some t) s = of_line me a b (leaves_keeps a.line b.line (Some k) me s.0)
  gives_up_of None s = drawn_if (was_alone a k) s

-- A future leaves the line, and gives its notice on or has none.
pub leaves_giving : (a b : Notify) (l : Line) (k me : ℕ) (c : Bool) → c ≡ had_notice a k → c ≡ true → Leaves a.line (Some k) me l → NotifiesOne (record { pending = a.pending; line = l; cleared = a.cleared }) b → LeavesLine a k me b
leaves_giving a b l k me c is had leaves gives = (
  subst (λ x. Leaves a.line (Some k) me x) (sym gives.1) leaves,
  gives.2,
  subst (λ d. MatchBool d (OneMore a.pending b.line.waiters.items b.pending) (b.pending ≡ a.pending)) (sym had ∙ is) (subst (λ (x : Line). OneMore a.pending x.waiters.items b.pending) (sym gives.1) gives.0),
)

pub leaves_quiet : (a : Notify) (l : Line) (k me : ℕ) (c : Bool) → c ≡ had_notice a k → c ≡ false → Leaves a.line (Some k) me l → LeavesLine a k me (record { pending = a.pending; line = l; cleared = a.cleared })
leaves_quiet a l k me c is none leaves = (leaves, refl, subst (λ d. MatchBool d (OneMore a.pending l.waiters.items a.pending) (a.pending ≡ a.pending)) (sym none ∙ is) refl)

module _ {C : Type 0} (part : C → Notify) (number : C → ℕ) (work : C → Tasks ⊤) where
  -- The answer of a poll is one that the future gives.
  pub polls_give : (ticket : Option ℕ) (c : C) (r : Poll (Result ⊤ AllocError)) (left : Option ℕ) (d : C) → NotifiedPolls part number work ticket c r left d → IfReady r (NotifiedGives part number work)
  polls_give ticket c (Ready (Ok done)) left d polled = record { ticket = ticket; at = c; after = d; polled = polled }
  polls_give ticket c (Ready (Err e)) left d polled = record { ticket = ticket; at = c; after = d; polled = polled }
  polls_give ticket c Pending left d polled = tt

module _ {C : Type 0} (table : C → Table Notify) (number : C → ℕ) (work : C → Tasks ⊤) (key : ℕ) where
  -- The same for a notice under a key.
  pub polls_at_give : (ticket : Option ℕ) (c : C) (r : Poll (Result ⊤ NotifiedAtError)) (left : Option ℕ) (d : C) → NotifiedAtPolls table number work key ticket c r left d → IfReady r (NotifiedAtGives table number work key)
  polls_at_give ticket c (Ready (Ok done)) left d polled = record { ticket = ticket; at = c; after = d; polled = polled }
  polls_at_give ticket c (Ready (Err Missing)) left d polled = record { ticket = ticket; at = c; after = d; polled = polled }
  polls_at_give ticket c (Ready (Err Memory)) left d polled = record { ticket = ticket; at = c; after = d; polled = polled }
  polls_at_give ticket c Pending left d polled = tt

pub gives_up_keeps : (a b : Notify) (ticket : Option ℕ) (me : ℕ) → GivesUp a ticket me b → Keeps listed_by me a b
gives_up_keeps a b None me s = line_stays me a b (ap (λ x. x.line) s)
gives_up_keeps a b (Some k) me s = gives_up_of a b k me (holder_of a.line.waiters.items k) s

nothing_due : (low n : ℕ) (ws : List Waiter) → starts_below low ws ≡ false → (n ≡ 0) ⊎ (ws ≡ []) → on_notice low n ws ≡ []
nothing_due low n [] is none = refl
nothing_due low zero (w ∷ ws) is none = ap (λ c. cond c (w.task ∷ on_notice low zero ws) []) is
nothing_due low (suc n) (w ∷ ws) is none = absurd (some_left none)
  where
    some_left : (suc n ≡ 0) ⊎ (w ∷ ws ≡ []) → ⊥
    some_left (inl e) = omega (arith, e)
    some_left (inr e) = cc

pub cleared_due : (low n : ℕ) (w : Waiter) (ws : List Waiter) → nat_lt w.ticket low ≡ true → on_notice low n (w ∷ ws) ≡ w.task ∷ on_notice low n ws
cleared_due low zero w ws is = ap (λ c. cond c (w.task ∷ on_notice low zero ws) []) is
cleared_due low (suc n) w ws is = ap (λ c. w.task ∷ on_notice low (cond (c || w.has_left) (suc n) n) ws) is

one_due : (low n : ℕ) (w : Waiter) (ws : List Waiter) → nat_lt w.ticket low ≡ false → 0 < n → on_notice low n (w ∷ ws) ≡ w.task ∷ on_notice low (cond w.has_left n (n - 1)) ws
one_due low zero w ws is some = absurd (omega (arith, some))
one_due low (suc n) w ws is some = ap (λ c. w.task ∷ on_notice low (cond (c || w.has_left) (suc n) n) ws) is ∙ ap (λ m. w.task ∷ on_notice low (cond w.has_left (suc n) m) ws) (before n)
  where
    before : (m : ℕ) → m ≡ suc m - 1
    before m = omega arith

module _ (a b : Notify) where
  none_if : (c : Bool) → starts_below a.cleared.next a.line.waiters.items ≡ c → MatchBool c (Pops a.line None b.line × (b.pending ≡ a.pending)) (PaysOne a None b) → owed_by a ≡ []
  none_if true is s = ap (on_notice a.cleared.next a.pending) s.0.0
  none_if false is s = nothing_due a.cleared.next a.pending a.line.waiters.items is s.0

  line_if : (c : Bool) → MatchBool c (Pops a.line None b.line × (b.pending ≡ a.pending)) (PaysOne a None b) → b.line ≡ a.line
  line_if true s = s.0.1
  line_if false s = s.1

  pending_if : (c : Bool) → MatchBool c (Pops a.line None b.line × (b.pending ≡ a.pending)) (PaysOne a None b) → b.pending ≡ a.pending
  pending_if true s = s.1
  pending_if false s = s.2

  pub none_hands : Pays a None b → Hands listed_by owed_by a None b
  none_hands s =
      let c = starts_below a.cleared.next a.line.waiters.items in
      (none_if c refl s.0, λ i. record { pending = pending_if c s.0 i; line = line_if c s.0 i; cleared = s.1 i })

  module _ (w : Waiter) where
    first_if : (c : Bool) → starts_below a.cleared.next a.line.waiters.items ≡ c → MatchBool c (Pops a.line (Some w) b.line × (b.pending ≡ a.pending)) (PaysOne a (Some w) b) → owed_by a ≡ w.task ∷ on_notice a.cleared.next b.pending b.line.waiters.items
    first_if true is s =
        ap (on_notice a.cleared.next a.pending) s.0.0 ∙ cleared_due a.cleared.next a.pending w b.line.waiters.items (sym (ap (starts_below a.cleared.next) s.0.0) ∙ is) ∙ ap (λ n. w.task ∷ on_notice a.cleared.next n b.line.waiters.items) (sym s.1)
    first_if false is s =
        ap (on_notice a.cleared.next a.pending) s.1.0 ∙ one_due a.cleared.next a.pending w b.line.waiters.items (sym (ap (starts_below a.cleared.next) s.1.0) ∙ is) s.0 ∙ ap (λ n. w.task ∷ on_notice a.cleared.next n b.line.waiters.items) (sym s.2)

    out_if : (c : Bool) → MatchBool c (Pops a.line (Some w) b.line × (b.pending ≡ a.pending)) (PaysOne a (Some w) b) → LineKept w.task a.line b.line
    out_if true s = kept_tail w a.line.waiters.items b.line.waiters.items s.0.0
    out_if false s = kept_tail w a.line.waiters.items b.line.waiters.items s.1.0

    pub first_hands : Pays a (Some w) b → Hands listed_by owed_by a (Some w.task) b
    first_hands s =
        let c = starts_below a.cleared.next a.line.waiters.items in
        (first_if c refl s.0 ∙ ap (λ (m : Cleared). w.task ∷ on_notice m.next b.pending b.line.waiters.items) (sym s.1), of_line w.task a b (out_if c s.0))

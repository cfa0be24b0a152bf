-- A future that has a notice to one keeps it, and passes it on if it is given up.
use Rattle.std.proofs.Common.{◌≡◌, ◌==◌, ◌<◌, ◌≤◌, ◌+◌, ◌-◌, ◌||◌, ◌&&◌, ℕ, zero, suc, Bool, true, false, cond, MatchBool, List, [], ◌∷◌, length, Option, Some, None, refl, sym, ap, subst, ◌∙◌, nat_lt, nat_le, inl, inr, arith}
use Rattle.std.proofs.lemmas.Bool.{cases_lt, lt-ltb, le-ltb, ltb-true, le-leb, leb-false, cond-true, cond-false}
use Rattle.mono_sync.specs.declared.lines.Waiter.{Waiter}
use Rattle.mono_sync.specs.declared.lines.Line.{Line}
use Rattle.mono_sync.specs.declared.notices.Notify.{Notify}
use Rattle.mono_sync.specs.declared.notices.Cleared.{Cleared}
use Rattle.mono_sync.specs.Lines.{tasks_of, holder_of, Pops, starts_below}
use Rattle.mono_sync.specs.Notices.{on_notice, alone_to, is_shared, had_notice, was_alone, has_notice, OneMore, NotifiesOne, NotifiesAll, LeavesLine, GivesUpOf, PaysOne}
use Rattle.mono_sync.specs.Laws.{Rises}
use Rattle.mono_sync.specs.LineLaws.{IsNotified, PassesItsNoticeOn, NoticeReachesAll, WokenHasNotice}
use Rattle.mono_sync.proofs.LineLemmas.{rises_low}
use Rattle.mono_sync.proofs.WaitLemmas.{false-true, same}
use Rattle.mono_sync.proofs.NoticeLemmas.{cleared_due}

none-some : (t : ℕ) → ◌≡◌ {A = Option ℕ} None (Some t) → ⊥
none-some t e = cc

-- the first task is owed one of some notices
owes_first : (low n : ℕ) (w : Waiter) (ws xs : List Waiter) → xs ≡ w ∷ ws → 0 < n → (us : List ℕ) × (on_notice low n xs ≡ w.task ∷ us)
owes_first low zero w ws xs is some = absurd (omega (arith, some))
owes_first low (suc n) w ws xs is some = (on_notice low (cond (nat_lt w.ticket low || w.has_left) (suc n) n) ws, ap (on_notice low (suc n)) is)

more_if : (n l m : ℕ) (c : Bool) → nat_le n l ≡ c → 0 < l → MatchBool c (m ≡ n + 1) (m ≡ n) → 0 < m
more_if n l m true is some s = omega (arith, s)
more_if n l m false is some s = omega (arith, s, some, leb-false n l is)

some_length : (w : Waiter) (ws xs : List Waiter) → xs ≡ w ∷ ws → 0 < length xs
some_length w ws xs is = subst (λ n. 0 < n) (sym (ap length is)) (positive (length ws))
  where
    positive : (n : ℕ) → 0 < suc n
    positive n = omega arith

-- a future that waits has a ticket from the first on
held_if : (c : Bool) (low k t : ℕ) (w : Waiter) (o : Option ℕ) → (w.ticket == k) ≡ c → low ≤ w.ticket → (o ≡ Some t → w.ticket + 1 ≤ k) → cond c (Some w.task) o ≡ Some t → low ≤ k
held_if true low k t w o is above rest e = subst (λ n. low ≤ n) (same w.ticket k is) above
held_if false low k t w o is above rest e = omega (arith, above, rest e)

held_from : (low next k t : ℕ) (ws : List Waiter) → Rises low ws next → holder_of ws k ≡ Some t → low ≤ k
held_from low next k t [] rises is = absurd (none-some t is)
held_from low next k t (w ∷ ws) (above, below, rest) is = held_if (w.ticket == k) low k t w (holder_of ws k) refl above (λ e. held_from (w.ticket + 1) next k t ws rest e) is

-- a ticket before the first that gets none was drawn, and waits only if some notice is there
module _ (lo next : ℕ) where
  to_next : (low n : ℕ) (ws : List Waiter) → Rises low ws next → alone_to lo next n ws ≤ next
  to_next low n [] rises = omega arith
  to_next low zero (w ∷ ws) (above, below, rest) = omega (arith, below)
  to_next low (suc n) (w ∷ ws) (above, below, rest) = to_next (w.ticket + 1) (cond (nat_lt w.ticket lo || w.has_left) (suc n) n) ws rest

  some_if : (low n k t : ℕ) (ws : List Waiter) → Rises low ws next → holder_of ws k ≡ Some t → k < alone_to lo next n ws → 0 < n
  some_if low n k t [] rises is less = absurd (none-some t is)
  some_if low zero k t (w ∷ ws) (above, below, rest) is less = absurd (omega (arith, less, held_from w.ticket next k t (w ∷ ws) (refl_le w.ticket, below, rest) is))
    where
      refl_le : (m : ℕ) → m ≤ m
      refl_le m = omega arith
  some_if low (suc n) k t (w ∷ ws) rises is less = omega arith

  -- tickets that rise from the one after this on begin past it
  pub begins_past : (k n : ℕ) (ws : List Waiter) → k < next → Rises (k + 1) ws next → k < alone_to lo next n ws
  begins_past k n [] drawn rises = drawn
  begins_past k zero (v ∷ vs) drawn rises = omega (arith, rises.0)
  begins_past k (suc n) (v ∷ vs) drawn rises = begins_past k (cond (nat_lt v.ticket lo || v.has_left) (suc n) n) vs drawn (rises_low (v.ticket + 1) (k + 1) vs next (omega (arith, rises.0)) rises.2)

-- what `has_notice` says before the last notice to all, and since
pub now_if : (a : Notify) (k : ℕ) → a.cleared.next ≤ k → has_notice a k ≡ true → k < alone_to a.cleared.next a.line.next a.pending a.line.waiters.items
now_if a k from has =
    let last = alone_to a.cleared.next a.line.next a.pending a.line.waiters.items in
    ltb-true k last (sym (cond-false (nat_lt k a.cleared.next) (is_shared a k) (nat_lt k last) (le-ltb k a.cleared.next from)) ∙ has)

pub then_if : (a : Notify) (k : ℕ) → k < a.cleared.next → has_notice a k ≡ true → is_shared a k ≡ true
then_if a k less has =
    let last = alone_to a.cleared.next a.line.next a.pending a.line.waiters.items in
    sym (cond-true (nat_lt k a.cleared.next) (is_shared a k) (nat_lt k last) (lt-ltb k a.cleared.next less)) ∙ has

pub from_now : (a : Notify) (k : ℕ) → a.cleared.next ≤ k → k < alone_to a.cleared.next a.line.next a.pending a.line.waiters.items → has_notice a k ≡ true
from_now a k from less =
    let last = alone_to a.cleared.next a.line.next a.pending a.line.waiters.items in
    cond-false (nat_lt k a.cleared.next) (is_shared a k) (nat_lt k last) (le-ltb k a.cleared.next from) ∙ lt-ltb k last less

pub from_then : (a : Notify) (k : ℕ) → k < a.cleared.next → is_shared a k ≡ true → has_notice a k ≡ true
from_then a k less shared =
    let last = alone_to a.cleared.next a.line.next a.pending a.line.waiters.items in
    cond-true (nat_lt k a.cleared.next) (is_shared a k) (nat_lt k last) (lt-ltb k a.cleared.next less) ∙ shared

-- a future that has left the line with a notice was notified alone
was_if : (a : Notify) (k : ℕ) → Rises 0 a.line.waiters.items a.line.next → has_notice a k ≡ true → was_alone a k ≡ true
was_if a k rises has = elim (cases_lt k a.cleared.next) [
  | inl less ↦ cond-true (nat_lt k a.cleared.next) (is_shared a k) (nat_lt k a.line.next) (lt-ltb k a.cleared.next less) ∙ then_if a k less has
  | inr from ↦
      let drawn : k < a.line.next = omega (arith, now_if a k from has, to_next a.cleared.next a.line.next 0 a.pending a.line.waiters.items rises) in
      cond-false (nat_lt k a.cleared.next) (is_shared a k) (nat_lt k a.line.next) (le-ltb k a.cleared.next from) ∙ lt-ltb k a.line.next drawn
]

module _ (a b : Notify) (k me : ℕ) (w : Waiter) (ws : List Waiter) (first : b.line.waiters.items ≡ w ∷ ws) where
  owes : 0 < b.pending → (us : List ℕ) × (on_notice b.cleared.next b.pending b.line.waiters.items ≡ w.task ∷ us)
  owes some = owes_first b.cleared.next b.pending w ws b.line.waiters.items first some

  one_more : OneMore a.pending b.line.waiters.items b.pending → 0 < b.pending
  one_more s = more_if a.pending (length b.line.waiters.items) b.pending (nat_le a.pending (length b.line.waiters.items)) refl (some_length w ws b.line.waiters.items first) s

  left_if : (c : Bool) → c ≡ true → MatchBool c (NotifiesOne a b) (b ≡ a) → 0 < b.pending
  left_if true is s = one_more (subst (λ (l : Line). OneMore a.pending l.waiters.items b.pending) (sym s.1) s.0)
  left_if false is s = absurd (false-true is)

  had_if : (c : Bool) → c ≡ true → MatchBool c (OneMore a.pending b.line.waiters.items b.pending) (b.pending ≡ a.pending) → 0 < b.pending
  had_if true is s = one_more s
  had_if false is s = absurd (false-true is)

  has_if : (c : Bool) → 0 < a.pending → MatchBool c (OneMore a.pending b.line.waiters.items b.pending) (b.pending ≡ a.pending) → 0 < b.pending
  has_if true some s = one_more s
  has_if false some s = omega (arith, some, s)

  waits : (t : ℕ) → holder_of a.line.waiters.items k ≡ Some t → Rises 0 a.line.waiters.items a.line.next → has_notice a k ≡ true → LeavesLine a k me b → 0 < b.pending
  waits t held rises has s = elim (cases_lt k a.cleared.next) [
    | inl less ↦ had_if (had_notice a k) (ap (λ c. c && is_shared a k) (lt-ltb k a.cleared.next less) ∙ then_if a k less has) s.2
    | inr from ↦ has_if (had_notice a k) (some_if a.cleared.next a.line.next 0 a.pending k t a.line.waiters.items rises held (now_if a k from has)) s.2
  ]

  passes : (o : Option ℕ) → holder_of a.line.waiters.items k ≡ o → IsNotified a k → GivesUpOf o a k me b → 0 < b.pending
  passes None is (inl alone) s = left_if (was_alone a k) alone.1 s
  passes None is (inr has) s = left_if (was_alone a k) (was_if a k has.0 has.1) s
  passes (Some t) is (inl alone) s = absurd (none-some t (sym alone.0 ∙ is))
  passes (Some t) is (inr has) s = waits t is has.0 has.1 s

pub notice_passes : PassesItsNoticeOn
notice_passes a b k me w ws has gives first = owes a b k me w ws first (passes a b k me w ws first (holder_of a.line.waiters.items k) refl has gives)

-- a ticket between these bounds is that of a future that was notified alone
bounded : (k before alone next : ℕ) (c : Bool) → before ≤ k → k < alone → k < next → cond (nat_lt k next) (nat_le before k && nat_lt k alone) c ≡ true
bounded k before alone next c from to drawn =
    ap (λ d. cond d (nat_le before k && nat_lt k alone) c) (lt-ltb k next drawn) ∙ ap (λ d. d && nat_lt k alone) (le-leb before k from) ∙ lt-ltb k alone to

-- a notice to all
pub outlives : (a b : Notify) (k : ℕ) → Rises 0 a.line.waiters.items a.line.next → a.cleared.next ≤ k → has_notice a k ≡ true → NotifiesAll a b → has_notice b k ≡ true
outlives a b k rises from has all =
    let last = alone_to a.cleared.next a.line.next a.pending a.line.waiters.items in
    let less : k < last = now_if a k from has in
    let drawn : k < a.line.next = omega (arith, less, to_next a.cleared.next a.line.next 0 a.pending a.line.waiters.items rises) in
    let rest = nat_lt k (alone_to b.cleared.next b.line.next b.pending b.line.waiters.items) in
    ap (λ (m : Cleared). cond (nat_lt k m.next) (nat_le m.before k && nat_lt k m.alone) rest) all.2 ∙ bounded k a.cleared.next last a.line.next rest from less drawn

pub shared_stays : (a b : Notify) (k : ℕ) → b.cleared ≡ a.cleared → is_shared a k ≡ true → is_shared b k ≡ true
shared_stays a b k same_cleared is = ap (λ (m : Cleared). nat_le m.before k && nat_lt k m.alone) same_cleared ∙ is

starts_late : (low : ℕ) (w : Waiter) (ws xs : List Waiter) → xs ≡ w ∷ ws → starts_below low xs ≡ false → low ≤ w.ticket
starts_late low w ws xs is not = elim (cases_lt w.ticket low) [
  | inl less ↦ absurd (false-true (sym not ∙ ap (starts_below low) is ∙ lt-ltb w.ticket low less))
  | inr past ↦ past
]

pays_alone : (a b : Notify) (w : Waiter) (c : Bool) → c ≡ false → MatchBool c (Pops a.line (Some w) b.line × (b.pending ≡ a.pending)) (PaysOne a (Some w) b) → Pops a.line (Some w) b.line
pays_alone a b w true is s = absurd (false-true (sym is))
pays_alone a b w false is s = s.1

pub woken : WokenHasNotice
woken a b w rises starts pays =
    let pops = pays_alone a b w (starts_below a.cleared.next a.line.waiters.items) starts pays.0 in
    let from : b.cleared.next ≤ w.ticket = subst (λ (m : Cleared). m.next ≤ w.ticket) (sym pays.1) (starts_late a.cleared.next w b.line.waiters.items a.line.waiters.items pops.0 starts) in
    let all : Rises 0 (w ∷ b.line.waiters.items) b.line.next = subst (λ n. Rises 0 (w ∷ b.line.waiters.items) n) (sym pops.2) (subst (λ xs. Rises 0 xs a.line.next) pops.0 rises) in
    (from, from_now b w.ticket from (begins_past b.cleared.next b.line.next w.ticket b.pending b.line.waiters.items all.1 all.2))

-- if each ticket was drawn before the notice to all, each task is owed it
all_due : (low next n : ℕ) (ws : List Waiter) → Rises low ws next → on_notice next n ws ≡ tasks_of ws
all_due low next n [] rises = refl
all_due low next n (w ∷ ws) rises = cleared_due next n w ws (lt-ltb w.ticket next rises.1) ∙ ap (λ ts. w.task ∷ ts) (all_due (w.ticket + 1) next n ws rises.2)

pub notice_reaches : NoticeReachesAll
notice_reaches a b rises all =
    ap (λ (m : Cleared). on_notice m.next b.pending b.line.waiters.items) all.2 ∙ ap (λ (l : Line). on_notice a.line.next b.pending l.waiters.items) all.1
    ∙ all_due 0 a.line.next b.pending a.line.waiters.items rises

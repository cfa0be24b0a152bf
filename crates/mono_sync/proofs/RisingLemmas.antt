-- Tickets rise along the line of a notice and of a watched value, so those that came after the last notice owe nothing.
use Rattle.std.proofs.Common.{◌≡◌, ◌==◌, ◌&&◌, ◌||◌, ◌+◌, ◌≤◌, ℕ, zero, suc, Bool, true, false, cond, MatchBool, List, [], ◌∷◌, Option, Some, None, Ok, Err, refl, sym, ap, subst, ◌∙◌, inl, inr, nat_lt, arith}
use Rattle.std.proofs.lemmas.Bool.{cases_lt, lt-ltb}
use Rattle.mono_sync.specs.declared.lines.Waiter.{Waiter}
use Rattle.mono_sync.specs.declared.lines.Line.{Line}
use Rattle.mono_sync.specs.declared.lines.Coming.TheVariants.{Waits, Free, Full}
use Rattle.mono_sync.specs.declared.notices.Notify.{Notify}
use Rattle.mono_sync.specs.declared.notices.Notifying.{Notifying}
use Rattle.mono_sync.specs.declared.notices.Notifying.TheVariants as notifying
use Rattle.mono_sync.specs.declared.watch.Watch.{Watch}
use Rattle.mono_sync.specs.declared.watch.Changing.TheVariants as changing
use Rattle.mono_sync.specs.Lines.{Pops, waits_at, below, tasks_of, holder_of, starts_below}
use Rattle.mono_sync.specs.Notices.{on_notice, NotifiesOne, AwaitsFirst, AwaitsAgain, GivesUpOf, PaysOne, was_alone}
use Rattle.mono_sync.specs.NoticeRuns as notices
use Rattle.mono_sync.specs.WatchRuns as watches
use Rattle.mono_sync.specs.Runs.{Run}
use Rattle.mono_sync.specs.Laws.{Rises}
use Rattle.mono_sync.specs.WaitLaws.{NoNoticeLiesIdle, NoChangeLiesIdle}
use Rattle.mono_sync.proofs.LineLemmas.{Rising, kept_line, rests_rises, joined_rises, popped_rising, comes_rises, leaves_rises, joins_rises, stays_rises}
use Rattle.mono_sync.proofs.WaitLemmas.{false-true, same, and_left, or_split}

some-none : (w : Waiter) → Some w ≡ None → ⊥
some-none w e = cc

cons-nil : (t : ℕ) (ts : List ℕ) → t ∷ ts ≡ [] → ⊥
cons-nil t ts e = cc

at_least : (low next k t : ℕ) (ws : List Waiter) → Rises low ws next → waits_at ws k t ≡ true → low ≤ k
at_least low next k t [] r is = absurd (false-true is)
at_least low next k t (w ∷ ws) (above, below, rest) is = elim (or_split ((w.ticket == k) && (w.task == t)) (waits_at ws k t) is) [
  | inl here ↦ subst (λ n. low ≤ n) (same w.ticket k (and_left (w.ticket == k) (w.task == t) here)) above
  | inr later ↦ omega (arith, above, at_least (w.ticket + 1) next k t ws rest later)
]

not_less : (n m : ℕ) → (nat_lt n m ≡ true → ⊥) → m ≤ n
not_less n m apart = elim (cases_lt n m) [ inl less ↦ absurd (apart (lt-ltb n m less)) | inr past ↦ past ]

-- a line whose first task came late has late tasks alone
late : (low next k t : ℕ) (w : Waiter) (ws : List Waiter) → Rises 0 (w ∷ ws) next → low ≤ w.ticket → waits_at (w ∷ ws) k t ≡ true → low ≤ k
late low next k t w ws (above, below, rest) first is = at_least low next k t (w ∷ ws) (first, below, rest) is

below_late : (low next k t : ℕ) (ws : List Waiter) → Rises 0 ws next → below low ws ≡ [] → waits_at ws k t ≡ true → low ≤ k
below_late low next k t [] r none is = absurd (false-true is)
below_late low next k t (w ∷ ws) r none is = late low next k t w ws r (not_less w.ticket low (λ less. cons-nil w.task (below low ws) (sym (ap (λ c. cond c (w.task ∷ below low ws) []) less) ∙ none))) is

notice_late : (low n next k t : ℕ) (ws : List Waiter) → Rises 0 ws next → on_notice low n ws ≡ [] → waits_at ws k t ≡ true → (n ≡ 0) × (low ≤ k)
notice_late low n next k t [] r none is = absurd (false-true is)
notice_late low zero next k t (w ∷ ws) r none is = (refl, late low next k t w ws r (not_less w.ticket low (λ less. cons-nil w.task (on_notice low zero ws) (sym (ap (λ c. cond c (w.task ∷ on_notice low zero ws) []) less) ∙ none))) is)
notice_late low (suc n) next k t (w ∷ ws) r none is = absurd (cons-nil w.task _ none)

pops_rising : (a b : Line) (first : Option Waiter) → Pops a first b → Rising a → Rising b
pops_rising a b None s r = kept_line a b s.1 r
pops_rising a b (Some w) s r = popped_rising a b w s.0 s.2 r

module _ (a b : Notify) where
  drawn_if : (c : Bool) → MatchBool c (NotifiesOne a b) (b ≡ a) → Rising a.line → Rising b.line
  drawn_if true s r = kept_line a.line b.line s.1 r
  drawn_if false s r = kept_line a.line b.line (ap (λ x. x.line) s) r

  gives_up_of : (k me : ℕ) (o : Option ℕ) → GivesUpOf o a k me b → Rising a.line → Rising b.line
  gives_up_of k me (Some t) s r = leaves_rises a.line b.line (Some k) me s.0 r
  gives_up_of k me None s r = drawn_if (was_alone a k) s r

  pays_one : (first : Option Waiter) → PaysOne a first b → Rising a.line → Rising b.line
  pays_one None s r = kept_line a.line b.line s.1 r
  pays_one (Some w) s r = pops_rising a.line b.line (Some w) s.1 r

  pays_if : (first : Option Waiter) (c : Bool) → MatchBool c (Pops a.line first b.line × (b.pending ≡ a.pending)) (PaysOne a first b) → Rising a.line → Rising b.line
  pays_if first true s r = pops_rising a.line b.line first s.0 r
  pays_if first false s r = pays_one first s r

again_step : (a b : Notify) (k me : ℕ) (r : Notifying) → AwaitsAgain a k me r b → Rising a.line → Rising b.line
again_step a b k me notifying.Waits s r = comes_rises a.line b.line (Some k) me 1 Waits s.0 r
again_step a b k me notifying.Notified s r = elim s.0 [
  | inl free ↦ comes_rises a.line b.line (Some k) me 1 Free free r
  | inr full ↦ comes_rises a.line b.line (Some k) me 1 Full full.0 r
]
again_step a b k me notifying.Memory s r = stays_rises a.line s.0.0 b.line (Some k) me 1 Full s.0.1.0 s.0.1.2 r
again_step a b k me (notifying.Joined u) s r = joins_rises a.line s.0.0 b.line (Some k) me 1 u Full s.0.1.0 s.0.1.2 r

first_step : (a b : Notify) (me : ℕ) (r : Notifying) → AwaitsFirst a me r b → Rising a.line → Rising b.line
first_step a b me notifying.Waits s r = absurd s
first_step a b me notifying.Notified s r = kept_line a.line b.line s.3 r
first_step a b me notifying.Memory s r = rests_rises a.line b.line s.1 r
first_step a b me (notifying.Joined u) s r = joined_rises a.line b.line me u s.1 r

asked_if : (a b : Notify) (k me : ℕ) (x : Notifying) (c : Bool) → MatchBool c (AwaitsAgain a k me x b) (AwaitsFirst a me x b) → Rising a.line → Rising b.line
asked_if a b k me x true s r = again_step a b k me x s r
asked_if a b k me x false s r = first_step a b me x s r

pub notice_step : (e : notices.Event) (a b : Notify) → Rising a.line → notices.Step a e b → Rising b.line
notice_step notices.one a b r s = kept_line a.line b.line s.1 r
notice_step notices.all a b r s = kept_line a.line b.line s.1 r
notice_step (notices.asked (Some k) me x) a b r s = asked_if a b k me x (nat_lt k a.line.next) s r
notice_step (notices.asked None me x) a b r s = first_step a b me x s r
notice_step (notices.gave_up None me) a b r s = kept_line a.line b.line (ap (λ x. x.line) s) r
notice_step (notices.gave_up (Some k) me) a b r s = gives_up_of a b k me (holder_of a.line.waiters.items k) s r
notice_step (notices.served first) a b r s = pays_if a b first (starts_below a.cleared.next a.line.waiters.items) s.0 r

notice_run : (es : List notices.Event) (a b : Notify) → Rising a.line → Run notices.Step a es b → Rising b.line
notice_run [] a b r run = kept_line a.line b.line (ap (λ x. x.line) run) r
notice_run (e ∷ es) a b r (m, step, rest) = notice_run es m b (notice_step e a m r step) rest

pub no_notice : NoNoticeLiesIdle
no_notice es a b k t r run none listed = notice_late b.cleared.next b.pending b.line.next k t b.line.waiters.items (notice_run es a b r run) none listed

takes_rising : (low : ℕ) (a b : Line) (first : Option Waiter) (c : Bool) → MatchBool c (Pops a first b) ((first ≡ None) × (b ≡ a)) → Rising a → Rising b
takes_rising low a b first true s r = pops_rising a b first s r
takes_rising low a b first false s r = kept_line a b s.1 r

closed_owes : (k t : ℕ) (ws : List Waiter) → waits_at ws k t ≡ true → tasks_of ws ≡ [] → ⊥
closed_owes k t [] waits none = false-true waits
closed_owes k t (w ∷ ws) waits none = cons-nil w.task _ none

change_late : (c : Bool) (low next k t : ℕ) (ws : List Waiter) → Rises 0 ws next → cond c (tasks_of ws) (below low ws) ≡ [] → waits_at ws k t ≡ true → (c ≡ false) × (low ≤ k)
change_late true low next k t ws r none is = absurd (closed_owes k t ws is none)
change_late false low next k t ws r none is = (refl, below_late low next k t ws r none is)

module _ {T : Type 0} where
  watch_step : (e : watches.Event T) (a b : Watch T) → Rising a.line → watches.Step a e b → Rising b.line
  watch_step (watches.sent x (Ok old)) a b r s = kept_line a.line b.line s.4 r
  watch_step (watches.sent x (Err y)) a b r s = kept_line a.line b.line (ap (λ v. v.line) s.2) r
  watch_step (watches.edited x) a b r s = kept_line a.line b.line s.2 r
  watch_step (watches.asked seen ticket me (changing.Changed v)) a b r s = leaves_rises a.line b.line ticket me s.2 r
  watch_step (watches.asked seen ticket me changing.Closed) a b r s = leaves_rises a.line b.line ticket me s.2 r
  watch_step (watches.asked seen ticket me changing.Waits) a b r s = comes_rises a.line b.line ticket me 0 Waits s.2 r
  watch_step (watches.asked seen ticket me (changing.Joined t)) a b r s = joins_rises a.line s.2.0 b.line ticket me 0 t Full s.2.1.0 s.2.1.1 r
  watch_step (watches.asked seen ticket me changing.Memory) a b r s = stays_rises a.line s.2.0 b.line ticket me 0 Full s.2.1.0 s.2.1.1 r
  watch_step (watches.gave_up ticket me) a b r s = leaves_rises a.line b.line ticket me s.0 r
  watch_step watches.closed a b r s = kept_line a.line b.line s.2 r
  watch_step (watches.served first) a b r s = takes_rising a.cleared a.line b.line first (a.is_closed || starts_below a.cleared a.line.waiters.items) s.0 r

  watch_run : (es : List (watches.Event T)) (a b : Watch T) → Rising a.line → Run watches.Step a es b → Rising b.line
  watch_run [] a b r run = kept_line a.line b.line (ap (λ x. x.line) run) r
  watch_run (e ∷ es) a b r (m, step, rest) = watch_run es m b (watch_step e a m r step) rest

pub no_change : (T : Type 0) → NoChangeLiesIdle T
no_change T es a b k t r run none listed = change_late b.is_closed b.cleared b.line.next k t b.line.waiters.items (watch_run es a b r run) none listed

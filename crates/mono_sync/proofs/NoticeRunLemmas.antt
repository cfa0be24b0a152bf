-- Whatever is called, a future that has a notice to one keeps it, if at most one notice to all came since its first poll.
use Rattle.std.proofs.Common.{◌≡◌, ◌==◌, ◌<◌, ◌≤◌, ◌+◌, ◌-◌, ◌||◌, ◌&&◌, ℕ, zero, suc, Bool, true, false, not, cond, MatchBool, List, [], ◌∷◌, ◌++◌, length, Option, Some, None, Ok, refl, sym, ap, subst, ◌∙◌, nat_lt, nat_le, inl, inr, arith}
use Rattle.std.proofs.lemmas.Bool.{cases_lt}
use Rattle.mono_sync.specs.declared.lines.Waiter.{Waiter}
use Rattle.mono_sync.specs.declared.lines.Line.{Line}
use Rattle.mono_sync.specs.declared.lines.Coming.{Coming}
use Rattle.mono_sync.specs.declared.lines.Coming.TheVariants.{Waits, Free, Full}
use Rattle.mono_sync.specs.declared.notices.Notify.{Notify}
use Rattle.mono_sync.specs.declared.notices.Cleared.{Cleared}
use Rattle.mono_sync.specs.declared.notices.Notifying.{Notifying}
use Rattle.mono_sync.specs.declared.notices.Notifying.TheVariants as notifying
use Rattle.mono_sync.specs.Lines.{without, marked, holder_of, Fits, Collects, HasRoom, Marks, Comes, ComesOf, Leaves, LeavesOf, Joins, Pops, starts_below}
use Rattle.mono_sync.specs.Notices.{Kept, alone_to, had_notice, was_alone, has_notice, OneMore, NotifiesOne, NotifiesAll, AwaitsFirst, AwaitsAgain, GivesUpOf, PaysOne}
use Rattle.mono_sync.specs.NoticeRuns as notices
use Rattle.mono_sync.specs.Runs.{Run}
use Rattle.mono_sync.specs.Laws.{Rises}
use Rattle.mono_sync.specs.LineLaws.{IsOrdered, NoticeOutlivesNoticeToAll}
use Rattle.mono_sync.proofs.LineLemmas.{Rising, rises_without}
use Rattle.mono_sync.proofs.RisingLemmas.{notice_step}
use Rattle.mono_sync.proofs.WaitLemmas.{same}
use Rattle.mono_sync.proofs.PassedNoticeLemmas.{begins_past, now_if, then_if, from_now, from_then, shared_stays, outlives}

le_itself : (n : ℕ) → n ≤ n
le_itself n = omega arith

module _ (lo next : ℕ) where
  -- one notice more reaches at least as far
  further_if : (n : ℕ) (ws : List Waiter) (c : Bool) → alone_to lo next (suc n) ws ≤ alone_to lo next (suc (suc n)) ws → alone_to lo next n ws ≤ alone_to lo next (suc n) ws
      → alone_to lo next (cond c (suc n) n) ws ≤ alone_to lo next (cond c (suc (suc n)) (suc n)) ws
  further_if n ws true p q = p
  further_if n ws false p q = q

  further : (low n : ℕ) (ws : List Waiter) → Rises low ws next → alone_to lo next n ws ≤ alone_to lo next (suc n) ws
  further low n [] rises = le_itself next
  further low zero (w ∷ ws) (above, below, rest) = omega (arith, begins_past lo next w.ticket (cond (nat_lt w.ticket lo || w.has_left) (suc zero) zero) ws below rest)
  further low (suc n) (w ∷ ws) (above, below, rest) = further_if n ws (nat_lt w.ticket lo || w.has_left) (further (w.ticket + 1) (suc n) ws rest) (further (w.ticket + 1) n ws rest)

  reach : (low n : ℕ) (ws : List Waiter) (c : Bool) → Rises low ws next → alone_to lo next (cond c (suc n) n) ws ≤ alone_to lo next (suc n) ws
  reach low n ws true rises = le_itself (alone_to lo next (suc n) ws)
  reach low n ws false rises = further low n ws rises

  -- a task that is marked as one that left takes no notice
  or_true : (c : Bool) (n : ℕ) → suc n ≡ cond (c || true) (suc n) n
  or_true true n = refl
  or_true false n = refl

  marked_if : (c : Bool) (n j u : ℕ) (w : Waiter) (ws : List Waiter) → (w.ticket == j) ≡ c → Rises (w.ticket + 1) ws next → ((m : ℕ) → alone_to lo next m ws ≤ alone_to lo next m (marked ws j u))
      → alone_to lo next n (w ∷ ws) ≤ alone_to lo next n (cond c (record { ticket = j; task = u; has_left = true } ∷ ws) (w ∷ marked ws j u))
  marked_if true zero j u w ws is rest far = subst (λ m. w.ticket ≤ m) (same w.ticket j is) (le_itself w.ticket)
  marked_if true (suc n) j u w ws is rest far =
      subst (λ m. alone_to lo next (cond (nat_lt w.ticket lo || w.has_left) (suc n) n) ws ≤ alone_to lo next m ws) (or_true (nat_lt j lo) n) (reach (w.ticket + 1) n ws (nat_lt w.ticket lo || w.has_left) rest)
  marked_if false zero j u w ws is rest far = le_itself w.ticket
  marked_if false (suc n) j u w ws is rest far = far (cond (nat_lt w.ticket lo || w.has_left) (suc n) n)

  marked_reach : (low j u : ℕ) (ws : List Waiter) → Rises low ws next → (n : ℕ) → alone_to lo next n ws ≤ alone_to lo next n (marked ws j u)
  marked_reach low j u [] rises n = le_itself next
  marked_reach low j u (w ∷ ws) (above, below, rest) n = marked_if (w.ticket == j) n j u w ws refl rest (marked_reach (w.ticket + 1) j u ws rest)

  -- a task that is taken out takes no notice
  without_if : (c : Bool) (n : ℕ) (w : Waiter) (ws us : List Waiter) → w.ticket < next → Rises (w.ticket + 1) ws next → Rises (w.ticket + 1) us next → ((m : ℕ) → alone_to lo next m ws ≤ alone_to lo next m us)
      → alone_to lo next n (w ∷ ws) ≤ alone_to lo next n (cond c (w ∷ us) us)
  without_if true zero w ws us below rest more far = le_itself w.ticket
  without_if true (suc n) w ws us below rest more far = far (cond (nat_lt w.ticket lo || w.has_left) (suc n) n)
  without_if false zero w ws us below rest more far = omega (arith, begins_past lo next w.ticket zero us below more)
  without_if false (suc n) w ws us below rest more far = omega (arith, reach (w.ticket + 1) n ws (nat_lt w.ticket lo || w.has_left) rest, far (suc n))

  without_reach : (low j u : ℕ) (ws : List Waiter) → Rises low ws next → (n : ℕ) → alone_to lo next n ws ≤ alone_to lo next n (without ws j u)
  without_reach low j u [] rises n = le_itself next
  without_reach low j u (w ∷ ws) (above, below, rest) n =
      without_if (not ((w.ticket == j) && (w.task == u))) n w ws (without ws j u) below rest (rises_without (w.ticket + 1) ws next j u rest) (without_reach (w.ticket + 1) j u ws rest)

  -- a task that comes is the last
  joined_reach : (x : Waiter) → x.ticket ≡ next → (ws : List Waiter) (n : ℕ) → alone_to lo next n ws ≤ alone_to lo (next + 1) n (ws ++ x ∷ [])
  joined_reach x is [] zero = omega (arith, is)
  joined_reach x is [] (suc n) = omega arith
  joined_reach x is (w ∷ ws) zero = le_itself w.ticket
  joined_reach x is (w ∷ ws) (suc n) = joined_reach x is ws (cond (nat_lt w.ticket lo || w.has_left) (suc n) n)

-- the same notices reach at least as far in the second line
abbrev Reaches : ℕ → Line → Line → Type 0
Reaches lo a b = (a.next ≤ b.next) × ((n : ℕ) → alone_to lo a.next n a.waiters.items ≤ alone_to lo b.next n b.waiters.items)

module _ (lo : ℕ) where
  moved : (a b : Line) (zs : List Waiter) (m : ℕ) → b.waiters.items ≡ zs → b.next ≡ m → a.next ≤ m → ((n : ℕ) → alone_to lo a.next n a.waiters.items ≤ alone_to lo m n zs) → Reaches lo a b
  moved a b zs m items next more far = (
    subst (λ i. a.next ≤ i) (sym next) more,
    λ n. subst (λ xs. alone_to lo a.next n a.waiters.items ≤ alone_to lo b.next n xs) (sym items) (subst (λ i. alone_to lo a.next n a.waiters.items ≤ alone_to lo i n zs) (sym next) (far n)),
  )

  rests : (a b : Line) → b.waiters.items ≡ a.waiters.items → b.next ≡ a.next → Reaches lo a b
  rests a b items next = moved a b a.waiters.items a.next items next (le_itself a.next) (λ n. le_itself (alone_to lo a.next n a.waiters.items))

  stays : (a b : Line) → b ≡ a → Reaches lo a b
  stays a b is = rests a b (ap (λ l. l.waiters.items) is) (ap (λ l. l.next) is)

  on : (a b c : Line) → Reaches lo a b → Reaches lo b c → Reaches lo a c
  on a b c p q = (omega (arith, p.0, q.0), λ n. omega (arith, p.1 n, q.1 n))

  marks : (a b : Line) (j u : ℕ) → Marks a j u b → Rising a → Reaches lo a b
  marks a b j u s rises = moved a b (marked a.waiters.items j u) a.next s.0 s.2 (le_itself a.next) (marked_reach lo a.next 0 j u a.waiters.items rises)

  joins : (a b : Line) (me t : ℕ) → Joins a me (Ok t) b → Reaches lo a b
  joins a b me t s =
      moved a b (a.waiters.items ++ record { ticket = a.next; task = me; has_left = false } ∷ []) (a.next + 1) s.1 s.3 (omega arith) (joined_reach lo a.next (record { ticket = a.next; task = me; has_left = false }) refl a.waiters.items)

  module _ (a b : Line) (j me : ℕ) (rises : Rising a) where
    comes_if : (room : ℕ) (r : Coming) (u : ℕ) (c : Bool) → MatchBool c ((r ≡ Waits) × (b ≡ a)) (HasRoom b room r × Marks a j u b) → Reaches lo a b
    comes_if room r u true p = stays a b p.1
    comes_if room r u false p = marks a b j u p.1 rises

    comes_gone : (room : ℕ) (r : Coming) (c : Bool) → MatchBool c (Fits b.granted room r × Collects a b) (HasRoom b room r × (b ≡ a)) → Reaches lo a b
    comes_gone room r true p = rests a b p.1.0 p.1.2
    comes_gone room r false p = stays a b p.1

    comes_of : (room : ℕ) (r : Coming) (o : Option ℕ) → ComesOf o a j me room r b → Reaches lo a b
    comes_of room r None p = comes_gone room r (nat_lt j a.next) p
    comes_of room r (Some u) p = comes_if room r u (u == me) p

    comes : (room : ℕ) (r : Coming) → Comes a (Some j) me room r b → Reaches lo a b
    comes room r p = comes_of room r (holder_of a.waiters.items j) p

    leaves_if : (u : ℕ) (c : Bool) → MatchBool c ((b.waiters.items ≡ without a.waiters.items j me) × (b.granted ≡ a.granted) × (b.next ≡ a.next)) (Marks a j u b) → Reaches lo a b
    leaves_if u true p = moved a b (without a.waiters.items j me) a.next p.0 p.2 (le_itself a.next) (without_reach lo a.next 0 j me a.waiters.items rises)
    leaves_if u false p = marks a b j u p rises

    leaves_gone : (c : Bool) → MatchBool c (Collects a b) (b ≡ a) → Reaches lo a b
    leaves_gone true p = rests a b p.0 p.2
    leaves_gone false p = stays a b p

    leaves_of : (o : Option ℕ) → LeavesOf o a j me b → Reaches lo a b
    leaves_of None p = leaves_gone (nat_lt j a.next) p
    leaves_of (Some u) p = leaves_if u (u == me) p

    leaves : Leaves a (Some j) me b → Reaches lo a b
    leaves p = leaves_of (holder_of a.waiters.items j) p

-- a call that is no notice to all: the notices reach at least as far
abbrev Lasts : Notify → Notify → Type 0
Lasts a b = (b.cleared ≡ a.cleared) × (a.line.next ≤ b.line.next) × (alone_to a.cleared.next a.line.next a.pending a.line.waiters.items ≤ alone_to a.cleared.next b.line.next b.pending b.line.waiters.items)

module _ (a b : Notify) where
  lasts : b.cleared ≡ a.cleared → b.pending ≡ a.pending → Reaches a.cleared.next a.line b.line → Lasts a b
  lasts cleared pending far =
      (cleared, far.0, subst (λ n. alone_to a.cleared.next a.line.next a.pending a.line.waiters.items ≤ alone_to a.cleared.next b.line.next n b.line.waiters.items) (sym pending) (far.1 a.pending))

  kept : Kept a b → Reaches a.cleared.next a.line b.line → Lasts a b
  kept k far = lasts k.1 k.0 far

  same_lasts : b ≡ a → Lasts a b
  same_lasts is = lasts (ap (λ x. x.cleared) is) (ap (λ x. x.pending) is) (stays a.cleared.next a.line b.line (ap (λ x. x.line) is))

  more_if : (c : Bool) → MatchBool c (b.pending ≡ a.pending + 1) (b.pending ≡ a.pending) → Rising b.line → alone_to a.cleared.next b.line.next a.pending b.line.waiters.items ≤ alone_to a.cleared.next b.line.next b.pending b.line.waiters.items
  more_if true p rises = subst (λ n. alone_to a.cleared.next b.line.next a.pending b.line.waiters.items ≤ alone_to a.cleared.next b.line.next n b.line.waiters.items) (next_of a.pending ∙ sym p) (further a.cleared.next b.line.next 0 a.pending b.line.waiters.items rises)
    where
      next_of : (n : ℕ) → suc n ≡ n + 1
      next_of n = omega arith
  more_if false p rises = subst (λ n. alone_to a.cleared.next b.line.next a.pending b.line.waiters.items ≤ alone_to a.cleared.next b.line.next n b.line.waiters.items) (sym p) (le_itself (alone_to a.cleared.next b.line.next a.pending b.line.waiters.items))

  gives : b.cleared ≡ a.cleared → Reaches a.cleared.next a.line b.line → OneMore a.pending b.line.waiters.items b.pending → Rising b.line → Lasts a b
  gives cleared far more rises = (cleared, far.0, omega (arith, far.1 a.pending, more_if (nat_le a.pending (length b.line.waiters.items)) more rises))

  one_lasts : NotifiesOne a b → Rising b.line → Lasts a b
  one_lasts s rises = gives s.2 (stays a.cleared.next a.line b.line s.1) (subst (λ (l : Line). OneMore a.pending l.waiters.items b.pending) (sym s.1) s.0) rises

  again_lasts : (k me : ℕ) (r : Notifying) → Rising a.line → AwaitsAgain a k me r b → Lasts a b
  again_lasts k me notifying.Waits rises s = kept s.1 (comes a.cleared.next a.line b.line k me rises 1 Waits s.0)
  again_lasts k me notifying.Notified rises s = elim s.0 [
    | inl free ↦ kept s.1 (comes a.cleared.next a.line b.line k me rises 1 Free free)
    | inr full ↦ kept s.1 (comes a.cleared.next a.line b.line k me rises 1 Full full.0)
  ]
  again_lasts k me notifying.Memory rises s =
      kept s.1 (on a.cleared.next a.line s.0.0 b.line (comes a.cleared.next a.line s.0.0 k me rises 1 Full s.0.1.0) (rests a.cleared.next s.0.0 b.line s.0.1.2.0 s.0.1.2.2))
  again_lasts k me (notifying.Joined u) rises s =
      kept s.1 (on a.cleared.next a.line s.0.0 b.line (comes a.cleared.next a.line s.0.0 k me rises 1 Full s.0.1.0) (joins a.cleared.next s.0.0 b.line me u s.0.1.2))

  no_length : (l n : ℕ) → l + n ≡ 0 → n ≡ 0
  no_length l n is = omega (arith, is)

  empty : (lo next n m : ℕ) (ws : List Waiter) → length ws ≡ 0 → alone_to lo next n ws ≤ alone_to lo next m ws
  empty lo next n m [] is = le_itself next
  empty lo next n m (w ∷ ws) is = absurd (omega (arith, is))

  first_lasts : (me : ℕ) (r : Notifying) → AwaitsFirst a me r b → Lasts a b
  first_lasts me notifying.Waits s = absurd s
  first_lasts me notifying.Notified s =
      let far = stays a.cleared.next a.line b.line s.3 in
      (s.4, far.0, omega (arith, far.1 a.pending, empty a.cleared.next b.line.next a.pending b.pending b.line.waiters.items (ap (λ (l : Line). length l.waiters.items) s.3 ∙ no_length a.line.granted (length a.line.waiters.items) s.1)))
  first_lasts me notifying.Memory s = kept s.2 (rests a.cleared.next a.line b.line s.1.0 s.1.2)
  first_lasts me (notifying.Joined u) s = kept s.2 (joins a.cleared.next a.line b.line me u s.1)

  asked_if : (k me : ℕ) (r : Notifying) (c : Bool) → Rising a.line → MatchBool c (AwaitsAgain a k me r b) (AwaitsFirst a me r b) → Lasts a b
  asked_if k me r true rises s = again_lasts k me r rises s
  asked_if k me r false rises s = first_lasts me r s

  had_if : (k me : ℕ) (c : Bool) → Rising a.line → Rising b.line → Leaves a.line (Some k) me b.line → b.cleared ≡ a.cleared → MatchBool c (OneMore a.pending b.line.waiters.items b.pending) (b.pending ≡ a.pending) → Lasts a b
  had_if k me true rises rising left cleared s = gives cleared (leaves a.cleared.next a.line b.line k me rises left) s rising
  had_if k me false rises rising left cleared s = lasts cleared s (leaves a.cleared.next a.line b.line k me rises left)

  alone_if : (c : Bool) → Rising b.line → MatchBool c (NotifiesOne a b) (b ≡ a) → Lasts a b
  alone_if true rising s = one_lasts s rising
  alone_if false rising s = same_lasts s

  gave_up_of : (k me : ℕ) (o : Option ℕ) → Rising a.line → Rising b.line → GivesUpOf o a k me b → Lasts a b
  gave_up_of k me (Some t) rises rising s = had_if k me (had_notice a k) rises rising s.0 s.1 s.2
  gave_up_of k me None rises rising s = alone_if (was_alone a k) rising s

  -- the first task leaves the line
  popped : (n m : ℕ) (w : Waiter) (ws : List Waiter) → Rises 0 (w ∷ ws) a.line.next → (nat_lt w.ticket a.cleared.next ≡ true → m ≡ n) → (nat_lt w.ticket a.cleared.next ≡ false → (0 < n) × (m ≡ cond w.has_left n (n - 1)))
      → alone_to a.cleared.next a.line.next n (w ∷ ws) ≤ alone_to a.cleared.next a.line.next m ws
  popped zero m w ws rises low high = omega (arith, begins_past a.cleared.next a.line.next w.ticket m ws rises.1 rises.2)
  popped (suc n) m w ws rises low high = popped_if (nat_lt w.ticket a.cleared.next) refl
    where
      before : (i : ℕ) → i ≡ suc i - 1
      before i = omega arith

      popped_if : (c : Bool) → nat_lt w.ticket a.cleared.next ≡ c → alone_to a.cleared.next a.line.next (cond (c || w.has_left) (suc n) n) ws ≤ alone_to a.cleared.next a.line.next m ws
      popped_if true is = subst (λ i. alone_to a.cleared.next a.line.next (suc n) ws ≤ alone_to a.cleared.next a.line.next i ws) (sym (low is)) (le_itself (alone_to a.cleared.next a.line.next (suc n) ws))
      popped_if false is =
          subst (λ i. alone_to a.cleared.next a.line.next (cond w.has_left (suc n) n) ws ≤ alone_to a.cleared.next a.line.next i ws) (ap (cond w.has_left (suc n)) (before n) ∙ sym (high is).1)
          (le_itself (alone_to a.cleared.next a.line.next (cond w.has_left (suc n) n) ws))

  took : (w : Waiter) → Rising a.line → b.cleared ≡ a.cleared → Pops a.line (Some w) b.line → (nat_lt w.ticket a.cleared.next ≡ true → b.pending ≡ a.pending) → (nat_lt w.ticket a.cleared.next ≡ false → (0 < a.pending) × (b.pending ≡ cond w.has_left a.pending (a.pending - 1))) → Lasts a b
  took w rises cleared pops low high = (
    cleared,
    subst (λ i. a.line.next ≤ i) (sym pops.2) (le_itself a.line.next),
    subst (λ i. alone_to a.cleared.next a.line.next a.pending a.line.waiters.items ≤ alone_to a.cleared.next i b.pending b.line.waiters.items) (sym pops.2)
        (subst (λ xs. alone_to a.cleared.next a.line.next a.pending xs ≤ alone_to a.cleared.next a.line.next b.pending b.line.waiters.items) (sym pops.0)
        (popped a.pending b.pending w b.line.waiters.items (subst (λ xs. Rises 0 xs a.line.next) pops.0 rises) low high)),
  )

  pays_if : (first : Option Waiter) (c : Bool) → starts_below a.cleared.next a.line.waiters.items ≡ c → Rising a.line → b.cleared ≡ a.cleared → MatchBool c (Pops a.line first b.line × (b.pending ≡ a.pending)) (PaysOne a first b) → Lasts a b
  pays_if None true is rises cleared s = lasts cleared s.1 (stays a.cleared.next a.line b.line s.0.1)
  pays_if None false is rises cleared s = lasts cleared s.2 (stays a.cleared.next a.line b.line s.1)
  pays_if (Some w) true is rises cleared s = took w rises cleared s.0 (λ less. s.1) (λ past. absurd (both (sym past ∙ sym (ap (starts_below a.cleared.next) s.0.0) ∙ is)))
    where
      both : false ≡ true → ⊥
      both e = cc
  pays_if (Some w) false is rises cleared s = took w rises cleared s.1 (λ less. absurd (both (sym is ∙ ap (starts_below a.cleared.next) s.1.0 ∙ less))) (λ past. (s.0, s.2))
    where
      both : false ≡ true → ⊥
      both e = cc

-- what a call keeps
abbrev Holds : Notify → Notify → Type 0
Holds a b = IsOrdered b × (a.cleared.before ≤ b.cleared.before) × ((k : ℕ) → has_notice a k ≡ true → b.cleared.before ≤ k → has_notice b k ≡ true)

module _ (a b : Notify) (ordered : IsOrdered a) where
  from_lasts : Rising b.line → Lasts a b → Holds a b
  from_lasts rising far =
      let order : (b.cleared.before ≤ b.cleared.next) × (b.cleared.next ≤ b.line.next) = subst (λ (m : Cleared). (m.before ≤ m.next) × (m.next ≤ b.line.next)) (sym far.0) (ordered.0, omega (arith, ordered.1, far.1)) in (
        (order.0, order.1, rising),
        subst (λ (m : Cleared). a.cleared.before ≤ m.before) (sym far.0) (le_itself a.cleared.before),
        λ k has from. elim (cases_lt k a.cleared.next) [
          | inl less ↦ from_then b k (subst (λ (m : Cleared). k < m.next) (sym far.0) less) (shared_stays a b k far.0 (then_if a k less has))
          | inr late ↦
              let less : k < alone_to a.cleared.next b.line.next b.pending b.line.waiters.items = omega (arith, now_if a k late has, far.2) in
              from_now b k (subst (λ (m : Cleared). m.next ≤ k) (sym far.0) late) (subst (λ (m : Cleared). k < alone_to m.next b.line.next b.pending b.line.waiters.items) (sym far.0) less)
        ],
      )

  from_all : NotifiesAll a b → Rising b.line → Holds a b
  from_all s rising =
      let before : b.cleared.before ≡ a.cleared.next = ap (λ (m : Cleared). m.before) s.2 in
      let next : b.cleared.next ≡ a.line.next = ap (λ (m : Cleared). m.next) s.2 in
      let line : b.line.next ≡ a.line.next = ap (λ (l : Line). l.next) s.1 in (
        (omega (arith, before, next, ordered.1), omega (arith, next, line), rising),
        omega (arith, before, ordered.0),
        λ k has from. outlives a b k ordered.2 (omega (arith, before, from)) has s,
      )

step_holds : (e : notices.Event) (a b : Notify) → IsOrdered a → Rising b.line → notices.Step a e b → Holds a b
step_holds notices.one a b ordered rising s = from_lasts a b ordered rising (one_lasts a b s rising)
step_holds notices.all a b ordered rising s = from_all a b ordered s rising
step_holds (notices.asked (Some k) me r) a b ordered rising s = from_lasts a b ordered rising (asked_if a b k me r (nat_lt k a.line.next) ordered.2 s)
step_holds (notices.asked None me r) a b ordered rising s = from_lasts a b ordered rising (first_lasts a b me r s)
step_holds (notices.gave_up None me) a b ordered rising s = from_lasts a b ordered rising (same_lasts a b s)
step_holds (notices.gave_up (Some k) me) a b ordered rising s = from_lasts a b ordered rising (gave_up_of a b k me (holder_of a.line.waiters.items k) ordered.2 rising s)
step_holds (notices.served first) a b ordered rising s = from_lasts a b ordered rising (pays_if a b first (starts_below a.cleared.next a.line.waiters.items) refl ordered.2 s.1 s.0)

run_holds : (es : List notices.Event) (a b : Notify) → IsOrdered a → Run notices.Step a es b → Holds a b
run_holds [] a b ordered run = subst (Holds a) (sym run) (ordered, le_itself a.cleared.before, λ k has from. has)
run_holds (e ∷ es) a b ordered (m, step, rest) =
    let here = step_holds e a m ordered (notice_step e a m ordered.2 step) step in
    let later = run_holds es m b here.0 rest in
    (later.0, omega (arith, here.1, later.1), λ k has from. later.2 k (here.2 k has (omega (arith, later.1, from))) from)

pub notice_outlives : NoticeOutlivesNoticeToAll
notice_outlives es a b ordered run = let all = run_holds es a b ordered run in (all.0, all.2)

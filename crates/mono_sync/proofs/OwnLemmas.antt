-- A future that asks or leaves takes out its own ticket alone.
use Rattle.std.proofs.Common.{◌≡◌, ◌==◌, ◌&&◌, ◌⊎◌, ℕ, Bool, true, false, not, cond, MatchBool, List, [], ◌∷◌, Option, Some, None, refl, sym, ap, subst, ◌∙◌, nat_lt, inl, inr}
use Rattle.mono_sync.specs.declared.lines.Waiter.{Waiter}
use Rattle.mono_sync.specs.declared.lines.Line.{Line}
use Rattle.mono_sync.specs.declared.lines.Coming.{Coming}
use Rattle.mono_sync.specs.declared.lines.Coming.TheVariants.{Waits, Free, Full}
use Rattle.mono_sync.specs.declared.semaphores.Semaphore.{Semaphore}
use Rattle.mono_sync.specs.declared.semaphores.Acquiring.{Acquiring}
use Rattle.mono_sync.specs.declared.semaphores.Acquiring.TheVariants as acquiring
use Rattle.mono_sync.specs.Lines.{waits_at, lists_at, holder_of, marked, without, Fits, Collects, HasRoom, Marks, Comes, ComesOf, Leaves, LeavesOf}
use Rattle.mono_sync.specs.Semaphores.{Acquires}
use Rattle.mono_sync.specs.WaitLaws.{IsPlaceOf, TakesOutItsOwn}
use Rattle.mono_sync.proofs.WaitLemmas.{false-true, same, and_left, and_right, or_split, or_left, or_right, marks, appended}

abbrev AllIn : List Waiter → List Waiter → Type 0
AllIn ws us = (k t : ℕ) → waits_at ws k t ≡ true → waits_at us k t ≡ true

all_same : (ws us : List Waiter) → us ≡ ws → AllIn ws us
all_same ws us is k t waits = ap (λ xs. waits_at xs k t) is ∙ waits

all_marked : (k₀ u : ℕ) (ws us : List Waiter) → holder_of ws k₀ ≡ Some u → us ≡ marked ws k₀ u → AllIn ws us
all_marked k₀ u ws us holds is k t waits = ap (λ xs. waits_at xs k t) is ∙ marks k₀ u ws k t holds waits

module _ (a b : Line) (k me room : ℕ) where
  comes_if : (r : Coming) (u : ℕ) (c : Bool) → holder_of a.waiters.items k ≡ Some u → MatchBool c ((r ≡ Waits) × (b ≡ a)) (HasRoom b room r × Marks a k u b) → AllIn a.waiters.items b.waiters.items
  comes_if r u true holds p = all_same a.waiters.items b.waiters.items (ap (λ l. l.waiters.items) p.1)
  comes_if r u false holds p = all_marked k u a.waiters.items b.waiters.items holds p.1.0

  comes_gone : (r : Coming) (c : Bool) → MatchBool c (Fits b.granted room r × Collects a b) (HasRoom b room r × (b ≡ a)) → AllIn a.waiters.items b.waiters.items
  comes_gone r true p = all_same a.waiters.items b.waiters.items p.1.0
  comes_gone r false p = all_same a.waiters.items b.waiters.items (ap (λ l. l.waiters.items) p.1)

  comes_of : (r : Coming) (o : Option ℕ) → holder_of a.waiters.items k ≡ o → ComesOf o a k me room r b → AllIn a.waiters.items b.waiters.items
  comes_of r None holds p = comes_gone r (nat_lt k a.next) p
  comes_of r (Some u) holds p = comes_if r u (u == me) holds p

comes_all : (a b : Line) (ticket : Option ℕ) (me room : ℕ) (r : Coming) → Comes a ticket me room r b → AllIn a.waiters.items b.waiters.items
comes_all a b None me room r p = all_same a.waiters.items b.waiters.items (ap (λ l. l.waiters.items) p.1)
comes_all a b (Some k) me room r p = comes_of a b k me room r (holder_of a.waiters.items k) refl p

places : (ws us : List Waiter) → AllIn ws us → (p : List ℕ) (t : ℕ) → lists_at ws p t ≡ true → lists_at us p t ≡ true
places ws us all [] t is = absurd (false-true is)
places ws us all (k ∷ []) t is = all k t is
places ws us all (k ∷ l ∷ p) t is = absurd (false-true is)

module _ (k₀ me : ℕ) where
  abbrev Own : List Waiter → List Waiter → Type 0
  Own ws us = (k t : ℕ) → waits_at ws k t ≡ true → (waits_at us k t ≡ true) ⊎ ((t ≡ me) × (k ≡ k₀))

  own_if : (b : Bool) (w : Waiter) (ws : List Waiter) (k t : ℕ) → ((w.ticket == k₀) && (w.task == me)) ≡ b → (waits_at ws k t ≡ true → (waits_at (without ws k₀ me) k t ≡ true) ⊎ ((t ≡ me) × (k ≡ k₀)))
      → waits_at (w ∷ ws) k t ≡ true → (waits_at (cond (not b) (w ∷ without ws k₀ me) (without ws k₀ me)) k t ≡ true) ⊎ ((t ≡ me) × (k ≡ k₀))
  own_if true w ws k t is rest waits = elim (or_split ((w.ticket == k) && (w.task == t)) (waits_at ws k t) waits) [
    | inl here ↦ inr (
      sym (same w.task t (and_right (w.ticket == k) (w.task == t) here)) ∙ same w.task me (and_right (w.ticket == k₀) (w.task == me) is),
      sym (same w.ticket k (and_left (w.ticket == k) (w.task == t) here)) ∙ same w.ticket k₀ (and_left (w.ticket == k₀) (w.task == me) is),
    )
    | inr later ↦ rest later
  ]
  own_if false w ws k t is rest waits = elim (or_split ((w.ticket == k) && (w.task == t)) (waits_at ws k t) waits) [
    | inl here ↦ inl (or_left ((w.ticket == k) && (w.task == t)) (waits_at (without ws k₀ me) k t) here)
    | inr later ↦ elim (rest later) [ inl stays ↦ inl (or_right ((w.ticket == k) && (w.task == t)) _ stays) | inr mine ↦ inr mine ]
  ]

  own_without : (ws : List Waiter) → Own ws (without ws k₀ me)
  own_without [] k t is = absurd (false-true is)
  own_without (w ∷ ws) k t is = own_if ((w.ticket == k₀) && (w.task == me)) w ws k t refl (own_without ws k t) is

  own_all : (ws us : List Waiter) → AllIn ws us → Own ws us
  own_all ws us all k t is = inl (all k t is)

  module _ (a b : Line) where
    leaves_if : (u : ℕ) (c : Bool) → holder_of a.waiters.items k₀ ≡ Some u → MatchBool c ((b.waiters.items ≡ without a.waiters.items k₀ me) × (b.granted ≡ a.granted) × (b.next ≡ a.next)) (Marks a k₀ u b) → Own a.waiters.items b.waiters.items
    leaves_if u true holds p = subst (Own a.waiters.items) (sym p.0) (own_without a.waiters.items)
    leaves_if u false holds p = own_all a.waiters.items b.waiters.items (all_marked k₀ u a.waiters.items b.waiters.items holds p.0)

    leaves_gone : (c : Bool) → MatchBool c (Collects a b) (b ≡ a) → Own a.waiters.items b.waiters.items
    leaves_gone true p = own_all a.waiters.items b.waiters.items (all_same a.waiters.items b.waiters.items p.0)
    leaves_gone false p = own_all a.waiters.items b.waiters.items (all_same a.waiters.items b.waiters.items (ap (λ l. l.waiters.items) p))

    leaves_of : (o : Option ℕ) → holder_of a.waiters.items k₀ ≡ o → LeavesOf o a k₀ me b → Own a.waiters.items b.waiters.items
    leaves_of None holds p = leaves_gone (nat_lt k₀ a.next) p
    leaves_of (Some u) holds p = leaves_if u (u == me) holds p

  own_places : (ws us : List Waiter) → Own ws us → (p : List ℕ) (t : ℕ) → lists_at ws p t ≡ true → (lists_at us p t ≡ true) ⊎ ((t ≡ me) × (p ≡ k₀ ∷ []))
  own_places ws us own [] t is = absurd (false-true is)
  own_places ws us own (k ∷ []) t is = elim (own k t is) [ inl stays ↦ inl stays | inr mine ↦ inr (mine.0, ap (λ n. n ∷ []) mine.1) ]
  own_places ws us own (k ∷ l ∷ p) t is = absurd (false-true is)

gives_up_own : (a b : Line) (ticket : Option ℕ) (me : ℕ) (p : List ℕ) (t : ℕ) → lists_at a.waiters.items p t ≡ true → Leaves a ticket me b → (lists_at b.waiters.items p t ≡ true) ⊎ ((t ≡ me) × IsPlaceOf ticket p)
gives_up_own a b None me p t is same = inl (ap (λ l. lists_at l.waiters.items p t) same ∙ is)
gives_up_own a b (Some k) me p t is left = own_places k me a.waiters.items b.waiters.items (leaves_of k me a b (holder_of a.waiters.items k) refl left) p t is

-- a line lists each task but the caller's own
abbrev OwnIn : Option ℕ → ℕ → Line → Line → Type 0
OwnIn ticket me a b = (p : List ℕ) (t : ℕ) → lists_at a.waiters.items p t ≡ true → (lists_at b.waiters.items p t ≡ true) ⊎ ((t ≡ me) × IsPlaceOf ticket p)

all_own : (a b : Line) (ticket : Option ℕ) (me : ℕ) → AllIn a.waiters.items b.waiters.items → OwnIn ticket me a b
all_own a b ticket me all p t is = inl (places a.waiters.items b.waiters.items all p t is)

acquires_own : (a b : Semaphore) (ticket : Option ℕ) (me : ℕ) (r : Acquiring) → Acquires a ticket me r b → OwnIn ticket me a.line b.line
acquires_own a b ticket me acquiring.Waits s = all_own a.line b.line ticket me (comes_all a.line b.line ticket me a.available Waits s.1)
acquires_own a b ticket me acquiring.Closed s = λ p t is. gives_up_own a.line b.line ticket me p t is s.1
acquires_own a b ticket me acquiring.Acquired s = all_own a.line b.line ticket me (comes_all a.line b.line ticket me a.available Free s.1)
acquires_own a b ticket me (acquiring.Joined n) s = all_own a.line b.line ticket me (λ k t waits. ap (λ ws. waits_at ws k t) s.1.1.1.1 ∙ appended s.1.0.waiters.items _ k t (comes_all a.line s.1.0 ticket me a.available Full s.1.1.0 k t waits))
acquires_own a b ticket me acquiring.Memory s = all_own a.line b.line ticket me (λ k t waits. ap (λ ws. waits_at ws k t) s.1.1.1.0 ∙ comes_all a.line s.1.0 ticket me a.available Full s.1.1.0 k t waits)

pub takes_out_its_own : TakesOutItsOwn
takes_out_its_own a b ticket me p t is = ((λ r s. acquires_own a b ticket me r s p t is), (λ s. gives_up_own a.line b.line ticket me p t is s.1))

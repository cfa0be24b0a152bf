-- A future that asks or leaves takes out its own ticket alone.
use Rattle.std.proofs.Common.{◌≡◌, ◌==◌, ◌&&◌, ◌⊎◌, ℕ, Bool, true, false, not, cond, MatchBool, List, [], ◌∷◌, Option, Some, None, Ok, refl, sym, ap, subst, ◌∙◌, inl, inr}
use Rattle.mono_locks.specs.declared.queues.Entry.{Entry}
use Rattle.mono_locks.specs.declared.queues.Queue.{Queue}
use Rattle.mono_locks.specs.declared.queues.Coming.{Coming}
use Rattle.mono_locks.specs.declared.queues.Coming.TheVariants.{Waits}
use Rattle.mono_locks.specs.Queues.{waits_at, lists_at, holder_of, marked, without, has_room, Fits, Marks, Comes, ComesOf, Leaves, LeavesOf, Joins, SameQueue}
use Rattle.mono_locks.specs.Laws.{IsPlaceOf}
use Rattle.mono_locks.proofs.WaitLemmas.{false-true, same, and_left, and_right, or_split, or_left, or_right, marks, appended}

abbrev AllIn : List Entry → List Entry → Type 0
AllIn ws us = (k t : ℕ) → waits_at ws k t ≡ true → waits_at us k t ≡ true

all_same : (ws us : List Entry) → us ≡ ws → AllIn ws us
all_same ws us is k t waits = ap (λ xs. waits_at xs k t) is ∙ waits

all_marked : (k₀ u : ℕ) (ws us : List Entry) → holder_of ws k₀ ≡ Some u → us ≡ marked ws k₀ u → AllIn ws us
all_marked k₀ u ws us holds is k t waits = ap (λ xs. waits_at xs k t) is ∙ marks k₀ u ws k t holds waits

module _ (a b : Queue) (k me n room : ℕ) where
  comes_if : (r : Coming) (u : ℕ) (c : Bool) → holder_of a.waiters.items k ≡ Some u → MatchBool c ((r ≡ Waits) × (b ≡ a)) (Fits (has_room b n room) r × Marks a k u b) → AllIn a.waiters.items b.waiters.items
  comes_if r u true holds p = all_same a.waiters.items b.waiters.items (ap (λ l. l.waiters.items) p.1)
  comes_if r u false holds p = all_marked k u a.waiters.items b.waiters.items holds p.1.0

  comes_of : (r : Coming) (o : Option ℕ) → holder_of a.waiters.items k ≡ o → ComesOf o a k me n room r b → AllIn a.waiters.items b.waiters.items
  comes_of r None holds p = all_same a.waiters.items b.waiters.items p.1.0
  comes_of r (Some u) holds p = comes_if r u (u == me) holds p

comes_all : (a b : Queue) (ticket : Option ℕ) (me n room : ℕ) (r : Coming) → Comes a ticket me n room r b → AllIn a.waiters.items b.waiters.items
comes_all a b None me n room r p = all_same a.waiters.items b.waiters.items (ap (λ l. l.waiters.items) p.1)
comes_all a b (Some k) me n room r p = comes_of a b k me n room r (holder_of a.waiters.items k) refl p

places : (ws us : List Entry) → AllIn ws us → (p : List ℕ) (t : ℕ) → lists_at ws p t ≡ true → lists_at us p t ≡ true
places ws us all [] t is = absurd (false-true is)
places ws us all (k ∷ []) t is = all k t is
places ws us all (k ∷ l ∷ p) t is = absurd (false-true is)

module _ (k₀ me : ℕ) where
  abbrev Own : List Entry → List Entry → Type 0
  Own ws us = (k t : ℕ) → waits_at ws k t ≡ true → (waits_at us k t ≡ true) ⊎ ((t ≡ me) × (k ≡ k₀))

  own_if : (b : Bool) (w : Entry) (ws : List Entry) (k t : ℕ) → ((w.ticket == k₀) && (w.task == me)) ≡ b → (waits_at ws k t ≡ true → (waits_at (without ws k₀ me) k t ≡ true) ⊎ ((t ≡ me) × (k ≡ k₀)))
      → waits_at (w ∷ ws) k t ≡ true → (waits_at (cond (not b) (w ∷ without ws k₀ me) (without ws k₀ me)) k t ≡ true) ⊎ ((t ≡ me) × (k ≡ k₀))
  own_if true w ws k t is rest waits = elim (or_split ((w.ticket == k) && (w.task == t)) (waits_at ws k t) waits) [
    | inl here ↦ inr (
      sym (same w.task t (and_right (w.ticket == k) (w.task == t) here)) ∙ same w.task me (and_right (w.ticket == k₀) (w.task == me) is),
      sym (same w.ticket k (and_left (w.ticket == k) (w.task == t) here)) ∙ same w.ticket k₀ (and_left (w.ticket == k₀) (w.task == me) is),
    )
    | inr later ↦ rest later
  ]
  own_if false w ws k t is rest waits = elim (or_split ((w.ticket == k) && (w.task == t)) (waits_at ws k t) waits) [
    | inl here ↦ inl (or_left ((w.ticket == k) && (w.task == t)) (waits_at (without ws k₀ me) k t) here)
    | inr later ↦ elim (rest later) [ inl stays ↦ inl (or_right ((w.ticket == k) && (w.task == t)) _ stays) | inr mine ↦ inr mine ]
  ]

  own_without : (ws : List Entry) → Own ws (without ws k₀ me)
  own_without [] k t is = absurd (false-true is)
  own_without (w ∷ ws) k t is = own_if ((w.ticket == k₀) && (w.task == me)) w ws k t refl (own_without ws k t) is

  own_all : (ws us : List Entry) → AllIn ws us → Own ws us
  own_all ws us all k t is = inl (all k t is)

  module _ (a b : Queue) (n : ℕ) where
    leaves_if : (u : ℕ) (c : Bool) → holder_of a.waiters.items k₀ ≡ Some u → MatchBool c ((b.waiters.items ≡ without a.waiters.items k₀ me) × (b.granted ≡ a.granted) × (b.next ≡ a.next)) (Marks a k₀ u b) → Own a.waiters.items b.waiters.items
    leaves_if u true holds p = subst (Own a.waiters.items) (sym p.0) (own_without a.waiters.items)
    leaves_if u false holds p = own_all a.waiters.items b.waiters.items (all_marked k₀ u a.waiters.items b.waiters.items holds p.0)

    leaves_of : (o : Option ℕ) → holder_of a.waiters.items k₀ ≡ o → LeavesOf o a k₀ me n b → Own a.waiters.items b.waiters.items
    leaves_of None holds p = own_all a.waiters.items b.waiters.items (all_same a.waiters.items b.waiters.items p.0)
    leaves_of (Some u) holds p = leaves_if u (u == me) holds p

  own_places : (ws us : List Entry) → Own ws us → (p : List ℕ) (t : ℕ) → lists_at ws p t ≡ true → (lists_at us p t ≡ true) ⊎ ((t ≡ me) × (p ≡ k₀ ∷ []))
  own_places ws us own [] t is = absurd (false-true is)
  own_places ws us own (k ∷ []) t is = elim (own k t is) [ inl stays ↦ inl stays | inr mine ↦ inr (mine.0, ap (λ n. n ∷ []) mine.1) ]
  own_places ws us own (k ∷ l ∷ p) t is = absurd (false-true is)

-- a queue lists each task but the caller's own
abbrev pub OwnIn : Option ℕ → ℕ → Queue → Queue → Type 0
OwnIn ticket me a b = (p : List ℕ) (t : ℕ) → lists_at a.waiters.items p t ≡ true → (lists_at b.waiters.items p t ≡ true) ⊎ ((t ≡ me) × IsPlaceOf ticket p)

pub leaves_own : (a b : Queue) (ticket : Option ℕ) (me n : ℕ) → Leaves a ticket me n b → OwnIn ticket me a b
leaves_own a b None me n same p t is = inl (ap (λ l. lists_at l.waiters.items p t) same ∙ is)
leaves_own a b (Some k) me n left p t is = own_places k me a.waiters.items b.waiters.items (leaves_of k me a b n (holder_of a.waiters.items k) refl left) p t is

all_own : (a b : Queue) (ticket : Option ℕ) (me : ℕ) → AllIn a.waiters.items b.waiters.items → OwnIn ticket me a b
all_own a b ticket me all p t is = inl (places a.waiters.items b.waiters.items all p t is)

pub comes_own : (a b : Queue) (ticket : Option ℕ) (me n room : ℕ) (r : Coming) → Comes a ticket me n room r b → OwnIn ticket me a b
comes_own a b ticket me n room r s = all_own a b ticket me (comes_all a b ticket me n room r s)

pub joins_own : (a q b : Queue) (ticket : Option ℕ) (me n room u : ℕ) (r : Coming) → Comes a ticket me n room r q → Joins q me n (Ok u) b → OwnIn ticket me a b
joins_own a q b ticket me n room u r s j = all_own a b ticket me (λ k t waits. ap (λ ws. waits_at ws k t) j.1 ∙ appended q.waiters.items _ k t (comes_all a q ticket me n room r s k t waits))

pub rests_own : (a q b : Queue) (ticket : Option ℕ) (me n room : ℕ) (r : Coming) → Comes a ticket me n room r q → SameQueue q b → OwnIn ticket me a b
rests_own a q b ticket me n room r s j = all_own a b ticket me (λ k t waits. ap (λ ws. waits_at ws k t) j.0 ∙ comes_all a q ticket me n room r s k t waits)

pub same_own : (a b : Queue) (ticket : Option ℕ) (me : ℕ) → b ≡ a → OwnIn ticket me a b
same_own a b ticket me same p t is = inl (ap (λ l. lists_at l.waiters.items p t) same ∙ is)

-- Who stays in a queue.
use Rattle.std.proofs.Common.{◌≡◌, ◌==◌, ◌&&◌, ◌||◌, ◌⊎◌, ℕ, Bool, true, false, not, cond, MatchBool, List, [], ◌∷◌, ◌++◌, Option, Some, None, Ok, refl, sym, ap, subst, ◌∙◌, inl, inr}
use Rattle.std.proofs.lemmas.Bool.Decides.{eqb_tells}
use Rattle.mono_locks.specs.declared.queues.Entry.{Entry}
use Rattle.mono_locks.specs.declared.queues.Queue.{Queue}
use Rattle.mono_locks.specs.declared.queues.Coming.{Coming}
use Rattle.mono_locks.specs.declared.queues.Coming.TheVariants.{Waits}
use Rattle.mono_locks.specs.Queues.{waits_at, lists_at, holder_of, marked, without, Fits, has_room, Marks, Comes, ComesOf, Leaves, LeavesOf, Joins, SameQueue}

pub false-true : false ≡ true → ⊥
false-true e = cc

pub same : (u t : ℕ) → (u == t) ≡ true → u ≡ t
same u t is = elim (eqb_tells u t) [ inl here ↦ here.1 | inr apart ↦ absurd (false-true (sym apart.0 ∙ is)) ]

pub same_some : (i j : ℕ) → Some i ≡ Some j → i ≡ j
same_some i j e = cc

pub and_left : (a b : Bool) → (a && b) ≡ true → a ≡ true
and_left true b is = refl
and_left false b is = is

pub and_right : (a b : Bool) → (a && b) ≡ true → b ≡ true
and_right true b is = is
and_right false b is = absurd (false-true is)

pub or_mono : (b x y : Bool) → (x ≡ true → y ≡ true) → (b || x) ≡ true → (b || y) ≡ true
or_mono true x y f is = refl
or_mono false x y f is = f is

pub or_split : (b x : Bool) → (b || x) ≡ true → (b ≡ true) ⊎ (x ≡ true)
or_split true x is = inl refl
or_split false x is = inr is

pub or_right : (b x : Bool) → x ≡ true → (b || x) ≡ true
or_right true x is = refl
or_right false x is = is

pub or_left : (b x : Bool) → b ≡ true → (b || x) ≡ true
or_left b x is = ap (λ y. y || x) is

-- Whoever waits in the first queue waits in the second, but for one task.
abbrev pub KeptIn : ℕ → List Entry → List Entry → Type 0
KeptIn me ws us = (k t : ℕ) → waits_at ws k t ≡ true → (waits_at us k t ≡ true) ⊎ (t ≡ me)

pub to_places : (me : ℕ) (ws us : List Entry) → KeptIn me ws us → (p : List ℕ) (t : ℕ) → lists_at ws p t ≡ true → (lists_at us p t ≡ true) ⊎ (t ≡ me)
to_places me ws us kept [] t is = absurd (false-true is)
to_places me ws us kept (k ∷ []) t is = kept k t is
to_places me ws us kept (k ∷ l ∷ p) t is = absurd (false-true is)

pub kept_same : (me : ℕ) (ws us : List Entry) → us ≡ ws → KeptIn me ws us
kept_same me ws us same k t is = inl (ap (λ xs. waits_at xs k t) same ∙ is)

pub kept_on : (me : ℕ) (ws us vs : List Entry) → KeptIn me ws us → KeptIn me us vs → KeptIn me ws vs
kept_on me ws us vs p q k t is = elim (p k t is) [ inl stays ↦ q k t stays | inr mine ↦ inr mine ]

pub appended : (ws us : List Entry) (k t : ℕ) → waits_at ws k t ≡ true → waits_at (ws ++ us) k t ≡ true
appended [] us k t is = absurd (false-true is)
appended (w ∷ ws) us k t is = or_mono ((w.ticket == k) && (w.task == t)) (waits_at ws k t) (waits_at (ws ++ us) k t) (appended ws us k t) is

pub kept_joined : (me : ℕ) (ws us vs : List Entry) → vs ≡ ws ++ us → KeptIn me ws vs
kept_joined me ws us vs is k t waits = inl (ap (λ xs. waits_at xs k t) is ∙ appended ws us k t waits)

pub kept_tail : (w : Entry) (ws us : List Entry) → ws ≡ w ∷ us → KeptIn w.task ws us
kept_tail w ws us is k t waits = elim (or_split ((w.ticket == k) && (w.task == t)) (waits_at us k t) (sym (ap (λ xs. waits_at xs k t) is) ∙ waits)) [
  | inl here ↦ inr (sym (same w.task t (and_right (w.ticket == k) (w.task == t) here)))
  | inr later ↦ inl later
]

module _ (k₀ me : ℕ) where
  without_if : (b : Bool) (w : Entry) (ws : List Entry) (k t : ℕ) → ((w.ticket == k₀) && (w.task == me)) ≡ b → (waits_at ws k t ≡ true → (waits_at (without ws k₀ me) k t ≡ true) ⊎ (t ≡ me))
      → waits_at (w ∷ ws) k t ≡ true → (waits_at (cond (not b) (w ∷ without ws k₀ me) (without ws k₀ me)) k t ≡ true) ⊎ (t ≡ me)
  without_if true w ws k t is rest waits = elim (or_split ((w.ticket == k) && (w.task == t)) (waits_at ws k t) waits) [
    | inl here ↦ inr (sym (same w.task t (and_right (w.ticket == k) (w.task == t) here)) ∙ same w.task me (and_right (w.ticket == k₀) (w.task == me) is))
    | inr later ↦ rest later
  ]
  without_if false w ws k t is rest waits = elim (or_split ((w.ticket == k) && (w.task == t)) (waits_at ws k t) waits) [
    | inl here ↦ inl (or_left ((w.ticket == k) && (w.task == t)) (waits_at (without ws k₀ me) k t) here)
    | inr later ↦ elim (rest later) [ inl stays ↦ inl (or_right ((w.ticket == k) && (w.task == t)) _ stays) | inr mine ↦ inr mine ]
  ]

  pub kept_without : (ws : List Entry) → KeptIn me ws (without ws k₀ me)
  kept_without [] k t is = absurd (false-true is)
  kept_without (w ∷ ws) k t is = without_if ((w.ticket == k₀) && (w.task == me)) w ws k t refl (kept_without ws k t) is

module _ (k₀ u : ℕ) where
  abbrev left : Entry
  left = record { ticket = k₀; task = u; amount = 0 }

  marked_if : (b : Bool) (w : Entry) (ws : List Entry) (k t : ℕ) → (w.ticket == k₀) ≡ b → cond b (Some w.task) (holder_of ws k₀) ≡ Some u
      → (holder_of ws k₀ ≡ Some u → waits_at ws k t ≡ true → waits_at (marked ws k₀ u) k t ≡ true)
      → waits_at (w ∷ ws) k t ≡ true → waits_at (cond b (left ∷ ws) (w ∷ marked ws k₀ u)) k t ≡ true
  marked_if true w ws k t is holds rest waits =
      subst (λ n. waits_at (record { ticket = n; task = u; amount = 0 } ∷ ws) k t ≡ true) (same w.ticket k₀ is)
      (subst (λ n. waits_at (record { ticket = w.ticket; task = n; amount = 0 } ∷ ws) k t ≡ true) (same_some w.task u holds) waits)
  marked_if false w ws k t is holds rest waits = or_mono ((w.ticket == k) && (w.task == t)) (waits_at ws k t) (waits_at (marked ws k₀ u) k t) (rest holds) waits

  pub marks : (ws : List Entry) (k t : ℕ) → holder_of ws k₀ ≡ Some u → waits_at ws k t ≡ true → waits_at (marked ws k₀ u) k t ≡ true
  marks [] k t holds is = absurd (false-true is)
  marks (w ∷ ws) k t holds is = marked_if (w.ticket == k₀) w ws k t refl holds (marks ws k t) is

  pub kept_marked : (me : ℕ) (ws us : List Entry) → holder_of ws k₀ ≡ Some u → us ≡ marked ws k₀ u → KeptIn me ws us
  kept_marked me ws us holds is k t waits = inl (ap (λ xs. waits_at xs k t) is ∙ marks ws k t holds waits)

module _ (a b : Queue) (k me n : ℕ) where
  comes_if : (room : ℕ) (r : Coming) (u : ℕ) (c : Bool) → holder_of a.waiters.items k ≡ Some u → MatchBool c ((r ≡ Waits) × (b ≡ a)) (Fits (has_room b n room) r × Marks a k u b) → KeptIn me a.waiters.items b.waiters.items
  comes_if room r u true holds p = kept_same me a.waiters.items b.waiters.items (ap (λ l. l.waiters.items) p.1)
  comes_if room r u false holds p = kept_marked k u me a.waiters.items b.waiters.items holds p.1.0

  comes_of : (room : ℕ) (r : Coming) (o : Option ℕ) → holder_of a.waiters.items k ≡ o → ComesOf o a k me n room r b → KeptIn me a.waiters.items b.waiters.items
  comes_of room r None holds p = kept_same me a.waiters.items b.waiters.items p.1.0
  comes_of room r (Some u) holds p = comes_if room r u (u == me) holds p

  leaves_if : (u : ℕ) (c : Bool) → holder_of a.waiters.items k ≡ Some u → MatchBool c ((b.waiters.items ≡ without a.waiters.items k me) × (b.granted ≡ a.granted) × (b.next ≡ a.next)) (Marks a k u b) → KeptIn me a.waiters.items b.waiters.items
  leaves_if u true holds p = subst (λ us. KeptIn me a.waiters.items us) (sym p.0) (kept_without k me a.waiters.items)
  leaves_if u false holds p = kept_marked k u me a.waiters.items b.waiters.items holds p.0

  leaves_of : (o : Option ℕ) → holder_of a.waiters.items k ≡ o → LeavesOf o a k me n b → KeptIn me a.waiters.items b.waiters.items
  leaves_of None holds p = kept_same me a.waiters.items b.waiters.items p.0
  leaves_of (Some u) holds p = leaves_if u (u == me) holds p

-- A queue after a call keeps each task but one.
abbrev pub QueueKept : ℕ → Queue → Queue → Type 0
QueueKept me a b = KeptIn me a.waiters.items b.waiters.items

pub queue_same : (me : ℕ) (a b : Queue) → b ≡ a → QueueKept me a b
queue_same me a b is = kept_same me a.waiters.items b.waiters.items (ap (λ l. l.waiters.items) is)

pub comes_keeps : (a b : Queue) (ticket : Option ℕ) (me n room : ℕ) (r : Coming) → Comes a ticket me n room r b → QueueKept me a b
comes_keeps a b None me n room r p = queue_same me a b p.1
comes_keeps a b (Some k) me n room r p = comes_of a b k me n room r (holder_of a.waiters.items k) refl p

pub leaves_keeps : (a b : Queue) (ticket : Option ℕ) (me n : ℕ) → Leaves a ticket me n b → QueueKept me a b
leaves_keeps a b None me n p = queue_same me a b p
leaves_keeps a b (Some k) me n p = leaves_of a b k me n (holder_of a.waiters.items k) refl p

pub joins_keeps : (a l b : Queue) (ticket : Option ℕ) (me n room t : ℕ) (r : Coming) → Comes a ticket me n room r l → Joins l me n (Ok t) b → QueueKept me a b
joins_keeps a l b ticket me n room t r p q = kept_on me a.waiters.items l.waiters.items b.waiters.items (comes_keeps a l ticket me n room r p) (kept_joined me l.waiters.items _ b.waiters.items q.1)

pub rests_keeps : (a l b : Queue) (ticket : Option ℕ) (me n room : ℕ) (r : Coming) → Comes a ticket me n room r l → SameQueue l b → QueueKept me a b
rests_keeps a l b ticket me n room r p q = kept_on me a.waiters.items l.waiters.items b.waiters.items (comes_keeps a l ticket me n room r p) (kept_same me l.waiters.items b.waiters.items q.0)

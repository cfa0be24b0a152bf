-- Who stays among those that wait.
use Rattle.std.proofs.Common.{◌≡◌, ◌==◌, ◌&&◌, ◌||◌, ◌⊎◌, ◌<◌, ℕ, Bool, true, false, not, cond, List, [], ◌∷◌, ◌++◌, length, arith, Option, Some, None, refl, sym, ap, ◌∙◌, inl, inr}
use Rattle.std.proofs.lemmas.Bool.Decides.{eqb_tells}
use Rattle.mono_groups.specs.declared.waiters.Asked.{Asked}
use Rattle.mono_groups.specs.declared.waiters.Asked.TheVariants.{Got, Waits, Joined, Memory}
use Rattle.mono_groups.specs.declared.waiters.Waiter.{Waiter}
use Rattle.mono_groups.specs.declared.waiters.Waiters.{Waiters}
use Rattle.mono_groups.specs.Waiters.{waits_at, lists_at, tasks_of, without, Leaves, Stands}

pub false-true : false ≡ true → ⊥
false-true e = cc

same : (u t : ℕ) → (u == t) ≡ true → u ≡ t
same u t is = elim (eqb_tells u t) [ inl here ↦ here.1 | inr apart ↦ absurd (false-true (sym apart.0 ∙ is)) ]

and_right : (a b : Bool) → (a && b) ≡ true → b ≡ true
and_right true b is = is
and_right false b is = absurd (false-true is)

or_mono : (b x y : Bool) → (x ≡ true → y ≡ true) → (b || x) ≡ true → (b || y) ≡ true
or_mono true x y f is = refl
or_mono false x y f is = f is

or_split : (b x : Bool) → (b || x) ≡ true → (b ≡ true) ⊎ (x ≡ true)
or_split true x is = inl refl
or_split false x is = inr is

or_right : (b x : Bool) → x ≡ true → (b || x) ≡ true
or_right true x is = refl
or_right false x is = is

or_left : (b x : Bool) → b ≡ true → (b || x) ≡ true
or_left b x is = ap (λ y. y || x) is

-- Whoever waits in the first list waits in the second, but for one task.
abbrev pub KeptIn : ℕ → List Waiter → List Waiter → Type 0
KeptIn me ws us = (k t : ℕ) → waits_at ws k t ≡ true → (waits_at us k t ≡ true) ⊎ (t ≡ me)

pub to_places : (me : ℕ) (ws us : List Waiter) → KeptIn me ws us → (p : List ℕ) (t : ℕ) → lists_at ws p t ≡ true → (lists_at us p t ≡ true) ⊎ (t ≡ me)
to_places me ws us kept [] t is = absurd (false-true is)
to_places me ws us kept (k ∷ []) t is = kept k t is
to_places me ws us kept (k ∷ l ∷ p) t is = absurd (false-true is)

pub kept_same : (me : ℕ) (ws us : List Waiter) → us ≡ ws → KeptIn me ws us
kept_same me ws us same k t is = inl (ap (λ xs. waits_at xs k t) same ∙ is)

appended : (ws us : List Waiter) (k t : ℕ) → waits_at ws k t ≡ true → waits_at (ws ++ us) k t ≡ true
appended [] us k t is = absurd (false-true is)
appended (w ∷ ws) us k t is = or_mono ((w.ticket == k) && (w.task == t)) (waits_at ws k t) (waits_at (ws ++ us) k t) (appended ws us k t) is

pub kept_joined : (me : ℕ) (ws us vs : List Waiter) → vs ≡ ws ++ us → KeptIn me ws vs
kept_joined me ws us vs is k t waits = inl (ap (λ xs. waits_at xs k t) is ∙ appended ws us k t waits)

pub kept_tail : (w : Waiter) (ws us : List Waiter) → ws ≡ w ∷ us → KeptIn w.task ws us
kept_tail w ws us is k t waits = elim (or_split ((w.ticket == k) && (w.task == t)) (waits_at us k t) (sym (ap (λ xs. waits_at xs k t) is) ∙ waits)) [
  | inl here ↦ inr (sym (same w.task t (and_right (w.ticket == k) (w.task == t) here)))
  | inr later ↦ inl later
]

module _ (k₀ me : ℕ) where
  without_if : (b : Bool) (w : Waiter) (ws : List Waiter) (k t : ℕ) → ((w.ticket == k₀) && (w.task == me)) ≡ b → (waits_at ws k t ≡ true → (waits_at (without ws k₀ me) k t ≡ true) ⊎ (t ≡ me))
      → waits_at (w ∷ ws) k t ≡ true → (waits_at (cond (not b) (w ∷ without ws k₀ me) (without ws k₀ me)) k t ≡ true) ⊎ (t ≡ me)
  without_if true w ws k t is rest waits = elim (or_split ((w.ticket == k) && (w.task == t)) (waits_at ws k t) waits) [
    | inl here ↦ inr (sym (same w.task t (and_right (w.ticket == k) (w.task == t) here)) ∙ same w.task me (and_right (w.ticket == k₀) (w.task == me) is))
    | inr later ↦ rest later
  ]
  without_if false w ws k t is rest waits = elim (or_split ((w.ticket == k) && (w.task == t)) (waits_at ws k t) waits) [
    | inl here ↦ inl (or_left ((w.ticket == k) && (w.task == t)) (waits_at (without ws k₀ me) k t) here)
    | inr later ↦ elim (rest later) [ inl stays ↦ inl (or_right ((w.ticket == k) && (w.task == t)) _ stays) | inr mine ↦ inr mine ]
  ]

  pub kept_without : (ws : List Waiter) → KeptIn me ws (without ws k₀ me)
  kept_without [] k t is = absurd (false-true is)
  kept_without (w ∷ ws) k t is = without_if ((w.ticket == k₀) && (w.task == me)) w ws k t refl (kept_without ws k t) is

pub leaves_keeps : (a b : Waiters) (ticket : Option ℕ) (me : ℕ) → Leaves a ticket me b → KeptIn me a.entries.items b.entries.items
leaves_keeps a b None me p = kept_same me a.entries.items b.entries.items (ap (λ l. l.entries.items) p)
leaves_keeps a b (Some k) me p = λ j t is. elim (kept_without k me a.entries.items j t is) [ inl stays ↦ inl (ap (λ xs. waits_at xs j t) p.0 ∙ stays) | inr mine ↦ inr mine ]

pub stands_keeps : {G : Type 0} (a b : Waiters) (ticket : Option ℕ) (me : ℕ) (r : Asked G) → Stands a ticket me r b → KeptIn me a.entries.items b.entries.items
stands_keeps a b ticket me (Got g) p = absurd p
stands_keeps a b ticket me Waits p = kept_same me a.entries.items b.entries.items (ap (λ l. l.entries.items) p.1)
stands_keeps a b ticket me (Joined t) p = kept_joined me a.entries.items _ b.entries.items p.2
stands_keeps a b ticket me Memory p = kept_same me a.entries.items b.entries.items p.1.0

-- if no task waits, none does after one has left
pub leaves_none : (a b : Waiters) (ticket : Option ℕ) (me : ℕ) → Leaves a ticket me b → a.entries.items ≡ [] → b.entries.items ≡ []
leaves_none a b None me p none = ap (λ l. l.entries.items) p ∙ none
leaves_none a b (Some k) me p none = p.0 ∙ ap (λ ws. without ws k me) none

pub no_task : (ws : List Waiter) → tasks_of ws ≡ [] → ws ≡ []
no_task [] is = refl
no_task (w ∷ ws) is = cc

pub some_task : (ws : List Waiter) → 0 < length ws → tasks_of ws ≡ [] → ⊥
some_task [] some none = omega (arith, some)
some_task (w ∷ ws) some none = cc

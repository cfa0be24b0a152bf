-- Whom a watched value keeps, and whom it hands out.
use Rattle.std.proofs.Common.{ℕ, ◌∷◌, Option, Some, None, sym, ap, ◌∙◌}
use Rattle.mono_task.specs.Owed.{Keeps, Hands}
use Rattle.mono_sync.specs.declared.lines.Waiter.{Waiter}
use Rattle.mono_sync.specs.declared.lines.Coming.TheVariants.{Waits, Full}
use Rattle.mono_sync.specs.declared.watch.Watch.{Watch}
use Rattle.mono_sync.specs.declared.watch.Changing.{Changing}
use Rattle.mono_sync.specs.declared.watch.Changing.TheVariants as changing
use Rattle.mono_sync.specs.Lines.{owed_below}
use Rattle.mono_sync.specs.Watches.{owed_by, listed_by, Changes, GivesUp, Pays}
use Rattle.mono_sync.proofs.BelowLemmas.{below_stays, below_none, below_first, below_out}
use Rattle.mono_sync.proofs.WaitLemmas.{LineKept, to_places, comes_keeps, leaves_keeps, joins_keeps, rests_keeps}

module _ {T : Type 0} where
  of_line : (me : ℕ) (a b : Watch T) → LineKept me a.line b.line → Keeps listed_by me a b
  of_line me a b kept = to_places me a.line.waiters.items b.line.waiters.items kept

  pub changes_keeps : (a b : Watch T) (seen : ℕ) (ticket : Option ℕ) (me : ℕ) (r : Changing) → Changes a seen ticket me r b → Keeps listed_by me a b
  changes_keeps a b seen ticket me (changing.Changed v) s = of_line me a b (leaves_keeps a.line b.line ticket me s.2)
  changes_keeps a b seen ticket me changing.Closed s = of_line me a b (leaves_keeps a.line b.line ticket me s.2)
  changes_keeps a b seen ticket me changing.Waits s = of_line me a b (comes_keeps a.line b.line ticket me 0 Waits s.2)
  changes_keeps a b seen ticket me (changing.Joined t) s = of_line me a b (joins_keeps a.line s.2.0 b.line ticket me 0 t Full s.2.1.0 s.2.1.1)
  changes_keeps a b seen ticket me changing.Memory s = of_line me a b (rests_keeps a.line s.2.0 b.line ticket me 0 Full s.2.1.0 s.2.1.1)

  pub gives_up_keeps : (a b : Watch T) (ticket : Option ℕ) (me : ℕ) → GivesUp a ticket me b → Keeps listed_by me a b
  gives_up_keeps a b ticket me s = of_line me a b (leaves_keeps a.line b.line ticket me s.0)

  pub none_hands : (a b : Watch T) → Pays a None b → Hands listed_by owed_by a None b
  none_hands a b s = (
    below_none a.cleared a.line b.line a.is_closed s.0,
    (λ i. record { value = s.1.0 i; version = s.1.1 i; is_closed = s.1.2 i; line = below_stays a.cleared a.line b.line a.is_closed s.0 i; cleared = s.1.3 i }),
  )

  pub first_hands : (a b : Watch T) (w : Waiter) → Pays a (Some w) b → Hands listed_by owed_by a (Some w.task) b
  first_hands a b w s = (
    below_first a.cleared a.line b.line w a.is_closed s.0 ∙ ap (λ c. w.task ∷ owed_below c a.cleared b.line) (sym s.1.2) ∙ ap (λ n. w.task ∷ owed_below b.is_closed n b.line) (sym s.1.3),
    of_line w.task a b (below_out a.cleared a.line b.line w a.is_closed s.0),
  )

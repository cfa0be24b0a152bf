-- Whom a channel for one message keeps, and whom it hands out.
use Rattle.std.proofs.Common.{◌&&◌, ℕ, ◌∷◌, Option, Some, None, sym, ◌∙◌}
use Rattle.mono_task.specs.Owed.{Keeps, Hands}
use Rattle.mono_sync.specs.declared.lines.Waiter.{Waiter}
use Rattle.mono_sync.specs.declared.lines.Coming.TheVariants.{Waits, Free, Full}
use Rattle.mono_sync.specs.declared.oneshot.Oneshot.{Oneshot}
use Rattle.mono_sync.specs.declared.oneshot.Receiving.{Receiving}
use Rattle.mono_sync.specs.declared.oneshot.Receiving.TheVariants as receiving
use Rattle.mono_sync.specs.Lines.{owed_of}
use Rattle.mono_sync.specs.Oneshot.{count, has_none, is_over, owed_by, listed_by, Receives, GivesUp, Pays}
use Rattle.mono_sync.proofs.TakeLemmas.{none_taken, none_stays, first_taken, first_out}
use Rattle.mono_sync.proofs.WaitLemmas.{LineKept, to_places, comes_keeps, leaves_keeps, joins_keeps, rests_keeps}

module _ {T : Type 0} where
  of_line : (me : ℕ) (a b : Oneshot T) → LineKept me a.line b.line → Keeps listed_by me a b
  of_line me a b kept = to_places me a.line.waiters.items b.line.waiters.items kept

  pub receives_keeps : (a b : Oneshot T) (ticket : Option ℕ) (me : ℕ) (r : Receiving T) → Receives a ticket me r b → Keeps listed_by me a b
  receives_keeps a b ticket me (receiving.Received x) s = of_line me a b (comes_keeps a.line b.line ticket me (count a.message) Free s.2)
  receives_keeps a b ticket me receiving.Closed s = of_line me a b (leaves_keeps a.line b.line ticket me s.1)
  receives_keeps a b ticket me receiving.Waits s = of_line me a b (comes_keeps a.line b.line ticket me (count a.message) Waits s.1)
  receives_keeps a b ticket me receiving.Taken s = of_line me a b (comes_keeps a.line b.line ticket me (count a.message) Full s.1)
  receives_keeps a b ticket me (receiving.Joined t) s = of_line me a b (joins_keeps a.line s.1.0 b.line ticket me (count a.message) t Full s.1.1.0 s.1.1.2)
  receives_keeps a b ticket me receiving.Memory s = of_line me a b (rests_keeps a.line s.1.0 b.line ticket me (count a.message) Full s.1.1.0 s.1.1.2)

  pub gives_up_keeps : (a b : Oneshot T) (ticket : Option ℕ) (me : ℕ) → GivesUp a ticket me b → Keeps listed_by me a b
  gives_up_keeps a b ticket me s = of_line me a b (leaves_keeps a.line b.line ticket me s.0)

  pub none_hands : (a b : Oneshot T) → Pays a None b → Hands listed_by owed_by a None b
  none_hands a b s = (
    none_taken (is_over a) (count a.message) a.line b.line s.0,
    (λ i. record { message = s.1.0 i; is_closed = s.1.1 i; line = none_stays (is_over a) (count a.message) a.line b.line s.0 i }),
  )

  pub first_hands : (a b : Oneshot T) (w : Waiter) → Pays a (Some w) b → Hands listed_by owed_by a (Some w.task) b
  first_hands a b w s = (
    first_taken (is_over a) (count a.message) w a.line b.line s.0 ∙ (λ i. w.task ∷ owed_of (sym s.1.1 i && has_none (sym s.1.0 i)) (count (sym s.1.0 i)) b.line),
    of_line w.task a b (first_out (is_over a) (count a.message) w a.line b.line s.0),
  )

-- Whom a semaphore keeps, and whom it hands out.
use Rattle.std.proofs.Common.{◌≡◌, ℕ, ◌∷◌, Option, Some, None, sym, ap, ◌∙◌}
use Rattle.mono_task.specs.Owed.{Keeps, Hands}
use Rattle.mono_sync.specs.declared.lines.Waiter.{Waiter}
use Rattle.mono_sync.specs.declared.lines.Coming.TheVariants.{Waits, Free, Full}
use Rattle.mono_sync.specs.declared.semaphores.Semaphore.{Semaphore}
use Rattle.mono_sync.specs.declared.semaphores.Acquiring.{Acquiring}
use Rattle.mono_sync.specs.declared.semaphores.Acquiring.TheVariants as acquiring
use Rattle.mono_sync.specs.Lines.{owed_of}
use Rattle.mono_sync.specs.Semaphores.{owed_by, listed_by, Acquires, GivesUp, Pays}
use Rattle.mono_sync.proofs.TakeLemmas.{none_taken, none_stays, first_taken, first_out}
use Rattle.mono_sync.proofs.WaitLemmas.{LineKept, to_places, line_same, comes_keeps, leaves_keeps, joins_keeps, rests_keeps}

of_line : (me : ℕ) (a b : Semaphore) → LineKept me a.line b.line → Keeps listed_by me a b
of_line me a b kept = to_places me a.line.waiters.items b.line.waiters.items kept

pub line_stays : (me : ℕ) (a b : Semaphore) → b.line ≡ a.line → Keeps listed_by me a b
line_stays me a b same = of_line me a b (line_same me a.line b.line same)

pub acquires_keeps : (a b : Semaphore) (ticket : Option ℕ) (me : ℕ) (r : Acquiring) → Acquires a ticket me r b → Keeps listed_by me a b
acquires_keeps a b ticket me acquiring.Waits s = of_line me a b (comes_keeps a.line b.line ticket me a.available Waits s.1)
acquires_keeps a b ticket me acquiring.Closed s = of_line me a b (leaves_keeps a.line b.line ticket me s.1)
acquires_keeps a b ticket me acquiring.Acquired s = of_line me a b (comes_keeps a.line b.line ticket me a.available Free s.1)
acquires_keeps a b ticket me (acquiring.Joined t) s = of_line me a b (joins_keeps a.line s.1.0 b.line ticket me a.available t Full s.1.1.0 s.1.1.1)
acquires_keeps a b ticket me acquiring.Memory s = of_line me a b (rests_keeps a.line s.1.0 b.line ticket me a.available Full s.1.1.0 s.1.1.1)

pub gives_up_keeps : (a b : Semaphore) (ticket : Option ℕ) (me : ℕ) → GivesUp a ticket me b → Keeps listed_by me a b
gives_up_keeps a b ticket me s = of_line me a b (leaves_keeps a.line b.line ticket me s.1)

pub none_hands : (a b : Semaphore) → Pays a None b → Hands listed_by owed_by a None b
none_hands a b s = (none_taken a.is_closed a.available a.line b.line s.0, λ i. record { available = s.1 i; is_closed = s.2 i; line = none_stays a.is_closed a.available a.line b.line s.0 i })

pub first_hands : (a b : Semaphore) (w : Waiter) → Pays a (Some w) b → Hands listed_by owed_by a (Some w.task) b
first_hands a b w s = (
  first_taken a.is_closed a.available w a.line b.line s.0 ∙ ap (λ c. w.task ∷ owed_of c a.available b.line) (sym s.2) ∙ ap (λ n. w.task ∷ owed_of b.is_closed n b.line) (sym s.1),
  of_line w.task a b (first_out a.is_closed a.available w a.line b.line s.0),
)

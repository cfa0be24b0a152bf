-- A sequence of calls of a semaphore.
use Rattle.std.specs.Prelude.{⊤, ◌≡◌, ◌+◌, ℕ, List, [], ◌∷◌, ◌++◌, Option, Result, Ok, Err, refl}
use Rattle.std.proofs.Common.{subst}
use Rattle.mono_sync.specs.declared.lines.Waiter.{Waiter}
use Rattle.mono_sync.specs.declared.semaphores.Semaphore.{Semaphore}
use Rattle.mono_sync.specs.declared.semaphores.TryAcquireError.{TryAcquireError}
use Rattle.mono_sync.specs.declared.semaphores.TooManyPermits.{TooManyPermits}
use Rattle.mono_sync.specs.declared.semaphores.Acquiring.{Acquiring}
use Rattle.mono_sync.specs.declared.semaphores.Acquiring.TheVariants as acquiring
use Rattle.mono_sync.specs.Semaphores.{TriesToAcquire, Acquires, Releases, GivesUp, Closes, Pays}

-- A call with its answer, or the wake of the first owed task.
pub data Event : Type 0 where
  tried : (answer : Result ⊤ TryAcquireError) → Event
  asked : (ticket : Option ℕ) → (task : ℕ) → (answer : Acquiring) → Event
  released : (answer : Result ⊤ TooManyPermits) → Event
  gave_up : (ticket : Option ℕ) → (task : ℕ) → Event
  closed : Event
  served : (first : Option Waiter) → Event

abbrev pub Step : Semaphore → Event → Semaphore → Type 0
Step a (tried r) b = TriesToAcquire a r b
Step a (asked ticket task r) b = Acquires a ticket task r b
Step a (released r) b = Releases a r b
Step a (gave_up ticket task) b = GivesUp a ticket task b
Step a closed b = Closes a b
Step a (served first) b = Pays a first b

abbrev pub Run : Semaphore → List Event → Semaphore → Type 0
Run a [] b = b ≡ a
Run a (e ∷ es) b = (m : Semaphore) × Step a e m × Run m es b

-- How many permits the call gave.
abbrev pub given_by : Event → ℕ
given_by (tried (Ok done)) = 1
given_by (tried (Err e)) = 0
given_by (asked ticket task acquiring.Acquired) = 1
given_by (asked ticket task acquiring.Closed) = 0
given_by (asked ticket task acquiring.Memory) = 0
given_by (asked ticket task (acquiring.Joined t)) = 0
given_by (asked ticket task acquiring.Waits) = 0
given_by (released r) = 0
given_by (gave_up ticket task) = 0
given_by closed = 0
given_by (served first) = 0

abbrev pub given : List Event → ℕ
given [] = 0
given (e ∷ es) = given_by e + given es

-- How many permits the call put back.
abbrev pub put_back_by : Event → ℕ
put_back_by (tried r) = 0
put_back_by (asked ticket task r) = 0
put_back_by (released (Ok done)) = 1
put_back_by (released (Err e)) = 0
put_back_by (gave_up ticket task) = 0
put_back_by closed = 0
put_back_by (served first) = 0

abbrev pub put_back : List Event → ℕ
put_back [] = 0
put_back (e ∷ es) = put_back_by e + put_back es

-- Calls lead from the first to the second.
pub record Leads (a b : Semaphore) : Type 0 where
  pub events : List Event
  pub run : Run a events b

pub leads_itself : (a : Semaphore) → Leads a a
leads_itself a = record { events = []; run = refl }

run_on : (xs ys : List Event) (a b c : Semaphore) → Run a xs b → Run b ys c → Run a (xs ++ ys) c
run_on [] ys a b c same more = subst (λ m. Run m ys c) same more
run_on (x ∷ xs) ys a b c (m, step, rest) more = (m, step, run_on xs ys m b c rest more)

pub leads_on : (a b c : Semaphore) → Leads a b → Leads b c → Leads a c
leads_on a b c p q = record { events = p.events ++ q.events; run = run_on p.events q.events a b c p.run q.run }

-- One call leads from the semaphore before it to the semaphore after it.
pub leads_by : (e : Event) (a b : Semaphore) → Step a e b → Leads a b
leads_by e a b step = record { events = e ∷ []; run = (b, step, refl) }

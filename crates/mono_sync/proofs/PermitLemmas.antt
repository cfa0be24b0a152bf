-- No permit is lost, and none is made.
use Rattle.std.proofs.Common.{◌≡◌, ◌+◌, [], ◌∷◌, Ok, Err, ap, arith}
use Rattle.mono_sync.specs.declared.semaphores.Semaphore.{Semaphore}
use Rattle.mono_sync.specs.declared.semaphores.TryAcquireError.TheVariants.{NoPermits, Closed}
use Rattle.mono_sync.specs.declared.semaphores.Acquiring.TheVariants as acquiring
use Rattle.mono_sync.specs.SemaphoreRuns.{Event, tried, asked, released, gave_up, closed, served, Step, given_by, put_back_by}
use Rattle.mono_sync.specs.Laws.{PermitsAreKept}

same_permits : (a b : Semaphore) → b ≡ a → 0 + b.available ≡ a.available + 0
same_permits a b same = let h : b.available ≡ a.available = ap (λ s. s.available) same in omega (arith, h)

step_keeps : (e : Event) (a b : Semaphore) → Step a e b → given_by e + b.available ≡ a.available + put_back_by e
step_keeps (tried (Ok done)) a b s = omega (arith, s.2)
step_keeps (tried (Err Closed)) a b s = same_permits a b s.1
step_keeps (tried (Err NoPermits)) a b s = same_permits a b s.2
step_keeps (asked ticket task acquiring.Waits) a b s = omega (arith, s.2)
step_keeps (asked ticket task acquiring.Closed) a b s = omega (arith, s.2)
step_keeps (asked ticket task acquiring.Acquired) a b s = omega (arith, s.2)
step_keeps (asked ticket task acquiring.Memory) a b s = omega (arith, s.2)
step_keeps (asked ticket task (acquiring.Joined t)) a b s = omega (arith, s.2)
step_keeps (released (Ok done)) a b s = omega (arith, s.1)
step_keeps (released (Err e)) a b s = same_permits a b s.1
step_keeps (gave_up ticket task) a b s = omega (arith, s.0)
step_keeps closed a b s = omega (arith, s.0)
step_keeps (served first) a b s = omega (arith, s.1)

pub kept : PermitsAreKept
kept [] a b run = same_permits a b run
kept (e ∷ es) a b (m, step, rest) = omega (arith, step_keeps e a m step, kept es m b rest)

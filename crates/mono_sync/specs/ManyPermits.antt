-- Several permits in one call.
use Rattle.std.specs.Prelude.{⊤, true, false, ◌≡◌, ◌<◌, ◌≤◌, ◌+◌, ◌-◌, MatchBool, if◌then◌else◌, nat_lt, ℕ, length, Result, Ok, Err}
use Rattle.mono_sync.specs.declared.semaphores.Semaphore.{Semaphore}
use Rattle.mono_sync.specs.declared.semaphores.TryAcquireError.{TryAcquireError}
use Rattle.mono_sync.specs.declared.semaphores.TryAcquireError.TheVariants.{NoPermits, Closed}
use Rattle.mono_sync.specs.declared.semaphores.TooManyPermits.{TooManyPermits}
use Rattle.mono_sync.specs.declared.semaphores.TheConstants.{MAX_PERMITS}

-- The lesser of two numbers.
abbrev pub lesser_of : ℕ → ℕ → ℕ
lesser_of n m = if nat_lt m n then m else n

-- How many permits are neither held, nor reserved, nor owed to a task that waits.
abbrev pub free_permits : Semaphore → ℕ
free_permits a = a.available - (a.line.granted + length a.line.waiters.items)

-- There are n permits more, unless that is more than the maximum.
abbrev pub AddsPermits : Semaphore → ℕ → Result ⊤ TooManyPermits → Semaphore → Type 0
AddsPermits a n (Ok done) b = (n ≤ MAX_PERMITS - a.available) × (b.available ≡ a.available + n) × (b.line ≡ a.line) × (b.is_closed ≡ a.is_closed)
AddsPermits a n (Err e) b = (MAX_PERMITS - a.available < n) × (b ≡ a)

-- There are n permits fewer, if so many are free.
abbrev pub TakesPermits : Semaphore → ℕ → Semaphore → Type 0
TakesPermits a n b = (a.is_closed ≡ false) × (n ≤ free_permits a) × (b.available + n ≡ a.available) × (b.line ≡ a.line) × (b.is_closed ≡ false)

abbrev pub TriesToAcquireMany : Semaphore → ℕ → Result ⊤ TryAcquireError → Semaphore → Type 0
TriesToAcquireMany a n (Ok done) b = TakesPermits a n b
TriesToAcquireMany a n (Err Closed) b = (a.is_closed ≡ true) × (b ≡ a)
TriesToAcquireMany a n (Err NoPermits) b = (a.is_closed ≡ false) × (free_permits a < n) × (b ≡ a)

-- Of n permits as many are forgotten as are free; none once the semaphore was closed.
abbrev pub ForgetsPermits : Semaphore → ℕ → ℕ → Semaphore → Type 0
ForgetsPermits a n forgotten b = MatchBool a.is_closed ((forgotten ≡ 0) × (b ≡ a)) ((forgotten ≡ lesser_of n (free_permits a)) × TakesPermits a forgotten b)

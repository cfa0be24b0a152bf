-- The effect of each call on the sleep at a key, and on the wheel.
use Rattle.std.specs.Prelude.{◌≡◌, ◌≢◌, ◌<◌, ◌≤◌, ◌-◌, ◌⊎◌, ℕ, Bool, true, false, Option, None}
use Rattle.mono_wheel.specs.Model.{Wheel, timed_at}
use Rattle.mono_wheel.specs.Credit.{most_takes}
use Rattle.mono_time.specs.Entries.{waker_in_state}
use Rattle.mono_time.specs.Representation.{KeepsBut, ArmedAnew, Rearmed}
use Rattle.mono_time.specs.declared.entry.State.{State}
use Rattle.mono_time.specs.declared.entry.State.TheVariants.{Fresh, Unwatched, Armed, Elapsed}

-- The key is out of the wheel, and all else stays.
pub record Out (old new : Wheel) (key : ℕ) : Type 0 where
  pub gone : timed_at new key ≡ None
  pub others : (other : ℕ) → other ≢ key → timed_at new other ≡ timed_at old other
  pub keeps : KeepsBut old new key
  pub elapsed : new.elapsed ≡ old.elapsed

-- A poll by a task, with its answer: a fresh sleep is armed, or has elapsed if its tick has come.
abbrev pub PolledEntry : Wheel → Wheel → ℕ → ℕ → ℕ → State → State → Bool → Type 0
PolledEntry old new key greatest by (Fresh tick) left is_ready =
    ((tick ≤ greatest) × (new ≡ old) × (left ≡ Elapsed) × (is_ready ≡ true))
    ⊎ ((greatest < tick) × ArmedAnew old new key tick × (left ≡ Armed by) × (is_ready ≡ false))
PolledEntry old new key greatest by Unwatched left is_ready = (new ≡ old) × (left ≡ Armed by) × (is_ready ≡ false)
PolledEntry old new key greatest by (Armed task) left is_ready = (new ≡ old) × (left ≡ Armed by) × (is_ready ≡ false)
PolledEntry old new key greatest by Elapsed left is_ready = (new ≡ old) × (left ≡ Elapsed) × (is_ready ≡ true)

-- By how much a poll may raise the wheel's credit, since it arms a fresh sleep.
abbrev pub entry_raise : ℕ → State → ℕ
entry_raise reached (Fresh tick) = most_takes (tick - reached)
entry_raise reached Unwatched = 0
entry_raise reached (Armed task) = 0
entry_raise reached Elapsed = 0

-- The sleep is armed at a tick above the greatest. An armed sleep keeps its waker.
abbrev pub PutAt : Wheel → Wheel → ℕ → ℕ → State → State → Type 0
PutAt old new key tick (Fresh before) left = (left ≡ Unwatched) × ArmedAnew old new key tick
PutAt old new key tick Unwatched left = (left ≡ Unwatched) × Rearmed old new key tick
PutAt old new key tick (Armed task) left = (left ≡ Armed task) × Rearmed old new key tick
PutAt old new key tick Elapsed left = (left ≡ Unwatched) × ArmedAnew old new key tick

-- A reset to a tick, with the waker that it hands out if the sleep elapses at once.
abbrev pub ResetEntry : Wheel → Wheel → ℕ → ℕ → ℕ → State → State → Option ℕ → Type 0
ResetEntry old new key greatest tick state left woken =
    ((tick ≤ greatest) × (left ≡ Elapsed) × (woken ≡ waker_in_state state) × Out old new key)
    ⊎ ((greatest < tick) × (woken ≡ None) × PutAt old new key tick state left)

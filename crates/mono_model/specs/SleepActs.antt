-- The answer of each call on the timers, and the sleeps of the reference machine afterwards.
use Rattle.std.specs.Prelude.{◌≡◌, ℕ, ⊤, max, Bool, true, false, if◌then◌else◌, Option, Some, None, Result, Ok, Err, nat_le}
use Rattle.mono_model.specs.Ticks.{up, down}
use Rattle.mono_model.specs.Table.{value_at, is_full, next_number}
use Rattle.mono_model.specs.Sleeps.{Sleeps, Sleep, fresh, armed, elapsed, waker_of, with_sleep, without_sleep, with_next_sleep, with_greatest, armed_anew, after_arming, woken_by_arming}
use Rattle.mono_model.specs.FireOrder.{IsFirstDue, IsNoneDue}
use Rattle.mono_model.specs.declared.poll.Poll.{Poll}
use Rattle.mono_model.specs.SleepAnswers.{poll_of}
use Rattle.mono_model.specs.declared.error.Error.{Error}
use Rattle.mono_model.specs.declared.error.Error.TheVariants.{Shutdown, AtCapacity, Invalid}
use Rattle.mono_model.specs.declared.error.SleepError.{SleepError}
use Rattle.mono_model.specs.declared.error.SleepError.TheVariants.{Memory, Timer}

-- The answer for a live sleep, or the refusal if there is none.
abbrev pub of_live : {A : Type 0} → Option Sleep → (Sleep → A) → Result A Error
of_live None answer = Err Shutdown
of_live (Some sleep) answer = Ok (answer sleep)

-- The sleeps after a call, which changes them only if it finds a live sleep.
abbrev pub if_live : Option Sleep → Sleeps → (Sleep → Sleeps) → Sleeps
if_live None sleeps after = sleeps
if_live (Some sleep) sleeps after = after sleep

abbrev pub added : Sleeps → ℕ → Sleeps
added sleeps nanos = with_next_sleep sleeps (fresh nanos)

-- Whether a poll is ready at the greatest tick so far. A poll arms a fresh sleep.
abbrev pub is_ready_at : ℕ → Sleep → Bool
is_ready_at greatest (fresh nanos) = nat_le (up nanos) greatest
is_ready_at greatest (armed a) = false
is_ready_at greatest elapsed = true

abbrev pub poll_answer : Sleeps → ℕ → Result (Poll ⊤) Error
poll_answer sleeps s = of_live (value_at sleeps.table s) (λ sleep. poll_of (is_ready_at sleeps.greatest sleep))

abbrev pub after_poll : Sleep → Sleeps → ℕ → ℕ → Sleeps
after_poll (fresh nanos) sleeps s by =
    if nat_le (up nanos) sleeps.greatest then with_sleep sleeps s elapsed else armed_anew sleeps s (up nanos) (Some by)
after_poll (armed a) sleeps s by = with_sleep sleeps s (armed (record { tick = a.tick; arm = a.arm; is_moved = a.is_moved; waker = Some by }))
after_poll elapsed sleeps s by = sleeps

abbrev pub polled : Sleeps → ℕ → ℕ → Sleeps
polled sleeps s by = if_live (value_at sleeps.table s) sleeps (λ sleep. after_poll sleep sleeps s by)

-- The answer of a reset, which arms the sleep at the tick of its new deadline.
abbrev pub reset_answer : Sleeps → ℕ → ℕ → Result (Option ℕ) Error
reset_answer sleeps s nanos = of_live (value_at sleeps.table s) (λ sleep. woken_by_arming sleep sleeps (up nanos))

abbrev pub reset : Sleeps → ℕ → ℕ → Sleeps
reset sleeps s nanos = if_live (value_at sleeps.table s) sleeps (λ sleep. after_arming sleep sleeps s (up nanos))

abbrev pub remove_answer : Sleeps → ℕ → Result ⊤ Error
remove_answer sleeps s = of_live (value_at sleeps.table s) (λ sleep. tt)

abbrev pub removed : Sleeps → ℕ → Sleeps
removed sleeps s = if_live (value_at sleeps.table s) sleeps (λ sleep. without_sleep sleeps s)

abbrev pub is_elapsed : Sleep → Bool
is_elapsed (fresh nanos) = false
is_elapsed (armed a) = false
is_elapsed elapsed = true

abbrev pub elapsed_answer : Sleeps → ℕ → Result Bool Error
elapsed_answer sleeps s = of_live (value_at sleeps.table s) is_elapsed

-- The sleeps once the clock shows n.
abbrev pub at_clock : Sleeps → ℕ → Sleeps
at_clock sleeps nanos = with_greatest sleeps (max sleeps.greatest (down nanos))

-- The sleeps after s has fired: s has elapsed, and its waker is handed out.
abbrev pub fired : Sleeps → ℕ → Sleeps
fired sleeps s = with_sleep sleeps s elapsed

abbrev pub waker_in : Option Sleep → Option ℕ
waker_in None = None
waker_in (Some sleep) = waker_of sleep

abbrev pub waker_at : Sleeps → ℕ → Option ℕ
waker_at sleeps s = waker_in (value_at sleeps.table s)

-- The answer of a call within a clock step: no sleep is due, or the first due sleep fires with its waker. `Left`
-- describes the sleeps afterwards.
abbrev pub Fires : Sleeps → Option (ℕ × Option ℕ) → (Sleeps → Type 0) → Type 0
Fires sleeps None Left = IsNoneDue sleeps.table sleeps.greatest × Left sleeps
Fires sleeps (Some (s, waker)) Left = IsFirstDue sleeps.table sleeps.greatest s × (waker ≡ waker_at sleeps s) × Left (fired sleeps s)

-- The answer of an addition: the next number; shutdown without timers; at capacity if no further sleep is given out; or
-- out of memory. `Left` describes the sleeps afterwards.
abbrev pub Adds : Bool → Sleeps → ℕ → Result ℕ SleepError → (Sleeps → Type 0) → Type 0
Adds is_enabled sleeps nanos (Ok number) Left = (is_enabled ≡ true) × (is_full sleeps.table sleeps.limit ≡ false) × (number ≡ next_number sleeps.table) × Left (added sleeps nanos)
Adds is_enabled sleeps nanos (Err (Timer Shutdown)) Left = (is_enabled ≡ false) × Left sleeps
Adds is_enabled sleeps nanos (Err (Timer AtCapacity)) Left = (is_enabled ≡ true) × (is_full sleeps.table sleeps.limit ≡ true) × Left sleeps
Adds is_enabled sleeps nanos (Err (Timer Invalid)) Left = ⊥
Adds is_enabled sleeps nanos (Err Memory) Left = (is_enabled ≡ true) × (is_full sleeps.table sleeps.limit ≡ false) × Left sleeps

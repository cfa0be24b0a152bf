-- The timers' view of each key, and the effect of each call.
use Rattle.std.specs.Prelude.{◌≡◌, ◌≢◌, ◌<◌, ◌≤◌, ℕ, Bool, true, false, Option, Some, None}
use Rattle.mono_wheel.specs.Model.{timed_at, is_reserved}
use Rattle.mono_actor.specs.Keys.{tick_in, number_in}
use Rattle.mono_actor.specs.declared.timers.Alarms.{Alarms}

-- The tick for which a key waits.
abbrev pub tick_at : Alarms → ℕ → Option ℕ
tick_at timers key = tick_in (timed_at timers.wheel key)

-- Whether the key is given out.
abbrev pub is_known : Alarms → ℕ → Bool
is_known timers key = is_reserved timers.wheel key

-- The number of the actor that has the key.
abbrev pub number_at : Alarms → ℕ → ℕ
number_at timers key = number_in timers.numbers.items key

-- This key waits for another tick, and all else stays.
pub record Sets (old new : Alarms) (key : ℕ) (tick : Option ℕ) : Type 0 where
  pub here : tick_at new key ≡ tick
  pub others : (other : ℕ) → other ≢ key → tick_at new other ≡ tick_at old other
  pub known : (other : ℕ) → is_known new other ≡ is_known old other
  pub numbers : (other : ℕ) → number_at new other ≡ number_at old other
  pub elapsed : new.wheel.elapsed ≡ old.wheel.elapsed

-- All stays.
pub record Stays (old new : Alarms) : Type 0 where
  pub ticks : (other : ℕ) → tick_at new other ≡ tick_at old other
  pub known : (other : ℕ) → is_known new other ≡ is_known old other
  pub numbers : (other : ℕ) → number_at new other ≡ number_at old other
  pub elapsed : new.wheel.elapsed ≡ old.wheel.elapsed

-- A further key is given out, for this number.
pub record Added (old new : Alarms) (number key : ℕ) : Type 0 where
  pub was_free : is_known old key ≡ false
  pub now_known : is_known new key ≡ true
  pub none : tick_at new key ≡ None
  pub its_number : number_at new key ≡ number
  pub ticks : (other : ℕ) → tick_at new other ≡ tick_at old other
  pub known : (other : ℕ) → other ≢ key → is_known new other ≡ is_known old other
  pub numbers : (other : ℕ) → other ≢ key → number_at new other ≡ number_at old other
  pub elapsed : new.wheel.elapsed ≡ old.wheel.elapsed

-- A key is freed.
pub record Freed (old new : Alarms) (key : ℕ) : Type 0 where
  pub now_free : is_known new key ≡ false
  pub ticks : (other : ℕ) → tick_at new other ≡ tick_at old other
  pub known : (other : ℕ) → other ≢ key → is_known new other ≡ is_known old other
  pub numbers : (other : ℕ) → number_at new other ≡ number_at old other
  pub elapsed : new.wheel.elapsed ≡ old.wheel.elapsed

-- No key waits for a tick up to now.
pub record NoneRings (old new : Alarms) (now : ℕ) : Type 0 where
  pub none : (key tick : ℕ) → tick_at old key ≡ Some tick → now < tick
  pub elapsed : new.wheel.elapsed ≡ now
  pub ticks : (other : ℕ) → tick_at new other ≡ tick_at old other
  pub known : (other : ℕ) → is_known new other ≡ is_known old other
  pub numbers : (other : ℕ) → number_at new other ≡ number_at old other

-- A key of the actor with this number waited for the least tick, which is at most now, and waits no longer.
pub record Rings (old new : Alarms) (now number : ℕ) : Type 0 where
  pub key : ℕ
  pub its_number : number ≡ number_at old key
  pub due : tick_at old key ≡ Some new.wheel.elapsed
  pub come : new.wheel.elapsed ≤ now
  pub least : (other tick : ℕ) → tick_at old other ≡ Some tick → new.wheel.elapsed ≤ tick
  pub gone : tick_at new key ≡ None
  pub others : (other : ℕ) → other ≢ key → tick_at new other ≡ tick_at old other
  pub known : (other : ℕ) → is_known new other ≡ is_known old other
  pub numbers : (other : ℕ) → number_at new other ≡ number_at old other

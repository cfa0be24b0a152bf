-- The refinement of the reference machine's sleeps by a table of timers.
use Rattle.std.specs.Prelude.{◌≡◌, ◌≢◌, ◌<◌, ℕ, true, false, List, Some, map, length}
use Rattle.std.specs.Option.{option_map}
use Rattle.mono_model.specs.Ticks.{up}
use Rattle.mono_model.specs.Table.{Table, value_at, table_of}
use Rattle.mono_model.specs.Sleeps as model
use Rattle.mono_model.specs.Sleeps.{Sleeps, Arming}
use Rattle.mono_wheel.specs.Model.{Wheel, timed_at, Precedes}
use Rattle.mono_time.specs.Sleeps.{Kept, fresh, armed, elapsed}
use Rattle.mono_time.specs.Representation.{kept_at}
use Rattle.mono_time.specs.Timers.{sleeps_of}
use Rattle.mono_time.specs.declared.entry.Entry.{Entry}
use Rattle.mono_time.specs.declared.timers.Timers.{Timers}

-- A sleep of the machine as callers of the timers see it: without its arm number, and a fresh one with its tick.
abbrev pub seen : model.Sleep → Kept
seen (model.fresh nanos) = fresh (up nanos)
seen (model.armed a) = armed a.tick a.waker
seen model.elapsed = elapsed

-- The sleeps are the machine's, without the arm numbers. An unmoved sleep is registered at its tick. Of two unmoved
-- sleeps at one tick, the one that was armed first comes first. No two arm numbers are equal.
pub record Standing (wheel : Wheel) (keys : Table ℕ) (entries : List Entry) (greatest limit : ℕ) (sleeps : Sleeps) : Type 0 where
  pub table : map (option_map seen) sleeps.table ≡ table_of (kept_at wheel keys entries) (length keys)
  pub same_greatest : sleeps.greatest ≡ greatest
  pub same_limit : sleeps.limit ≡ limit
  pub arms_below : (s : ℕ) (a : Arming) → value_at sleeps.table s ≡ Some (model.armed a) → a.arm < sleeps.arm_count
  pub arms_differ : (s q : ℕ) (a b : Arming) → s ≢ q → value_at sleeps.table s ≡ Some (model.armed a) → value_at sleeps.table q ≡ Some (model.armed b) → a.arm ≢ b.arm
  pub registered : (s k : ℕ) (a : Arming) → value_at sleeps.table s ≡ Some (model.armed a) → a.is_moved ≡ false → value_at keys s ≡ Some k
      → timed_at wheel k ≡ Some record { tick = a.tick; registered = a.tick }
  pub in_order : (s q k j : ℕ) (a b : Arming) → value_at sleeps.table s ≡ Some (model.armed a) → value_at sleeps.table q ≡ Some (model.armed b)
      → a.is_moved ≡ false → b.is_moved ≡ false → value_at keys s ≡ Some k → value_at keys q ≡ Some j
      → a.tick ≡ b.tick → a.arm < b.arm → Precedes wheel k j

abbrev pub StandsForSleeps : Timers → Sleeps → Type 0
StandsForSleeps timers sleeps = Standing timers.wheel timers.keys timers.entries.items timers.greatest timers.limit sleeps

-- There are timers, and their table refines the machine's sleeps.
pub record Keeps (timers : Timers) (sleeps : Sleeps) : Type 0 where
  pub stands : StandsForSleeps timers sleeps
  pub is_enabled : (sleeps_of timers).is_enabled ≡ true

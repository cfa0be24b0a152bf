-- The tick that the clock reaches once it is at a slot: the slot's start, or the tick of the only key in it.
use Rattle.std.specs.Prelude.{◌≡◌, ℕ, ◌+◌, ◌^◌, ◌<◌, ◌≤◌, ◌⊎◌, List, [], ◌∷◌, Option, Some}
use Rattle.mono_wheel.specs.Start.{taken_list}
use Rattle.mono_wheel.specs.Lists.{Lists, list_at}
use Rattle.mono_wheel.specs.Model.{Timed}
use Rattle.mono_wheel.specs.Credit.{takes}
use Rattle.mono_wheel.specs.Holdings.{timed_in}
use Rattle.mono_wheel.specs.declared.entry.Entry.{Entry}

-- The ticks of a key that is registered at its true tick.
abbrev pub at_tick : ℕ → Option Timed
at_tick tick = Some record { tick = tick; registered = tick }

-- Only one key waits to be registered anew, and the clock moves from the start of its slot to a tick within that slot,
-- at most the key's. The steps grow by as often as the key would be taken on the way.
pub record GoesOn (begin now level : ℕ) (entries : List Entry) (links : Lists) (before after to : ℕ) : Type 0 where
  pub key : ℕ
  pub timed : Timed
  pub alone : list_at links taken_list ≡ key ∷ []
  pub is : timed_in entries key ≡ Some timed
  pub later : begin ≤ to
  pub by : to ≤ now
  pub within : to < begin + 64 ^ level
  pub waits : to ≤ timed.tick
  pub counted : after + takes to (at_tick timed.tick) ≡ before + takes begin (at_tick timed.tick)

-- The clock stays at the start of the slot, and no step is counted, or it moves on for the only key that waits.
abbrev pub ComesTo : ℕ → ℕ → ℕ → List Entry → Lists → ℕ → ℕ → ℕ → Type 0
ComesTo begin now level entries links before after to =
    ((to ≡ begin) × (after ≡ before)) ⊎ GoesOn begin now level entries links before after to

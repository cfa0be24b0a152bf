use Rattle.std.proofs.Common.{◌≡◌, take}
use Rattle.mono_sim.specs.Waits.{least_tick}
use Rattle.mono_sim.proofs.waits.least_tick.Given as goal

-- the least of those so far
abbrev pub invariant-loop-wait : goal.invariant-loop-wait
invariant-loop-wait l = l.least ≡ least_tick (take l.wait-index l.waits)

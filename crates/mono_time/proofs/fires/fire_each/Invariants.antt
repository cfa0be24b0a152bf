use Rattle.std.proofs.Common.{◌≤◌, ◌+◌}
use Rattle.std.specs.Prelude.{vec_len, vec_capacity}
use Rattle.mono_time.specs.Instants.{nanos_of}
use Rattle.mono_time.specs.Sleeps.{armed_count}
use Rattle.mono_time.specs.Timers.{sleeps_of}
use Rattle.mono_time.proofs.ClockStepLemmas.{SoFar}
use Rattle.mono_time.proofs.ClockMoveLemmas.{Passed}
use Rattle.mono_time.proofs.fires.fire_each.Given as goal

abbrev pub invariant-loop-one : goal.invariant-loop-one
invariant-loop-one g l = SoFar l.fn.timers l.timers (nanos_of l.now) l.fn.fired.items l.fired.items × (vec_len l.fired + armed_count (sleeps_of l.timers) ≤ vec_capacity l.fired) × Passed l.fn.timers l.timers

abbrev pub decreases-loop-one : goal.decreases-loop-one
decreases-loop-one g l = armed_count (sleeps_of l.timers)

use Rattle.std.proofs.Common.{◌≤◌, ◌-◌, take, length}
use Rattle.mono_wheel.specs.Calls.{AllMade}
use Rattle.mono_wheel.proofs.laws.run_calls.Given as goal

abbrev pub invariant-loop-at : goal.invariant-loop-at
invariant-loop-at g l = (l.at ≤ length l.calls.items) × AllMade l.fn.wheel l.wheel (take l.at l.calls.items) l.fn.steps l.steps

abbrev pub decreases-loop-at : goal.decreases-loop-at
decreases-loop-at g l = length l.calls.items - l.at

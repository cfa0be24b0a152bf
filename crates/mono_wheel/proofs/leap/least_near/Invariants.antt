use Rattle.std.proofs.Common.{ℕ, ◌<◌, ◌≤◌, get_or}
use Rattle.mono_wheel.specs.Holdings.{timed_in}
use Rattle.mono_wheel.proofs.LeapLemmas.{IsBelow}
use Rattle.mono_wheel.proofs.leap.least_near.Given as goal

abbrev pub invariant-loop-place : goal.invariant-loop-place
invariant-loop-place l = (l.least ≤ l.limit) × ((before : ℕ) → before < l.place → IsBelow l.least (timed_in l.links.table.entries (get_or l.near before 0)))

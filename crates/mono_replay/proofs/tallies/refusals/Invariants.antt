use Rattle.std.proofs.Common.{◌≡◌, ◌+◌, ◌-◌, ◌≤◌, drop, length}
use Rattle.mono_replay.specs.Load.{total_of, refusal_in}
use Rattle.mono_replay.proofs.tallies.refusals.Given as goal

abbrev pub invariant-replies : goal.invariant-replies
invariant-replies l = (l.count + total_of refusal_in (drop l.i l.replies) ≡ total_of refusal_in l.replies) × (l.count ≤ l.i)

abbrev pub decreases-replies : goal.decreases-replies
decreases-replies l = length l.replies - l.i

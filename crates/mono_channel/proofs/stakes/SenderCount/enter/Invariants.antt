use Rattle.std.proofs.Common.{◌≡◌}
use Rattle.mono_channel.specs.Stakes.{IsStakeOf}
use Rattle.mono_channel.proofs.stakes.SenderCount.enter.Given as goal

-- the stake counts for as many as it did
abbrev pub invariant-loop : goal.invariant-loop
invariant-loop g l = IsStakeOf l.initial.self l.stake × (l.stake.me.0 ≡ l.initial.stake.me.0)

use Rattle.std.proofs.Common.{◌-◌, ◌≤◌}
use Rattle.mono_replay.specs.declared.executor.Exec.{Exec}
use Rattle.mono_replay.specs.Load.{Goes, sleepers}
use Rattle.mono_replay.specs.declared.tallies.Tally.{Tally}
use Rattle.mono_replay.proofs.loads.all_sleepers.Given as goal

-- a run continued by the remaining sleepers is a run of all of them
abbrev pub invariant-sleepers : goal.invariant-sleepers
invariant-sleepers l = (z : Exec) (c : Tally) → Goes l.exec l.sum (sleepers l.k (l.fn.count - l.k) l.draws) z c → Goes l.fn.exec l.fn.sum (sleepers 0 l.fn.count l.fn.random) z c

abbrev pub decreases-sleepers : goal.decreases-sleepers
decreases-sleepers l = l.fn.count - l.k

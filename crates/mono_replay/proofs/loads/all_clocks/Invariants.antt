use Rattle.std.proofs.Common.{◌-◌, ◌≤◌}
use Rattle.mono_replay.specs.declared.executor.Exec.{Exec}
use Rattle.mono_replay.specs.Load.{Goes, clocks}
use Rattle.mono_replay.specs.declared.tallies.Tally.{Tally}
use Rattle.mono_replay.proofs.loads.all_clocks.Given as goal

abbrev pub invariant-clocks : goal.invariant-clocks
invariant-clocks l = (z : Exec) (c : Tally) → Goes l.exec l.sum (clocks l.j (17 - l.j)) z c → Goes l.fn.exec l.fn.sum (clocks 1 16) z c

abbrev pub decreases-clocks : goal.decreases-clocks
decreases-clocks l = 17 - l.j

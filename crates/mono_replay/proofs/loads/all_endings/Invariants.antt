use Rattle.mono_replay.specs.declared.executor.Exec.{Exec}
use Rattle.mono_replay.specs.Load.{Goes, endings}
use Rattle.mono_replay.specs.declared.tallies.Tally.{Tally}
use Rattle.mono_replay.proofs.loads.all_endings.Given as goal

abbrev pub invariant-endings : goal.invariant-endings
invariant-endings l = (z : Exec) (c : Tally) → Goes l.exec l.sum (endings l.left) z c → Goes l.fn.exec l.fn.sum (endings l.fn.count) z c

abbrev pub decreases-endings : goal.decreases-endings
decreases-endings l = l.left

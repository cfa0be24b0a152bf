use Rattle.std.proofs.Common.{length}
use Rattle.mono_run.proofs.LineCutLemmas.{Counted}
use Rattle.mono_run.proofs.parser.pieces.count_tasks.Given as goal

abbrev pub invariant-lines : goal.invariant-lines
invariant-lines l = Counted l.input l.count l.pieces.rest.now

abbrev pub decreases-lines : goal.decreases-lines
decreases-lines l = length l.pieces.rest.now

use Rattle.std.proofs.Common.{length}
use Rattle.mono_run.proofs.FrontLemmas.{Progress}
use Rattle.mono_run.proofs.parser.reader.read_script.Given as goal

abbrev pub invariant-lines : goal.invariant-lines
invariant-lines l = Progress l.input l.kinds l.front l.count l.pieces.rest.now

abbrev pub decreases-lines : goal.decreases-lines
decreases-lines l = length l.pieces.rest.now

use Rattle.std.proofs.Common.{◌≡◌, length}
use Rattle.mono_text.specs.Lines.{lines}
use Rattle.mono_text.specs.Scripts.{kinds_from}
use Rattle.mono_text.proofs.scripts.kinds_in.Given as goal

abbrev pub invariant-lines : goal.invariant-lines
invariant-lines l = kinds_from l.count (lines l.rest) ≡ kinds_from 0 (lines l.input)

abbrev pub decreases-lines : goal.decreases-lines
decreases-lines l = length l.rest

use Rattle.std.proofs.Common.{◌≡◌, length, false}
use Rattle.mono_text.specs.Lines.{lines}
use Rattle.mono_text.specs.Scripts.{seen_before, seen_of}
use Rattle.mono_text.proofs.scripts.seen_before.Given as goal

abbrev pub invariant-lines : goal.invariant-lines
invariant-lines l = seen_before l.left (lines l.rest) l.seen ≡ seen_before l.n (lines l.input) (seen_of false 0 0 0 0)

abbrev pub decreases-lines : goal.decreases-lines
decreases-lines l = length l.rest

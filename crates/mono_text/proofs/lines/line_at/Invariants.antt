use Rattle.std.proofs.Common.{◌≡◌, length}
use Rattle.mono_text.specs.Lines.{lines}
use Rattle.mono_text.specs.Words.{line_at}
use Rattle.mono_text.proofs.lines.line_at.Given as goal

abbrev pub invariant-lines : goal.invariant-lines
invariant-lines l = line_at l.left (lines l.rest) ≡ line_at l.initial.n (lines l.initial.input)

abbrev pub decreases-lines : goal.decreases-lines
decreases-lines l = length l.rest

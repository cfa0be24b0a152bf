use Rattle.std.proofs.Common.{◌≡◌, length}
use Rattle.mono_text.specs.Words.{words}
use Rattle.mono_text.specs.Reasons.{first_wrong_part}
use Rattle.mono_text.proofs.reasons.first_wrong_part.Given as goal

abbrev pub invariant-words : goal.invariant-words
invariant-words l = first_wrong_part (words l.parts) l.previous (words l.rest) ≡ first_wrong_part (words l.parts) l.first (words l.others)

abbrev pub decreases-words : goal.decreases-words
decreases-words l = length l.rest

use Rattle.std.proofs.Common.{◌≡◌, length, []}
use Rattle.mono_text.specs.Words.{words}
use Rattle.mono_text.specs.ReasonTexts.{told_forms}
use Rattle.mono_text.specs.Reasons.{first_wrong}
use Rattle.mono_text.proofs.reasons.first_wrong.Given as goal

abbrev pub invariant-words : goal.invariant-words
invariant-words l =
    first_wrong (told_forms l.forms) l.first l.head l.place l.older l.previous (words l.rest) ≡ first_wrong (told_forms l.forms) l.first l.first 0 [] l.first (words l.others)

abbrev pub decreases-words : goal.decreases-words
decreases-words l = length l.rest

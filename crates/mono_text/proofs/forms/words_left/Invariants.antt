use Rattle.std.proofs.Common.{◌≡◌, length}
use Rattle.mono_text.specs.Words.{words}
use Rattle.mono_text.specs.Forms.{count_from}
use Rattle.mono_text.proofs.forms.words_left.Given as goal

abbrev pub invariant-words : goal.invariant-words
invariant-words l = count_from l.count (words l.rest) ≡ count_from 0 (words l.bytes)

abbrev pub decreases-words : goal.decreases-words
decreases-words l = length l.rest

use Rattle.std.proofs.Common.{◌≡◌, length}
use Rattle.mono_text.specs.Words.{words}
use Rattle.mono_text.specs.Forms.{most_words}
use Rattle.mono_text.proofs.forms.most_words.Given as goal

abbrev pub invariant-words : goal.invariant-words
invariant-words l = most_words l.most (words l.rest) l.word ≡ most_words 0 (words l.forms) l.word

abbrev pub decreases-words : goal.decreases-words
decreases-words l = length l.rest

use Rattle.std.proofs.Common.{◌≡◌, length}
use Rattle.mono_text.specs.Words.{is_among, words}
use Rattle.mono_text.proofs.words.is_among.Given as goal

abbrev pub invariant-words : goal.invariant-words
invariant-words l = is_among l.word (words l.rest) ≡ is_among l.word (words l.text)

abbrev pub decreases-words : goal.decreases-words
decreases-words l = length l.rest

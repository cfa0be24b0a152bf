use Rattle.std.proofs.Common.{◌≡◌, length}
use Rattle.mono_text.specs.Words.{are_digits}
use Rattle.mono_text.proofs.words.are_digits.Given as goal

abbrev pub invariant-bytes : goal.invariant-bytes
invariant-bytes l = are_digits l.rest ≡ are_digits l.word

abbrev pub decreases-bytes : goal.decreases-bytes
decreases-bytes l = length l.rest

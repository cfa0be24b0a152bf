use Rattle.std.proofs.Common.{◌≡◌, length}
use Rattle.mono_text.specs.Words.{arrow_behind}
use Rattle.mono_text.proofs.words.has_arrow.Given as goal

abbrev pub invariant-bytes : goal.invariant-bytes
invariant-bytes l = arrow_behind l.previous l.rest ≡ arrow_behind 0 l.word

abbrev pub decreases-bytes : goal.decreases-bytes
decreases-bytes l = length l.rest

use Rattle.std.proofs.Common.{◌≡◌, length, false}
use Rattle.mono_text.specs.Words.{words}
use Rattle.mono_text.specs.Reasons.{ends_from}
use Rattle.mono_text.proofs.reasons.ends_from.Given as goal

abbrev pub invariant-words : goal.invariant-words
invariant-words l = ends_from (words l.ends) l.has_end l.previous (words l.rest) ≡ ends_from (words l.ends) false l.first (words l.others)

abbrev pub decreases-words : goal.decreases-words
decreases-words l = length l.rest

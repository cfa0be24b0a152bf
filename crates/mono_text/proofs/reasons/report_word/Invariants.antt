use Rattle.std.proofs.Common.{◌≡◌, length}
use Rattle.mono_text.specs.Words.{words}
use Rattle.mono_text.specs.Reasons.{report_word}
use Rattle.mono_text.proofs.reasons.report_word.Given as goal

abbrev pub invariant-words : goal.invariant-words
invariant-words l = report_word (words l.rest) ≡ report_word (words l.line)

abbrev pub decreases-words : goal.decreases-words
decreases-words l = length l.rest

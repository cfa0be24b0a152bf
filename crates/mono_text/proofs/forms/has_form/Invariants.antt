use Rattle.std.proofs.Common.{◌≡◌, length}
use Rattle.mono_text.specs.Words.{words}
use Rattle.mono_text.specs.Forms.{has_form}
use Rattle.mono_text.proofs.forms.has_form.Given as goal

abbrev pub invariant-words : goal.invariant-words
invariant-words l = has_form (words l.rest) l.word l.count ≡ has_form (words l.forms) l.word l.count

abbrev pub decreases-words : goal.decreases-words
decreases-words l = length l.rest

use Rattle.std.proofs.Common.{◌≡◌, drop}
use Rattle.mono_text.specs.Parser.{word_at}
use Rattle.mono_text.proofs.reader.begins_with.Given as goal

abbrev pub invariant-bytes : goal.invariant-bytes
invariant-bytes l = word_at l.fn.word l.fn.text ≡ word_at (drop l.i l.word) (drop l.i l.text)

use Rattle.std.proofs.Common.{◌≡◌, ◌^◌, drop}
use Rattle.mono_text.specs.Parser.{digits_from}
use Rattle.mono_text.proofs.reader.Reader.long_number.Given as goal

abbrev pub invariant-digits : goal.invariant-digits
invariant-digits l = digits_from (2 ^ 64) 0 0 l.text ≡ digits_from (2 ^ 64) l.value l.i (drop l.i l.text)

use Rattle.std.proofs.Common.{◌≡◌, ◌^◌, drop}
use Rattle.mono_text.specs.Parser.{digits_from}
use Rattle.mono_text.proofs.reader.Reader.long_nanos.Given as goal

abbrev pub invariant-digits : goal.invariant-digits
invariant-digits l = digits_from (2 ^ 128) 0 0 l.text ≡ digits_from (2 ^ 128) l.value l.i (drop l.i l.text)

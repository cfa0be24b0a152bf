use Rattle.std.proofs.Common.{◌≡◌, ◌^◌, ◌<◌, drop}
use Rattle.mono_text.specs.Parser.{digits_from}
use Rattle.mono_text.proofs.reader.Reader.number.Given as goal

-- no digit is lost, only the first of all could be a zero that leads, and the value has no more digits than were read
abbrev pub invariant-digits : goal.invariant-digits
invariant-digits l = (digits_from (2 ^ 64) 0 0 l.text ≡ digits_from (2 ^ 64) l.value l.i (drop l.i l.text)) × (0 < l.i → 0 < l.value) × (l.value < 10 ^ l.i)

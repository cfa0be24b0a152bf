use Rattle.std.proofs.Common.{◌≡◌, ◌^◌, true, false, rules, arith, slice_index, sym, ◌∙◌, length}
use Rattle.std.specs.Char.{is_ascii_digit}
use Rattle.mono_text.proofs.DigitLemmas.{digits-next, digits-over, digits-stop, digits-zero, ends_give, ends_all}
use Rattle.mono_text.proofs.reader.Reader.long_nanos.Goals as goal

pub returns-then-not-is_ascii_digit : goal.returns-then-not-is_ascii_digit
returns-then-not-is_ascii_digit c =
    let d : is_ascii_digit (slice_index c.args.text.now c.digits.i) ≡ false = search rules in
    ends_give (2 ^ 128) c.digits.value c.digits.i c.args.text.now c.end.new.self.rest.now c.end.result
    (c.digits.invariant ∙ digits-stop (2 ^ 128) c.digits.value c.digits.i c.args.text.now c.digits.i c.digits-test.true d) c.end.ensures.value c.end.ensures.rest

pub returns-then-is_zero : goal.returns-then-is_zero
returns-then-is_zero c =
    let d : is_ascii_digit (slice_index c.args.text.now c.digits.i) ≡ true = sym c.if-not-is_ascii_digit.ensures.value in
    c.digits.invariant ∙ digits-zero (2 ^ 128) c.digits.value c.digits.i c.args.text.now c.digits.i c.digits-test.true d (sym c.if-is_zero.ensures)

pub returns-in_default : goal.returns-in_default
returns-in_default c =
    let d : is_ascii_digit (slice_index c.args.text.now c.digits.i) ≡ true = sym c.if-not-is_ascii_digit.ensures.value in
    c.digits.invariant ∙ digits-over (2 ^ 128) c.digits.value c.digits.i c.args.text.now c.digits.i c.digits-test.true d c.in_default.ensures.none

pub digits-preserved : goal.digits-preserved
digits-preserved c =
    let d : is_ascii_digit (slice_index c.args.text.now c.digits.i) ≡ true = sym c.if-not-is_ascii_digit.ensures.value in
    let sum = c.in-Some.ensures.some in
    rw sum.0 (c.digits.invariant ∙ digits-next (2 ^ 128) c.digits.value c.digits.i c.args.text.now c.digits.i c.digits-test.true d (sym c.if-is_zero.ensures) (rw sum.0 at sum.1))

pub returns : goal.returns
returns c =
    let all : c.digits.i ≡ length c.args.text.now = omega arith in
    ends_all (2 ^ 128) c.digits.value c.digits.i c.args.text.now c.end-2.new.self.rest.now c.end-2.result all c.digits.invariant c.end-2.ensures.value c.end-2.ensures.rest

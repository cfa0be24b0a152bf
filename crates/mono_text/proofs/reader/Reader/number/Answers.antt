use Rattle.std.proofs.Common.{◌≡◌, ◌^◌, ◌+◌, ◌-◌, ◌*◌, ◌<◌, ◌≤◌, true, false, rules, arith, slice_index, sym, ◌∙◌, length}
use Rattle.std.specs.Char.{is_ascii_digit}
use Rattle.mono_text.proofs.DigitLemmas.{digits-next, digits-stop, plain_digit, more_digit, one_more, below_both, at_first, ends_give, ends_all}
use Rattle.mono_text.proofs.reader.Reader.number.Goals as goal

pub returns-then-not-is_ascii_digit : goal.returns-then-not-is_ascii_digit
returns-then-not-is_ascii_digit c =
    let text = c.args.self.now.rest.now in
    let d : is_ascii_digit (slice_index text c.digits.i) ≡ false = search rules in
    let less = below_both c.digits.i (length text) 18 c.min-i-end.result c.min-i-end.ensures c.digits-test.true in
    ends_give (2 ^ 64) c.digits.value c.digits.i text c.end.new.self.rest.now c.end.result
    (c.digits.invariant.0 ∙ digits-stop (2 ^ 64) c.digits.value c.digits.i text c.digits.i less.0 d) c.end.ensures.value c.end.ensures.rest

pub overflow_mul-value : goal.overflow_mul-value
overflow_mul-value c =
    let text = c.args.self.now.rest.now in
    let d : is_ascii_digit (slice_index text c.digits.i) ≡ true = sym c.if-not-is_ascii_digit.ensures.value in
    let range : (48 ≤ slice_index text c.digits.i) × (slice_index text c.digits.i ≤ 57) = grind arith in
    let less = below_both c.digits.i (length text) 18 c.min-i-end.result c.min-i-end.ensures c.digits-test.true in
    let small = one_more c.digits.value c.digits.i (slice_index text c.digits.i) c.digits.invariant.2 less.1 range.0 range.1 in
    omega (arith, small.1)

pub overflow_add-value : goal.overflow_add-value
overflow_add-value c =
    let text = c.args.self.now.rest.now in
    let d : is_ascii_digit (slice_index text c.digits.i) ≡ true = sym c.if-not-is_ascii_digit.ensures.value in
    let range : (48 ≤ slice_index text c.digits.i) × (slice_index text c.digits.i ≤ 57) = grind arith in
    let less = below_both c.digits.i (length text) 18 c.min-i-end.result c.min-i-end.ensures c.digits-test.true in
    let small = one_more c.digits.value c.digits.i (slice_index text c.digits.i) c.digits.invariant.2 less.1 range.0 range.1 in
    omega (arith, c.from.ensures, small.1)

pub digits-preserved : goal.digits-preserved
digits-preserved c =
    let text = c.args.self.now.rest.now in
    let d : is_ascii_digit (slice_index text c.digits.i) ≡ true = sym c.if-not-is_ascii_digit.ensures.value in
    let range : (48 ≤ slice_index text c.digits.i) × (slice_index text c.digits.i ≤ 57) = grind arith in
    let first : slice_index text 0 ≡ 48 → ⊥ = search rules in
    let less = below_both c.digits.i (length text) 18 c.min-i-end.result c.min-i-end.ensures c.digits-test.true in
    let plain = plain_digit c.digits.value c.digits.i c.digits.invariant.1 in
    let more : 0 < c.digits.value * 10 + c.from.result = rw c.from.ensures (more_digit c.digits.value text c.digits.i c.digits.invariant.1 first d) in
    let small = one_more c.digits.value c.digits.i (slice_index text c.digits.i) c.digits.invariant.2 less.1 range.0 range.1 in
    let fits : c.digits.value * 10 + (slice_index text c.digits.i - 48) < 2 ^ 64 = small.1 in
    let next = digits-next (2 ^ 64) c.digits.value c.digits.i text c.digits.i less.0 d plain fits in
    (rw c.from.ensures (c.digits.invariant.0 ∙ next), (λ _. more), rw c.from.ensures small.0)

pub returns : goal.returns
returns c =
    let text = c.args.self.now.rest.now in
    let short : length text ≤ 18 = omega arith in
    let end : c.digits.i ≡ c.min-i-end.result = omega arith in
    let all = at_first c.digits.i (length text) 18 c.min-i-end.result c.min-i-end.ensures end short in
    ends_all (2 ^ 64) c.digits.value c.digits.i text c.end-2.new.self.rest.now c.end-2.result all c.digits.invariant.0 c.end-2.ensures.value c.end-2.ensures.rest

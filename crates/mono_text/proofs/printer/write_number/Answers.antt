use Rattle.std.proofs.Common.{◌≡◌, ◌+◌, ◌++◌, take, drop, decimal, ap, ◌∙◌, arith}
use Rattle.mono_text.proofs.DigitCountLemmas.{of_slice, written_over}
use Rattle.mono_text.proofs.printer.write_number.Goals as goal

pub returns-clause-written : goal.returns-clause-written
returns-clause-written c =
    let stop = c.args.at + c.digit_count.result in
    let old = c.as_mut_slice.result.now in
    let same : c.write_digits.result ≡ c.args.at = omega (arith, c.write_digits.ensures.start, c.digit_count.ensures.count) in
    of_slice stop c.args.out.now.len c.write_digits.new.buf c.args.out.now.items (omega (arith, c.digit_count.ensures.short)) (omega (arith, c.digit_count.ensures.short))
    ∙ written_over c.args.at c.write_digits.result stop (decimal c.args.n) old c.write_digits.new.buf (drop stop old) same (omega (arith, c.digit_count.ensures.count)) c.write_digits.ensures.written c.write_digits.ensures.before
    ∙ ap (λ xs. take c.args.at xs ++ decimal c.args.n) c.as_mut_slice.ensures.value

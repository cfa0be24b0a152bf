use Rattle.std.proofs.Common.{arith}
use Rattle.itoa.proofs.Decimal.{length_four}
use Rattle.mono_text.proofs.printer.digit_count.Goals as goal

pub returns-then-n-lt100000000-clause-count : goal.returns-then-n-lt100000000-clause-count
returns-then-n-lt100000000-clause-count c = omega (arith, c.short_count-then-n-lt100000000.ensures.count, length_four c.args.n c.if-n-lt10000.false c.ranges.n.fits)

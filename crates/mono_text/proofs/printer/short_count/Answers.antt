use Rattle.std.proofs.Common.{arith}
use Rattle.itoa.proofs.Decimal.{length_one, length_two}
use Rattle.mono_text.proofs.DigitCountLemmas.{three_digits, four_digits}
use Rattle.mono_text.proofs.printer.short_count.Goals as goal

pub returns-then-n-lt10-clause-count : goal.returns-then-n-lt10-clause-count
returns-then-n-lt10-clause-count c = omega (arith, length_one c.args.n c.if-n-lt10.true)

pub returns-then-n-lt100-clause-count : goal.returns-then-n-lt100-clause-count
returns-then-n-lt100-clause-count c = omega (arith, length_two c.args.n c.if-n-lt10.false c.if-n-lt100.true)

pub returns-then-n-lt1000-clause-count : goal.returns-then-n-lt1000-clause-count
returns-then-n-lt1000-clause-count c = omega (arith, three_digits c.args.n c.if-n-lt100.false c.if-n-lt1000.true)

pub returns-clause-count : goal.returns-clause-count
returns-clause-count c = omega (arith, four_digits c.args.n c.if-n-lt1000.false c.requires)

use Rattle.std.proofs.Common.{arith}
use Rattle.mono_text.proofs.DigitCountLemmas.{eight_more, twelve_more, sixteen_more}
use Rattle.mono_text.proofs.printer.long_count.Goals as goal

pub returns-then-n-lt1000000000000-clause-count : goal.returns-then-n-lt1000000000000-clause-count
returns-then-n-lt1000000000000-clause-count c = omega (arith, c.short_count.ensures.count, eight_more c.args.n c.requires c.ranges.n.fits)

pub returns-then-n-lt10000000000000000-clause-count : goal.returns-then-n-lt10000000000000000-clause-count
returns-then-n-lt10000000000000000-clause-count c =
    omega (arith, c.short_count-then-n-lt10000000000000000.ensures.count, twelve_more c.args.n c.if-n-lt1000000000000.false c.ranges.n.fits)

pub returns-clause-count : goal.returns-clause-count
returns-clause-count c = omega (arith, c.short_count-2.ensures.count, sixteen_more c.args.n c.if-n-lt10000000000000000.false c.ranges.n.fits)

use Rattle.std.proofs.Common.{codes, arith}
use Rattle.mono_script.proofs.CommandLemmas.{second_once}
use Rattle.mono_script.proofs.words.load.read_load.Goals as goal

pub returns-then-count-gt100000-clause-none : goal.returns-then-count-gt100000-clause-none
returns-then-count-gt100000-clause-none c = λ seed count is.
    let same = second_once c.as_slice.result.now (codes "load") _ c.in_ok-seed.seed c.in_ok-seed.count seed count c.in_ok-seed.ensures.found is.text (omega (arith, is.fit.1)) in
    omega (arith, same, is.fit.1, c.if-count-gt100000.true)

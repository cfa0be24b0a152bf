use Rattle.std.proofs.Common.{codes, arith}
use Rattle.mono_script.proofs.CommandLemmas.{first_once, second_once}
use Rattle.mono_script.proofs.words.run.read_run.Goals as goal

pub returns-then-workers-gt64-clause-none : goal.returns-then-workers-gt64-clause-none
returns-then-workers-gt64-clause-none c = λ workers turns is.
    let same = first_once c.as_slice.result.now (codes "run") _ c.in_ok-workers.workers c.in_ok-workers.turns workers turns c.in_ok-workers.ensures.found is.text (omega (arith, is.fit.0)) in
    omega (arith, same, is.fit.0, c.if-workers-gt64.true)

pub returns-then-turns-gt65536-clause-none : goal.returns-then-turns-gt65536-clause-none
returns-then-turns-gt65536-clause-none c = λ workers turns is.
    let same = second_once c.as_slice.result.now (codes "run") _ c.in_ok-workers.workers c.in_ok-workers.turns workers turns c.in_ok-workers.ensures.found is.text (omega (arith, is.fit.1)) in
    omega (arith, same, is.fit.1, c.if-turns-gt65536.true)

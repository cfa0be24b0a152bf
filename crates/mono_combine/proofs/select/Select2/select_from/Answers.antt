use Rattle.std.proofs.Common.{◌≡◌, arith}
use Rattle.mono_combine.proofs.select.Select2.select_from.Goals as goal

pub returns-then-start-eq0-clause-selects : goal.returns-then-start-eq0-clause-selects
returns-then-start-eq0-clause-selects g c = rw c.if-start-eq0.true c.in_order.ensures.selects

pub returns-else-start-eq0-clause-selects : goal.returns-else-start-eq0-clause-selects
returns-else-start-eq0-clause-selects g c =
    let one : c.args.start ≡ 1 = omega arith in
    rw one c.reversed.ensures.selects

pub returns-then-start-eq0-clause-kept : goal.returns-then-start-eq0-clause-kept
returns-then-start-eq0-clause-kept g c = c.in_order.ensures.kept

pub returns-then-start-eq0-clause-first : goal.returns-then-start-eq0-clause-first
returns-then-start-eq0-clause-first g c = c.in_order.ensures.first

pub returns-then-start-eq0-clause-second : goal.returns-then-start-eq0-clause-second
returns-then-start-eq0-clause-second g c = c.in_order.ensures.second

pub returns-then-start-eq0-clause-first_callable : goal.returns-then-start-eq0-clause-first_callable
returns-then-start-eq0-clause-first_callable g c = c.in_order.ensures.first_callable

pub returns-then-start-eq0-clause-second_callable : goal.returns-then-start-eq0-clause-second_callable
returns-then-start-eq0-clause-second_callable g c = c.in_order.ensures.second_callable

pub returns-then-start-eq0-clause-reached : goal.returns-then-start-eq0-clause-reached
returns-then-start-eq0-clause-reached g c = c.in_order.ensures.reached

pub returns-else-start-eq0-clause-kept : goal.returns-else-start-eq0-clause-kept
returns-else-start-eq0-clause-kept g c = c.reversed.ensures.kept

pub returns-else-start-eq0-clause-first : goal.returns-else-start-eq0-clause-first
returns-else-start-eq0-clause-first g c = c.reversed.ensures.first

pub returns-else-start-eq0-clause-second : goal.returns-else-start-eq0-clause-second
returns-else-start-eq0-clause-second g c = c.reversed.ensures.second

pub returns-else-start-eq0-clause-first_callable : goal.returns-else-start-eq0-clause-first_callable
returns-else-start-eq0-clause-first_callable g c = c.reversed.ensures.first_callable

pub returns-else-start-eq0-clause-second_callable : goal.returns-else-start-eq0-clause-second_callable
returns-else-start-eq0-clause-second_callable g c = c.reversed.ensures.second_callable

pub returns-else-start-eq0-clause-reached : goal.returns-else-start-eq0-clause-reached
returns-else-start-eq0-clause-reached g c = c.reversed.ensures.reached

pub returns-then-start-eq0-clause-given : goal.returns-then-start-eq0-clause-given
returns-then-start-eq0-clause-given g c = c.in_order.ensures.given

pub returns-then-start-eq0-clause-narrows : goal.returns-then-start-eq0-clause-narrows
returns-then-start-eq0-clause-narrows g c = c.in_order.ensures.narrows

pub returns-else-start-eq0-clause-given : goal.returns-else-start-eq0-clause-given
returns-else-start-eq0-clause-given g c = c.reversed.ensures.given

pub returns-else-start-eq0-clause-narrows : goal.returns-else-start-eq0-clause-narrows
returns-else-start-eq0-clause-narrows g c = c.reversed.ensures.narrows

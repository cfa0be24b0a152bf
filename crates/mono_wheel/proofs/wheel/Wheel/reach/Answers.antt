use Rattle.std.proofs.Common.{arith, ap, refl, ◌∙◌}
use Rattle.mono_wheel.proofs.HopLemmas.{ties-apart, enter-near}
use Rattle.mono_wheel.proofs.wheel.Wheel.reach.Goals as goal

pub returns-clause-goal : goal.returns-clause-goal
returns-clause-goal c =
    let from = c.high_slot-from.ensures in
    let to = c.high_slot-to.ensures in
    let not = c.if-to-from.false in
    let within = (c.if-not-is_within.ensures refl).0 in
    let was = ap (λ w. w.elapsed) (c.self-2.view_is ∙ c.least_due-least.ensures.same) in
    let by = c.lesser-goal.ensures.first in
    (omega (arith, from, to, not, within, was), by)

pub returns-clause-near : goal.returns-clause-near
returns-clause-near c =
    let some = c.if-least-eq0.false in
    enter-near c.self-2.inside.elapsed c.least_due-least.result c.self-2.inside.limit c.lesser-goal.result c.self-2.inside.near c.self-2.inside.links.table.entries c.self-2.inside.links.table c.args.self.now (c.self-2.view_is ∙ c.least_due-least.ensures.same)
    c.lesser-goal.ensures.second (c.if-not-is_within.ensures refl).1 (c.least_due-least.ensures.least (omega (arith, some))) c.self-2.invariant.1

pub returns-clause-apart : goal.returns-clause-apart
returns-clause-apart c = ties-apart c.self-2.inside.elapsed c.lesser-goal.result 512 c.self-2.inside.near c.self-2.inside.links.table c.args.self.now (c.self-2.view_is ∙ c.least_due-least.ensures.same) (c.if-has_ties.ensures refl)

use Rattle.std.proofs.Common.{arith, ℕ, sym, ◌∙◌, subst, ap}
use Rattle.mono_wheel.specs.Model.{IsPending, timed_at}
use Rattle.mono_wheel.specs.Credit.{credit}
use Rattle.mono_wheel.specs.Holdings.{timed_in}
use Rattle.mono_wheel.specs.Leap.{IsFar, IsDueFrom}
use Rattle.mono_wheel.proofs.LeapLemmas.{far-from, leap-held, leap-advanced, credit-falls}
use Rattle.mono_wheel.proofs.StepsLemmas.{fall-told}
use Rattle.mono_wheel.proofs.wheel.Wheel.leap.Goals as goal

pub returns-then-least-eq0-clause-none : goal.returns-then-least-eq0-clause-none
returns-then-least-eq0-clause-none g c = subst (λ w. (key : ℕ) → IsPending w key → ⊥) (sym c.least_due-least.ensures.same) c.requires.none

pub invariant_of-self : goal.invariant_of-self
invariant_of-self g c =
    let some = c.if-least-eq0.false in
    let far : (key : ℕ) → IsFar c.last_before-goal.result (timed_in c.self-2.inside.links.table.entries key) =
    λ key. far-from c.least_due-least.result c.last_before-goal.result (timed_in c.self-2.inside.links.table.entries key) c.last_before-goal.ensures.before
    (subst (λ w. IsDueFrom c.least_due-least.result (timed_at w key)) (sym (c.self-2.view_is ∙ c.least_due-least.ensures.same)) (c.least_due-least.ensures.least (omega (arith, some)) key)) in (
      leap-held c.self-2.inside.elapsed c.last_before-goal.result c.self-2.inside.links.table.entries c.self-2.inside.links.table c.self-2.invariant.0 c.last_before-goal.ensures.later far,
      c.self-2.invariant.1,
    )

pub returns-clause-advanced : goal.returns-clause-advanced
returns-clause-advanced g c =
    let some = c.if-least-eq0.false in
    let far : (key : ℕ) → IsFar c.last_before-goal.result (timed_in c.self-2.inside.links.table.entries key) =
    λ key. far-from c.least_due-least.result c.last_before-goal.result (timed_in c.self-2.inside.links.table.entries key) c.last_before-goal.ensures.before
    (subst (λ w. IsDueFrom c.least_due-least.result (timed_at w key)) (sym (c.self-2.view_is ∙ c.least_due-least.ensures.same)) (c.least_due-least.ensures.least (omega (arith, some)) key)) in
    leap-advanced c.self-2.inside.elapsed c.last_before-goal.result c.self-2.inside.links.table.entries c.self-2.inside.links.table c.self-2.invariant.0 c.last_before-goal.ensures.later far c.args.self.now (c.self-2.view_is ∙ c.least_due-least.ensures.same)

pub returns-clause-steps : goal.returns-clause-steps
returns-clause-steps g c =
    let some = c.if-least-eq0.false in
    let far : (key : ℕ) → IsFar c.last_before-goal.result (timed_in c.self-2.inside.links.table.entries key) =
    λ key. far-from c.least_due-least.result c.last_before-goal.result (timed_in c.self-2.inside.links.table.entries key) c.last_before-goal.ensures.before
    (subst (λ w. IsDueFrom c.least_due-least.result (timed_at w key)) (sym (c.self-2.view_is ∙ c.least_due-least.ensures.same)) (c.least_due-least.ensures.least (omega (arith, some)) key)) in
    let falls = credit-falls c.self-2.inside.elapsed c.last_before-goal.result c.self-2.inside.links.table.entries c.last_before-goal.ensures.later far in
    let told = fall-told _ _ _ _ _ c.new-none.ensures c.note_credit-before.ensures c.note_credit-both.ensures in
    let seen = ap credit (c.self-2.view_is ∙ c.least_due-least.ensures.same) in
    let same = ap credit c.least_due-least.ensures.same in
    let spared = c.spare.ensures in
    omega (arith, falls, told, seen, same, spared)

pub returns-clause-counted : goal.returns-clause-counted
returns-clause-counted g c =
    let spared = c.spare.ensures in
    let was = ap (λ w. w.moves.slots) (c.self-2.view_is ∙ c.least_due-least.ensures.same) in
    omega (arith, spared, was)

pub returns-clause-all_counted : goal.returns-clause-all_counted
returns-clause-all_counted g c =
    let spared = c.spare.ensures in
    let was = ap (λ w. w.moves.all) (c.self-2.view_is ∙ c.least_due-least.ensures.same) in
    omega (arith, spared, was)

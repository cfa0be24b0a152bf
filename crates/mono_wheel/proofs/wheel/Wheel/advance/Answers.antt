use Rattle.std.proofs.Common.{arith, ◌≡◌, ◌+◌, ◌/◌, ◌<◌, ◌≤◌, length, map, subst, sym, ap, refl}
use Rattle.mono_wheel.specs.Lists.{list_at}
use Rattle.mono_wheel.specs.Credit.{credit_of}
use Rattle.mono_wheel.specs.Holdings.{timed_of, wheel_of, Cascading, Cascaded, Advanced}
use Rattle.mono_wheel.specs.Skips.{ComesTo}
use Rattle.mono_wheel.proofs.CreditLemmas.{credit-later}
use Rattle.mono_wheel.proofs.SkipLemmas.{goes-later, goes-by, goes-clear, goes-waits, goes-credit}
use Rattle.mono_wheel.proofs.AdvanceLemmas.{at_taken, taken-empty, slot-cascading, slot-advanced, slot-waits, not-slot, list-below, begin-above, later-held, later-advanced, later-passed}
use Rattle.mono_wheel.proofs.PollLemmas.{none-pending}
use Rattle.mono_wheel.proofs.LeapLemmas.{known-after}
use Rattle.mono_wheel.proofs.wheel.Wheel.advance.Goals as goal
use Rattle.mono_wheel.specs.Start.{taken_list}

pub take-requires-clause-empty : goal.take-requires-clause-empty
take-requires-clause-empty g c = taken-empty c.self.inside.elapsed c.self.inside.links.table.entries c.self.inside.links.table c.self.invariant.0

pub skip_to-goal-requires-clause-cascading : goal.skip_to-goal-requires-clause-cascading
skip_to-goal-requires-clause-cascading g c =
    subst (λ es. Cascading c.in-Some.slot.start es c.take.new.self.table) (sym (ap (λ w. w.entries) c.take.ensures.moved))
    (slot-cascading c.self.inside.elapsed c.in-Some.slot.start c.in-Some.slot.list c.self.inside.links.table.entries c.self.inside.links.table c.take.new.self.table c.self.invariant.0 c.in-Some.ensures.0
    (none-pending c.self.inside.elapsed c.self.inside.links.table.entries c.self.inside.links.table.nodes c.self.inside.links.table.lists c.args.self.now c.self.view_is c.requires.none) c.take.ensures.moved
    c.in-Some.slot.start (omega arith)
    (not-slot c.self.inside.elapsed c.in-Some.slot.start c.in-Some.slot.list c.self.inside.links.table.entries c.self.inside.links.table c.take.new.self.table c.self.invariant.0 c.in-Some.ensures.0 (none-pending c.self.inside.elapsed c.self.inside.links.table.entries c.self.inside.links.table.nodes c.self.inside.links.table.lists c.args.self.now c.self.view_is c.requires.none) c.take.ensures.moved)
    (slot-waits c.self.inside.elapsed c.in-Some.slot.start c.in-Some.slot.list c.self.inside.links.table.entries c.self.inside.links.table c.take.new.self.table c.self.invariant.0 c.in-Some.ensures.0 (none-pending c.self.inside.elapsed c.self.inside.links.table.entries c.self.inside.links.table.nodes c.self.inside.links.table.lists c.args.self.now c.self.view_is c.requires.none) c.take.ensures.moved))

pub skip_to-goal-requires-clause-list : goal.skip_to-goal-requires-clause-list
skip_to-goal-requires-clause-list g c = list-below c.self.inside.elapsed c.in-Some.slot.start c.in-Some.slot.list c.self.inside.links.table.entries c.self.inside.links.table c.take.new.self.table c.self.invariant.0 c.in-Some.ensures.0 (none-pending c.self.inside.elapsed c.self.inside.links.table.entries c.self.inside.links.table.nodes c.self.inside.links.table.lists c.args.self.now c.self.view_is c.requires.none) c.take.ensures.moved

pub cascade-requires : goal.cascade-requires
cascade-requires g c =
    subst (λ es. Cascading c.skip_to-goal.result es c.take.new.self.table) (sym (ap (λ w. w.entries) c.take.ensures.moved))
    (slot-cascading c.self.inside.elapsed c.in-Some.slot.start c.in-Some.slot.list c.self.inside.links.table.entries c.self.inside.links.table c.take.new.self.table c.self.invariant.0 c.in-Some.ensures.0
    (none-pending c.self.inside.elapsed c.self.inside.links.table.entries c.self.inside.links.table.nodes c.self.inside.links.table.lists c.args.self.now c.self.view_is c.requires.none) c.take.ensures.moved
    c.skip_to-goal.result
    (goes-later c.self.inside.elapsed c.in-Some.slot.start c.in-Some.slot.list c.self.inside.links.table.entries c.self.inside.links.table c.take.new.self.table c.self.invariant.0 c.in-Some.ensures.0 (none-pending c.self.inside.elapsed c.self.inside.links.table.entries c.self.inside.links.table.nodes c.self.inside.links.table.lists c.args.self.now c.self.view_is c.requires.none) c.take.ensures.moved c.args.now c.args.steps.now c.skip_to-goal.new.steps c.skip_to-goal.result (subst (λ es. ComesTo c.in-Some.slot.start c.args.now (c.in-Some.slot.list / 64) es c.take.new.self.table c.args.steps.now c.skip_to-goal.new.steps c.skip_to-goal.result) (ap (λ w. w.entries) c.take.ensures.moved) c.skip_to-goal.ensures.comes)) (goes-clear c.self.inside.elapsed c.in-Some.slot.start c.in-Some.slot.list c.self.inside.links.table.entries c.self.inside.links.table c.take.new.self.table c.self.invariant.0 c.in-Some.ensures.0 (none-pending c.self.inside.elapsed c.self.inside.links.table.entries c.self.inside.links.table.nodes c.self.inside.links.table.lists c.args.self.now c.self.view_is c.requires.none) c.take.ensures.moved c.args.now c.args.steps.now c.skip_to-goal.new.steps c.skip_to-goal.result (subst (λ es. ComesTo c.in-Some.slot.start c.args.now (c.in-Some.slot.list / 64) es c.take.new.self.table c.args.steps.now c.skip_to-goal.new.steps c.skip_to-goal.result) (ap (λ w. w.entries) c.take.ensures.moved) c.skip_to-goal.ensures.comes)) (goes-waits c.self.inside.elapsed c.in-Some.slot.start c.in-Some.slot.list c.self.inside.links.table.entries c.self.inside.links.table c.take.new.self.table c.self.invariant.0 c.in-Some.ensures.0 (none-pending c.self.inside.elapsed c.self.inside.links.table.entries c.self.inside.links.table.nodes c.self.inside.links.table.lists c.args.self.now c.self.view_is c.requires.none) c.take.ensures.moved c.args.now c.args.steps.now c.skip_to-goal.new.steps c.skip_to-goal.result (subst (λ es. ComesTo c.in-Some.slot.start c.args.now (c.in-Some.slot.list / 64) es c.take.new.self.table c.args.steps.now c.skip_to-goal.new.steps c.skip_to-goal.result) (ap (λ w. w.entries) c.take.ensures.moved) c.skip_to-goal.ensures.comes)))

pub returns-in-Some-clause-advanced : goal.returns-in-Some-clause-advanced
returns-in-Some-clause-advanced g c =
    slot-advanced c.self.inside.elapsed c.in-Some.slot.start c.in-Some.slot.list c.self.inside.links.table.entries c.self.inside.links.table c.take.new.self.table c.self.invariant.0 c.in-Some.ensures.0
    (none-pending c.self.inside.elapsed c.self.inside.links.table.entries c.self.inside.links.table.nodes c.self.inside.links.table.lists c.args.self.now c.self.view_is c.requires.none) c.take.ensures.moved
    c.skip_to-goal.result
    (goes-later c.self.inside.elapsed c.in-Some.slot.start c.in-Some.slot.list c.self.inside.links.table.entries c.self.inside.links.table c.take.new.self.table c.self.invariant.0 c.in-Some.ensures.0 (none-pending c.self.inside.elapsed c.self.inside.links.table.entries c.self.inside.links.table.nodes c.self.inside.links.table.lists c.args.self.now c.self.view_is c.requires.none) c.take.ensures.moved c.args.now c.args.steps.now c.skip_to-goal.new.steps c.skip_to-goal.result (subst (λ es. ComesTo c.in-Some.slot.start c.args.now (c.in-Some.slot.list / 64) es c.take.new.self.table c.args.steps.now c.skip_to-goal.new.steps c.skip_to-goal.result) (ap (λ w. w.entries) c.take.ensures.moved) c.skip_to-goal.ensures.comes)) (goes-clear c.self.inside.elapsed c.in-Some.slot.start c.in-Some.slot.list c.self.inside.links.table.entries c.self.inside.links.table c.take.new.self.table c.self.invariant.0 c.in-Some.ensures.0 (none-pending c.self.inside.elapsed c.self.inside.links.table.entries c.self.inside.links.table.nodes c.self.inside.links.table.lists c.args.self.now c.self.view_is c.requires.none) c.take.ensures.moved c.args.now c.args.steps.now c.skip_to-goal.new.steps c.skip_to-goal.result (subst (λ es. ComesTo c.in-Some.slot.start c.args.now (c.in-Some.slot.list / 64) es c.take.new.self.table c.args.steps.now c.skip_to-goal.new.steps c.skip_to-goal.result) (ap (λ w. w.entries) c.take.ensures.moved) c.skip_to-goal.ensures.comes)) (goes-waits c.self.inside.elapsed c.in-Some.slot.start c.in-Some.slot.list c.self.inside.links.table.entries c.self.inside.links.table c.take.new.self.table c.self.invariant.0 c.in-Some.ensures.0 (none-pending c.self.inside.elapsed c.self.inside.links.table.entries c.self.inside.links.table.nodes c.self.inside.links.table.lists c.args.self.now c.self.view_is c.requires.none) c.take.ensures.moved c.args.now c.args.steps.now c.skip_to-goal.new.steps c.skip_to-goal.result (subst (λ es. ComesTo c.in-Some.slot.start c.args.now (c.in-Some.slot.list / 64) es c.take.new.self.table c.args.steps.now c.skip_to-goal.new.steps c.skip_to-goal.result) (ap (λ w. w.entries) c.take.ensures.moved) c.skip_to-goal.ensures.comes))
    c.cascade.new.links.table.entries c.cascade.new.links.table c.cascade.ensures.held (subst (λ es. Cascaded es c.cascade.new.links.table.entries c.take.new.self.table c.cascade.new.links.table) (ap (λ w. w.entries) c.take.ensures.moved) c.cascade.ensures.cascaded) c.args.self.now c.self.view_is

pub returns-in-Some-clause-reached : goal.returns-in-Some-clause-reached
returns-in-Some-clause-reached g c _ =
    let begins : c.self.inside.elapsed < c.in-Some.slot.start = begin-above c.self.inside.elapsed c.in-Some.slot.start c.in-Some.slot.list c.self.inside.links.table.entries c.self.inside.links.table c.take.new.self.table c.self.invariant.0 c.in-Some.ensures.0
    (none-pending c.self.inside.elapsed c.self.inside.links.table.entries c.self.inside.links.table.nodes c.self.inside.links.table.lists c.args.self.now c.self.view_is c.requires.none) c.take.ensures.moved in
    let later = goes-later c.self.inside.elapsed c.in-Some.slot.start c.in-Some.slot.list c.self.inside.links.table.entries c.self.inside.links.table c.take.new.self.table c.self.invariant.0 c.in-Some.ensures.0 (none-pending c.self.inside.elapsed c.self.inside.links.table.entries c.self.inside.links.table.nodes c.self.inside.links.table.lists c.args.self.now c.self.view_is c.requires.none) c.take.ensures.moved c.args.now c.args.steps.now c.skip_to-goal.new.steps c.skip_to-goal.result (subst (λ es. ComesTo c.in-Some.slot.start c.args.now (c.in-Some.slot.list / 64) es c.take.new.self.table c.args.steps.now c.skip_to-goal.new.steps c.skip_to-goal.result) (ap (λ w. w.entries) c.take.ensures.moved) c.skip_to-goal.ensures.comes) in
    let above : c.self.inside.elapsed < c.skip_to-goal.result = omega (arith, begins, later) in
    (subst (λ w. w.elapsed < c.skip_to-goal.result) c.self.view_is above, goes-by c.self.inside.elapsed c.in-Some.slot.start c.in-Some.slot.list c.self.inside.links.table.entries c.self.inside.links.table c.take.new.self.table c.self.invariant.0 c.in-Some.ensures.0 (none-pending c.self.inside.elapsed c.self.inside.links.table.entries c.self.inside.links.table.nodes c.self.inside.links.table.lists c.args.self.now c.self.view_is c.requires.none) c.take.ensures.moved c.args.now c.args.steps.now c.skip_to-goal.new.steps c.skip_to-goal.result (subst (λ es. ComesTo c.in-Some.slot.start c.args.now (c.in-Some.slot.list / 64) es c.take.new.self.table c.args.steps.now c.skip_to-goal.new.steps c.skip_to-goal.result) (ap (λ w. w.entries) c.take.ensures.moved) c.skip_to-goal.ensures.comes) c.in-Some.ensures.1)

pub invariant_of-self : goal.invariant_of-self
invariant_of-self g c = (
  later-held c.self.inside.elapsed c.args.now c.self.inside.links.table.entries c.self.inside.links.table c.self.invariant.0
      (subst (λ w. w.elapsed ≤ c.args.now) (sym c.self.view_is) c.requires.ahead)
      (none-pending c.self.inside.elapsed c.self.inside.links.table.entries c.self.inside.links.table.nodes c.self.inside.links.table.lists c.args.self.now c.self.view_is c.requires.none) c.in-None.ensures,
  c.self.invariant.1,
)

pub returns-in-None-clause-advanced : goal.returns-in-None-clause-advanced
returns-in-None-clause-advanced g c =
    later-advanced c.self.inside.elapsed c.args.now c.self.inside.links.table.entries c.self.inside.links.table c.self.invariant.0
    (subst (λ w. w.elapsed ≤ c.args.now) (sym c.self.view_is) c.requires.ahead)
    (none-pending c.self.inside.elapsed c.self.inside.links.table.entries c.self.inside.links.table.nodes c.self.inside.links.table.lists c.args.self.now c.self.view_is c.requires.none) c.in-None.ensures
    c.args.self.now c.self.view_is

pub returns-in-None-clause-passed : goal.returns-in-None-clause-passed
returns-in-None-clause-passed g c _ = (
  refl,
  later-passed c.self.inside.elapsed c.args.now c.self.inside.links.table.entries c.self.inside.links.table c.self.invariant.0
      (subst (λ w. w.elapsed ≤ c.args.now) (sym c.self.view_is) c.requires.ahead)
      (none-pending c.self.inside.elapsed c.self.inside.links.table.entries c.self.inside.links.table.nodes c.self.inside.links.table.lists c.args.self.now c.self.view_is c.requires.none) c.in-None.ensures
      c.args.self.now c.self.view_is,
)

pub returns-in-Some-clause-steps : goal.returns-in-Some-clause-steps
returns-in-Some-clause-steps g c =
    let fall = goes-credit c.self.inside.elapsed c.in-Some.slot.start c.in-Some.slot.list c.self.inside.links.table.entries c.self.inside.links.table c.take.new.self.table c.self.invariant.0 c.in-Some.ensures.0
    (none-pending c.self.inside.elapsed c.self.inside.links.table.entries c.self.inside.links.table.nodes c.self.inside.links.table.lists c.args.self.now c.self.view_is c.requires.none) c.take.ensures.moved
    c.args.now c.args.steps.now c.skip_to-goal.new.steps c.skip_to-goal.result (subst (λ es. ComesTo c.in-Some.slot.start c.args.now (c.in-Some.slot.list / 64) es c.take.new.self.table c.args.steps.now c.skip_to-goal.new.steps c.skip_to-goal.result) (ap (λ w. w.entries) c.take.ensures.moved) c.skip_to-goal.ensures.comes)
    c.cascade.new.links.table.entries c.cascade.new.links.table c.cascade.ensures.held (subst (λ es. Cascaded es c.cascade.new.links.table.entries c.take.new.self.table c.cascade.new.links.table) (ap (λ w. w.entries) c.take.ensures.moved) c.cascade.ensures.cascaded) c.take.ensures.once in
    let taken : length (list_at c.take.new.self.table taken_list) ≡ length (list_at c.self.inside.links.table c.in-Some.slot.list) =
    ap length (at_taken c.self.inside.elapsed c.in-Some.slot.start c.in-Some.slot.list c.self.inside.links.table.entries c.self.inside.links.table c.take.new.self.table c.self.invariant.0 c.in-Some.ensures.0 (none-pending c.self.inside.elapsed c.self.inside.links.table.entries c.self.inside.links.table.nodes c.self.inside.links.table.lists c.args.self.now c.self.view_is c.requires.none) c.take.ensures.moved) in
    let steps = c.cascade.ensures.steps in
    subst (λ w. c.cascade.new.steps + credit_of c.skip_to-goal.result (map timed_of c.cascade.new.links.table.entries) ≡ c.args.steps.now + credit_of w.elapsed w.entries) c.self.view_is (omega (arith, fall, taken, steps))

pub returns-in-None-clause-steps : goal.returns-in-None-clause-steps
returns-in-None-clause-steps g c =
    let none = none-pending c.self.inside.elapsed c.self.inside.links.table.entries c.self.inside.links.table.nodes c.self.inside.links.table.lists c.args.self.now c.self.view_is c.requires.none in
    let same = credit-later c.self.inside.elapsed c.args.now c.self.inside.links.table.entries (subst (λ w. w.elapsed ≤ c.args.now) (sym c.self.view_is) c.requires.ahead) c.self.invariant.0.fits none c.in-None.ensures in
    subst (λ w. c.args.steps.now + credit_of c.args.now (map timed_of c.self.inside.links.table.entries) ≡ c.args.steps.now + credit_of w.elapsed w.entries) c.self.view_is (omega (arith, same))

pub invariant_of-self-in-Some : goal.invariant_of-self-in-Some
invariant_of-self-in-Some g c =
    let went : Advanced (wheel_of c.self.inside.elapsed c.self.inside.links) (wheel_of c.skip_to-goal.result c.cascade.new.links) =
    slot-advanced c.self.inside.elapsed c.in-Some.slot.start c.in-Some.slot.list c.self.inside.links.table.entries c.self.inside.links.table c.take.new.self.table c.self.invariant.0 c.in-Some.ensures.0
    (none-pending c.self.inside.elapsed c.self.inside.links.table.entries c.self.inside.links.table.nodes c.self.inside.links.table.lists c.args.self.now c.self.view_is c.requires.none) c.take.ensures.moved
    c.skip_to-goal.result
    (goes-later c.self.inside.elapsed c.in-Some.slot.start c.in-Some.slot.list c.self.inside.links.table.entries c.self.inside.links.table c.take.new.self.table c.self.invariant.0 c.in-Some.ensures.0 (none-pending c.self.inside.elapsed c.self.inside.links.table.entries c.self.inside.links.table.nodes c.self.inside.links.table.lists c.args.self.now c.self.view_is c.requires.none) c.take.ensures.moved c.args.now c.args.steps.now c.skip_to-goal.new.steps c.skip_to-goal.result (subst (λ es. ComesTo c.in-Some.slot.start c.args.now (c.in-Some.slot.list / 64) es c.take.new.self.table c.args.steps.now c.skip_to-goal.new.steps c.skip_to-goal.result) (ap (λ w. w.entries) c.take.ensures.moved) c.skip_to-goal.ensures.comes)) (goes-clear c.self.inside.elapsed c.in-Some.slot.start c.in-Some.slot.list c.self.inside.links.table.entries c.self.inside.links.table c.take.new.self.table c.self.invariant.0 c.in-Some.ensures.0 (none-pending c.self.inside.elapsed c.self.inside.links.table.entries c.self.inside.links.table.nodes c.self.inside.links.table.lists c.args.self.now c.self.view_is c.requires.none) c.take.ensures.moved c.args.now c.args.steps.now c.skip_to-goal.new.steps c.skip_to-goal.result (subst (λ es. ComesTo c.in-Some.slot.start c.args.now (c.in-Some.slot.list / 64) es c.take.new.self.table c.args.steps.now c.skip_to-goal.new.steps c.skip_to-goal.result) (ap (λ w. w.entries) c.take.ensures.moved) c.skip_to-goal.ensures.comes)) (goes-waits c.self.inside.elapsed c.in-Some.slot.start c.in-Some.slot.list c.self.inside.links.table.entries c.self.inside.links.table c.take.new.self.table c.self.invariant.0 c.in-Some.ensures.0 (none-pending c.self.inside.elapsed c.self.inside.links.table.entries c.self.inside.links.table.nodes c.self.inside.links.table.lists c.args.self.now c.self.view_is c.requires.none) c.take.ensures.moved c.args.now c.args.steps.now c.skip_to-goal.new.steps c.skip_to-goal.result (subst (λ es. ComesTo c.in-Some.slot.start c.args.now (c.in-Some.slot.list / 64) es c.take.new.self.table c.args.steps.now c.skip_to-goal.new.steps c.skip_to-goal.result) (ap (λ w. w.entries) c.take.ensures.moved) c.skip_to-goal.ensures.comes))
    c.cascade.new.links.table.entries c.cascade.new.links.table c.cascade.ensures.held (subst (λ es. Cascaded es c.cascade.new.links.table.entries c.take.new.self.table c.cascade.new.links.table) (ap (λ w. w.entries) c.take.ensures.moved) c.cascade.ensures.cascaded) (wheel_of c.self.inside.elapsed c.self.inside.links) refl in (
      c.cascade.ensures.held,
      known-after c.self.inside.elapsed c.skip_to-goal.result c.self.inside.limit c.self.inside.near c.self.inside.links.table.entries c.cascade.new.links.table.entries went.ticks c.self.invariant.1,
    )

pub returns-in-Some-clause-counted : goal.returns-in-Some-clause-counted
returns-in-Some-clause-counted g c =
    let took = ap (λ m. m.slots) c.take.ensures.moves in
    let more = c.skip_to-goal.ensures.more in
    let steps = c.cascade.ensures.steps in
    let moves = c.cascade.ensures.moves in
    let was = ap (λ w. w.moves.slots) c.self.view_is in
    omega (arith, took, more, steps, moves, was)

pub returns-in-Some-clause-all_counted : goal.returns-in-Some-clause-all_counted
returns-in-Some-clause-all_counted g c =
    let took = ap (λ m. m.all) c.take.ensures.moves in
    let more = c.skip_to-goal.ensures.more in
    let steps = c.cascade.ensures.steps in
    let moves = c.cascade.ensures.all_moves in
    let was = ap (λ w. w.moves.all) c.self.view_is in
    omega (arith, took, more, steps, moves, was)

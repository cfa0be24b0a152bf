use Rattle.std.proofs.Common.{arith, ◌≡◌, ℕ, ◌+◌, map, set, [], ap, refl, sym, subst}
use Rattle.mono_wheel.specs.Model.{Fits, CameOut, timed_at}
use Rattle.mono_wheel.specs.Credit.{credit, credit_of}
use Rattle.mono_wheel.specs.Holdings.{timed_of, wheel_of}
use Rattle.mono_wheel.specs.Leap.{Known}
use Rattle.mono_wheel.proofs.AloneLemmas.{alone-waits, alone-below, alone-held, alone-came, alone-credit}
use Rattle.mono_wheel.proofs.LeapLemmas.{known-out}
use Rattle.mono_wheel.proofs.PollLemmas.{none-pending}
use Rattle.mono_wheel.specs.Lists.{with_list}
use Rattle.mono_wheel.proofs.PlaceLemmas.{place_of-below}
use Rattle.mono_wheel.proofs.OnlyNodeLemmas.{only-without, only-gone}
use Rattle.mono_wheel.proofs.TickChangeLemmas.{written, held-written}
use Rattle.mono_wheel.proofs.wheel.Wheel.take_alone.Goals as goal

pub overflow_sub-tick : goal.overflow_sub-tick
overflow_sub-tick g c = alone-waits c.self.inside.elapsed c.in_ok-slot.slot.start c.in_ok-slot.slot.list c.in_ok-key.key c.self.inside.links.table.entries c.self.inside.links.table c.self.inside.links.table c.self.invariant.0 c.in_ok-slot.ensures.0 (none-pending c.self.inside.elapsed c.self.inside.links.table.entries c.self.inside.links.table.nodes c.self.inside.links.table.lists c.args.self.now c.self.view_is c.requires.none) c.in_ok-key.ensures c.entry-tick.result record { tick = 0; registered = 0 } c.entry-tick.ensures refl

pub takes_between-requires-clause-ahead : goal.takes_between-requires-clause-ahead
takes_between-requires-clause-ahead g c = alone-waits c.self.inside.elapsed c.in_ok-slot.slot.start c.in_ok-slot.slot.list c.in_ok-key.key c.self.inside.links.table.entries c.self.inside.links.table c.self.inside.links.table c.self.invariant.0 c.in_ok-slot.ensures.0 (none-pending c.self.inside.elapsed c.self.inside.links.table.entries c.self.inside.links.table.nodes c.self.inside.links.table.lists c.args.self.now c.self.view_is c.requires.none) c.in_ok-key.ensures c.entry-tick.result record { tick = 0; registered = 0 } c.entry-tick.ensures refl

pub take_only-requires-clause-slot : goal.take_only-requires-clause-slot
take_only-requires-clause-slot g c = let b = place_of-below c.self.inside.elapsed c.in_ok-slot.ensures.0.timed.registered in let p = c.in_ok-slot.ensures.0.place in omega (arith, b, p)

pub take_only-requires-clause-alone : goal.take_only-requires-clause-alone
take_only-requires-clause-alone g c = c.in_ok-key.ensures

pub invariant_of-self : goal.invariant_of-self
invariant_of-self g c = (
  held-written c.entry-tick.result.tick c.self.inside.links.table.entries (with_list c.self.inside.links.table c.in_ok-slot.slot.list []) c.take_only.new.self.table c.in_ok-key.key record { tick = 0; registered = 0 } refl c.take_only.ensures.taken
      (alone-held c.self.inside.elapsed c.in_ok-slot.slot.start c.in_ok-slot.slot.list c.in_ok-key.key c.self.inside.links.table.entries c.self.inside.links.table (with_list c.self.inside.links.table c.in_ok-slot.slot.list []) c.self.invariant.0 c.in_ok-slot.ensures.0 (none-pending c.self.inside.elapsed c.self.inside.links.table.entries c.self.inside.links.table.nodes c.self.inside.links.table.lists c.args.self.now c.self.view_is c.requires.none) c.in_ok-key.ensures c.entry-tick.result record { tick = 0; registered = 0 } c.entry-tick.ensures refl (let not = c.if-slot_size-tick.false in let size = c.slot_size.ensures.value in let waits = alone-waits c.self.inside.elapsed c.in_ok-slot.slot.start c.in_ok-slot.slot.list c.in_ok-key.key c.self.inside.links.table.entries c.self.inside.links.table (with_list c.self.inside.links.table c.in_ok-slot.slot.list []) c.self.invariant.0 c.in_ok-slot.ensures.0 (none-pending c.self.inside.elapsed c.self.inside.links.table.entries c.self.inside.links.table.nodes c.self.inside.links.table.lists c.args.self.now c.self.view_is c.requires.none) c.in_ok-key.ensures c.entry-tick.result record { tick = 0; registered = 0 } c.entry-tick.ensures refl in omega (arith, not, size, waits)) (ap (with_list c.self.inside.links.table c.in_ok-slot.slot.list) (sym (only-without c.self.inside.links.table c.in_ok-slot.slot.list c.in_ok-key.key c.in_ok-key.ensures))) (only-gone c.self.inside.links.table c.in_ok-slot.slot.list c.in_ok-key.key (let b = place_of-below c.self.inside.elapsed c.in_ok-slot.ensures.0.timed.registered in let p = c.in_ok-slot.ensures.0.place in let n = c.self.invariant.0.lists in omega (arith, b, p, n)))),
  subst (λ es. Known c.self.inside.limit c.self.inside.near es) (sym (ap (λ w. w.entries) (written (with_list c.self.inside.links.table c.in_ok-slot.slot.list []) c.take_only.new.self.table c.self.inside.links.table.entries c.in_ok-key.key record { tick = 0; registered = 0 } refl c.take_only.ensures.taken)))
      (known-out c.self.inside.limit c.self.inside.near c.self.inside.links.table.entries c.in_ok-key.key record { tick = 0; registered = 0 } (alone-below c.self.inside.elapsed c.in_ok-slot.slot.start c.in_ok-slot.slot.list c.in_ok-key.key c.self.inside.links.table.entries c.self.inside.links.table (with_list c.self.inside.links.table c.in_ok-slot.slot.list []) c.self.invariant.0 c.in_ok-slot.ensures.0 (none-pending c.self.inside.elapsed c.self.inside.links.table.entries c.self.inside.links.table.nodes c.self.inside.links.table.lists c.args.self.now c.self.view_is c.requires.none) c.in_ok-key.ensures c.entry-tick.result record { tick = 0; registered = 0 } c.entry-tick.ensures refl) refl c.self.invariant.1),
)

pub returns-clause-taken : goal.returns-clause-taken
returns-clause-taken g c =
    subst (λ w. CameOut c.args.self.now (wheel_of c.entry-tick.result.tick record { table = w; moves = c.take_only.new.self.moves }) c.args.now c.in_ok-key.key) (sym (written (with_list c.self.inside.links.table c.in_ok-slot.slot.list []) c.take_only.new.self.table c.self.inside.links.table.entries c.in_ok-key.key record { tick = 0; registered = 0 } refl c.take_only.ensures.taken))
    (alone-came c.self.inside.elapsed c.in_ok-slot.slot.start c.in_ok-slot.slot.list c.in_ok-key.key c.self.inside.links.table.entries c.self.inside.links.table (with_list c.self.inside.links.table c.in_ok-slot.slot.list []) c.self.invariant.0 c.in_ok-slot.ensures.0 (none-pending c.self.inside.elapsed c.self.inside.links.table.entries c.self.inside.links.table.nodes c.self.inside.links.table.lists c.args.self.now c.self.view_is c.requires.none) c.in_ok-key.ensures c.entry-tick.result record { tick = 0; registered = 0 } c.entry-tick.ensures refl (let not = c.if-slot_size-tick.false in let size = c.slot_size.ensures.value in let waits = alone-waits c.self.inside.elapsed c.in_ok-slot.slot.start c.in_ok-slot.slot.list c.in_ok-key.key c.self.inside.links.table.entries c.self.inside.links.table (with_list c.self.inside.links.table c.in_ok-slot.slot.list []) c.self.invariant.0 c.in_ok-slot.ensures.0 (none-pending c.self.inside.elapsed c.self.inside.links.table.entries c.self.inside.links.table.nodes c.self.inside.links.table.lists c.args.self.now c.self.view_is c.requires.none) c.in_ok-key.ensures c.entry-tick.result record { tick = 0; registered = 0 } c.entry-tick.ensures refl in omega (arith, not, size, waits)) (ap (with_list c.self.inside.links.table c.in_ok-slot.slot.list) (sym (only-without c.self.inside.links.table c.in_ok-slot.slot.list c.in_ok-key.key c.in_ok-key.ensures))) (only-gone c.self.inside.links.table c.in_ok-slot.slot.list c.in_ok-key.key (let b = place_of-below c.self.inside.elapsed c.in_ok-slot.ensures.0.timed.registered in let p = c.in_ok-slot.ensures.0.place in let n = c.self.invariant.0.lists in omega (arith, b, p, n))) c.args.self.now c.args.now c.self.view_is (let by = c.if-now-tick.false in omega (arith, by)))

pub returns-clause-fits : goal.returns-clause-fits
returns-clause-fits g c = subst (λ w. (key : ℕ) → Fits w.elapsed (timed_at w key)) c.self.view_is c.self.invariant.0.fits

pub returns-clause-steps : goal.returns-clause-steps
returns-clause-steps g c =
    subst (λ w. c.tick.new.self + credit (wheel_of c.entry-tick.result.tick record { table = w; moves = c.take_only.new.self.moves }) ≡ c.args.steps.now + credit c.args.self.now) (sym (written (with_list c.self.inside.links.table c.in_ok-slot.slot.list []) c.take_only.new.self.table c.self.inside.links.table.entries c.in_ok-key.key record { tick = 0; registered = 0 } refl c.take_only.ensures.taken))
    (subst (λ w. c.tick.new.self + credit_of c.entry-tick.result.tick (map timed_of (set c.self.inside.links.table.entries c.in_ok-key.key record { tick = 0; registered = 0 })) ≡ c.args.steps.now + credit_of w.elapsed w.entries) c.self.view_is
    (alone-credit c.self.inside.elapsed c.in_ok-slot.slot.start c.in_ok-slot.slot.list c.in_ok-key.key c.self.inside.links.table.entries c.self.inside.links.table (with_list c.self.inside.links.table c.in_ok-slot.slot.list []) c.self.invariant.0 c.in_ok-slot.ensures.0 (none-pending c.self.inside.elapsed c.self.inside.links.table.entries c.self.inside.links.table.nodes c.self.inside.links.table.lists c.args.self.now c.self.view_is c.requires.none) c.in_ok-key.ensures c.entry-tick.result record { tick = 0; registered = 0 } c.entry-tick.ensures refl (let not = c.if-slot_size-tick.false in let size = c.slot_size.ensures.value in let waits = alone-waits c.self.inside.elapsed c.in_ok-slot.slot.start c.in_ok-slot.slot.list c.in_ok-key.key c.self.inside.links.table.entries c.self.inside.links.table (with_list c.self.inside.links.table c.in_ok-slot.slot.list []) c.self.invariant.0 c.in_ok-slot.ensures.0 (none-pending c.self.inside.elapsed c.self.inside.links.table.entries c.self.inside.links.table.nodes c.self.inside.links.table.lists c.args.self.now c.self.view_is c.requires.none) c.in_ok-key.ensures c.entry-tick.result record { tick = 0; registered = 0 } c.entry-tick.ensures refl in omega (arith, not, size, waits)) (ap (with_list c.self.inside.links.table c.in_ok-slot.slot.list) (sym (only-without c.self.inside.links.table c.in_ok-slot.slot.list c.in_ok-key.key c.in_ok-key.ensures))) (only-gone c.self.inside.links.table c.in_ok-slot.slot.list c.in_ok-key.key (let b = place_of-below c.self.inside.elapsed c.in_ok-slot.ensures.0.timed.registered in let p = c.in_ok-slot.ensures.0.place in let n = c.self.invariant.0.lists in omega (arith, b, p, n))) c.takes_between.result c.args.steps.now c.tick.new.self c.takes_between.ensures (let added = c.add.ensures in let stepped = c.tick.ensures in omega (arith, added, stepped))))

pub returns-clause-counted : goal.returns-clause-counted
returns-clause-counted g c =
    let out = c.take_only.ensures.moves in
    let added = c.add.ensures in
    let stepped = c.tick.ensures in
    let was = ap (λ w. w.moves.slots) c.self.view_is in
    omega (arith, out, added, stepped, was)

pub returns-clause-all_counted : goal.returns-clause-all_counted
returns-clause-all_counted g c =
    let out = c.take_only.ensures.all_moves in
    let added = c.add.ensures in
    let stepped = c.tick.ensures in
    let was = ap (λ w. w.moves.all) c.self.view_is in
    omega (arith, out, added, stepped, was)

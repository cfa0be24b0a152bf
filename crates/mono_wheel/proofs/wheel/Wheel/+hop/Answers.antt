use Rattle.std.proofs.Common.{arith, ◌-◌, ◌<◌, ◌≤◌, slice_index_or, false, get_or, refl, sym, ap, subst, ◌∙◌}
use Rattle.mono_wheel.specs.Start.{above, top_level}
use Rattle.mono_wheel.specs.Model.{timed_at, timed_after, tick_of}
use Rattle.mono_wheel.proofs.HopLemmas.{hop-at, near-out, apart-out, hopped-far, hopped-one}
use Rattle.mono_wheel.proofs.wheel.Wheel.+hop.Goals as goal

pub invariant_of-self : goal.invariant_of-self
invariant_of-self t c = (
  (hopped-far c.self.inside.elapsed c.args.goal c.args.count c.args.near.now c.self.inside.links.table.entries c.self.inside.links.table c.args.self.now c.self.invariant.0 c.self.view_is c.requires.ahead c.if-count-eq0.true c.requires.near).0,
  c.self.invariant.1,
)

pub returns-then-count-eq0 : goal.returns-then-count-eq0
returns-then-count-eq0 t c = record {
  hopped =
      (hopped-far c.self.inside.elapsed c.args.goal c.args.count c.args.near.now c.self.inside.links.table.entries c.self.inside.links.table c.args.self.now c.self.invariant.0 c.self.view_is c.requires.ahead c.if-count-eq0.true c.requires.near).1;
}

pub take_out-requires : goal.take_out-requires
take_out-requires t c none =
    let some = c.if-tick-eq0.false in
    let read = c.tick_of-tick.ensures in
    let e = ap tick_of none in
    omega (arith, some, read, e)

pub hop-requires-2 : goal.hop-requires-2
hop-requires-2 t c =
    let up = subst (λ e. above top_level e < above top_level c.args.goal) (sym c.take_out.ensures.changed.elapsed) c.requires.ahead in
    let few : c.args.count - 1 ≤ 512 = (let fits = c.requires.count in omega (arith, fits)) in
    let near = near-out c.args.self.now c.take_out.new.self c.args.goal c.args.count (c.args.count - 1) (get_or c.args.near.now (c.args.count - 1) 0) c.args.near.now (let some = c.if-count-eq0.false in omega (arith, some)) refl c.take_out.ensures.changed c.requires.near in
    let apart = apart-out c.args.self.now c.take_out.new.self c.args.goal c.args.count (c.args.count - 1) (get_or c.args.near.now (c.args.count - 1) 0) c.args.near.now (let some = c.if-count-eq0.false in omega (arith, some)) c.take_out.ensures.changed c.requires.apart in
    ((let some = c.if-count-eq0.false in omega (arith, some)), (up, (few, (near, apart))))

pub put-requires-clause-reserved : goal.put-requires-clause-reserved
put-requires-clause-reserved t c =
    ap (λ bs. slice_index_or bs (get_or c.args.near.now (c.args.count - 1) 0) false) (c.hop-2.ensures.hopped.advanced.reserved ∙ c.take_out.ensures.changed.reserved) ∙ c.take_out.ensures.reserved

pub put-requires-clause-out : goal.put-requires-clause-out
put-requires-clause-out t c =
    c.hop-2.ensures.hopped.advanced.ticks (get_or c.args.near.now (c.args.count - 1) 0) ∙ ap (timed_after c.take_out.new.self.elapsed c.hop-2.new.self.elapsed) c.take_out.ensures.changed.here

pub put-requires-clause-ahead : goal.put-requires-clause-ahead
put-requires-clause-ahead t c =
    let at = hop-at c.args.goal c.args.count (get_or c.args.near.now (c.args.count - 1) 0) c.tick_of-tick.result c.args.near.now (timed_at c.args.self.now (get_or c.args.near.now (c.args.count - 1) 0)) c.if-tick-eq0.false c.tick_of-tick.ensures (c.requires.near (get_or c.args.near.now (c.args.count - 1) 0))
    (λ far. let not = c.if-slot-due.false in let slot = c.high_slot-slot.ensures in let due = c.high_slot-due.ensures in omega (arith, far, not, slot, due)) in
    let ahead = at.1 in
    let e = c.hop-2.ensures.hopped.at in
    omega (arith, ahead, e)

pub returns : goal.returns
returns t c =
    let not : above top_level c.args.goal < above top_level c.tick_of-tick.result → ⊥ = λ far. (let no = c.if-slot-due.false in let slot = c.high_slot-slot.ensures in let due = c.high_slot-due.ensures in omega (arith, far, no, slot, due)) in
    let at = hop-at c.args.goal c.args.count (get_or c.args.near.now (c.args.count - 1) 0) c.tick_of-tick.result c.args.near.now (timed_at c.args.self.now (get_or c.args.near.now (c.args.count - 1) 0)) c.if-tick-eq0.false c.tick_of-tick.ensures (c.requires.near (get_or c.args.near.now (c.args.count - 1) 0)) not in
    record {
      hopped = hopped-one c.args.self.now c.take_out.new.self c.hop-2.new.self c.put.new.self c.args.goal (get_or c.args.near.now (c.args.count - 1) 0) c.tick_of-tick.result c.args.count (c.args.count - 1) c.args.near.now
          at.0 c.requires.ahead at.1 not (let some = c.if-count-eq0.false in omega (arith, some)) refl c.requires.near c.requires.apart c.take_out.ensures.once c.take_out.ensures.changed c.take_out.ensures.credit c.take_out.ensures.few c.take_out.ensures.all_moves c.hop-2.ensures.hopped
          c.put.ensures.changed c.put.ensures.credit c.put.ensures.few c.put.ensures.all_moves;
    }

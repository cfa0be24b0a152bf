use Rattle.std.proofs.Common.{arith, ◌+◌, ◌≤◌, map, ap, refl, sym, ◌∙◌, subst}
use Rattle.mono_wheel.specs.Model.{CameOut}
use Rattle.mono_wheel.specs.Credit.{credit, credit_of}
use Rattle.mono_wheel.specs.Holdings.{timed_of, wheel_of}
use Rattle.mono_wheel.specs.Leap.{IsFirstFar, Known}
use Rattle.mono_wheel.proofs.FarLemmas.{first-in, far-below, far-inside, far-held, far-came, far-credit}
use Rattle.mono_wheel.proofs.LeapLemmas.{known-out}
use Rattle.mono_wheel.proofs.StepsLemmas.{fall-told}
use Rattle.mono_wheel.proofs.TickChangeLemmas.{written, held-written}
use Rattle.mono_wheel.proofs.MoveLemmas.{move-few}
use Rattle.mono_wheel.proofs.wheel.Wheel.take_far.Goals as goal

pub remove-requires-clause-within : goal.remove-requires-clause-within
remove-requires-clause-within g c =
    let at = first-in c.self.inside.elapsed c.self.inside.links.table.entries c.self.inside.links.table c.args.now c.in_ok-key.key c.entry-tick.result c.entry-tick.ensures (subst (λ w. IsFirstFar w c.args.now c.in_ok-key.key) (sym (c.self.view_is ∙ c.first_far.ensures.same)) c.in_ok-key.ensures.first) in
    far-inside c.self.inside.elapsed c.in_ok-key.key c.entry-tick.result.tick c.place-list.result c.self.inside.links.table.entries c.self.inside.links.table record { tick = 0; registered = 0 } c.self.invariant.0 at.is at.ahead at.others refl c.place-list.ensures

pub invariant_of-self : goal.invariant_of-self
invariant_of-self g c =
    let at = first-in c.self.inside.elapsed c.self.inside.links.table.entries c.self.inside.links.table c.args.now c.in_ok-key.key c.entry-tick.result c.entry-tick.ensures (subst (λ w. IsFirstFar w c.args.now c.in_ok-key.key) (sym (c.self.view_is ∙ c.first_far.ensures.same)) c.in_ok-key.ensures.first) in (
      held-written c.entry-tick.result.tick c.self.inside.links.table.entries c.remove.new.self.table c.set_entry.new.self.table c.in_ok-key.key record { tick = 0; registered = 0 } (ap (λ w. w.entries) c.remove.ensures.without) c.set_entry.ensures.written
          (far-held c.self.inside.elapsed c.in_ok-key.key c.entry-tick.result.tick c.place-list.result c.self.inside.links.table.entries c.self.inside.links.table record { tick = 0; registered = 0 } c.self.invariant.0 at.is at.ahead at.others refl c.place-list.ensures c.remove.new.self.table c.remove.ensures.without c.remove.ensures.gone),
      subst (λ es. Known c.self.inside.limit c.self.inside.near es) (sym (ap (λ w. w.entries) (written c.remove.new.self.table c.set_entry.new.self.table c.self.inside.links.table.entries c.in_ok-key.key record { tick = 0; registered = 0 } (ap (λ w. w.entries) c.remove.ensures.without) c.set_entry.ensures.written)))
          (known-out c.self.inside.limit c.self.inside.near c.self.inside.links.table.entries c.in_ok-key.key record { tick = 0; registered = 0 } (far-below c.self.inside.elapsed c.in_ok-key.key c.entry-tick.result.tick c.place-list.result c.self.inside.links.table.entries c.self.inside.links.table record { tick = 0; registered = 0 } c.self.invariant.0 at.is at.ahead at.others refl c.place-list.ensures) refl c.self.invariant.1),
    )

pub returns-clause-taken : goal.returns-clause-taken
returns-clause-taken g c =
    let at = first-in c.self.inside.elapsed c.self.inside.links.table.entries c.self.inside.links.table c.args.now c.in_ok-key.key c.entry-tick.result c.entry-tick.ensures (subst (λ w. IsFirstFar w c.args.now c.in_ok-key.key) (sym (c.self.view_is ∙ c.first_far.ensures.same)) c.in_ok-key.ensures.first) in
    subst (λ w. CameOut c.args.self.now (wheel_of c.entry-tick.result.tick record { table = w; moves = c.set_entry.new.self.moves }) c.args.now c.in_ok-key.key) (sym (written c.remove.new.self.table c.set_entry.new.self.table c.self.inside.links.table.entries c.in_ok-key.key record { tick = 0; registered = 0 } (ap (λ w. w.entries) c.remove.ensures.without) c.set_entry.ensures.written))
    (far-came c.self.inside.elapsed c.in_ok-key.key c.entry-tick.result.tick c.place-list.result c.self.inside.links.table.entries c.self.inside.links.table record { tick = 0; registered = 0 } c.self.invariant.0 at.is at.ahead at.others refl c.place-list.ensures c.remove.new.self.table c.remove.ensures.without c.remove.ensures.gone c.args.self.now c.args.now (c.self.view_is ∙ c.first_far.ensures.same) at.by)

pub returns-clause-steps : goal.returns-clause-steps
returns-clause-steps g c =
    let at = first-in c.self.inside.elapsed c.self.inside.links.table.entries c.self.inside.links.table c.args.now c.in_ok-key.key c.entry-tick.result c.entry-tick.ensures (subst (λ w. IsFirstFar w c.args.now c.in_ok-key.key) (sym (c.self.view_is ∙ c.first_far.ensures.same)) c.in_ok-key.ensures.first) in
    let falls : credit (wheel_of c.entry-tick.result.tick c.set_entry.new.self) + 1 ≤ credit_of c.self.inside.elapsed (map timed_of c.self.inside.links.table.entries) = subst (λ w. credit (wheel_of c.entry-tick.result.tick record { table = w; moves = c.set_entry.new.self.moves }) + 1 ≤ credit_of c.self.inside.elapsed (map timed_of c.self.inside.links.table.entries)) (sym (written c.remove.new.self.table c.set_entry.new.self.table c.self.inside.links.table.entries c.in_ok-key.key record { tick = 0; registered = 0 } (ap (λ w. w.entries) c.remove.ensures.without) c.set_entry.ensures.written)) (far-credit c.self.inside.elapsed c.in_ok-key.key c.entry-tick.result.tick c.place-list.result c.self.inside.links.table.entries c.self.inside.links.table record { tick = 0; registered = 0 } c.self.invariant.0 at.is at.ahead at.others refl c.place-list.ensures c.remove.new.self.table c.remove.ensures.without c.remove.ensures.gone) in
    let told = fall-told _ _ _ _ _ c.new-none.ensures c.note_credit-before.ensures c.note_credit-both.ensures in
    let seen = ap credit (c.self.view_is ∙ c.first_far.ensures.same) in
    let same = ap credit c.first_far.ensures.same in
    let spared = c.spare.ensures in
    omega (arith, falls, told, seen, same, spared)

pub returns-clause-counted : goal.returns-clause-counted
returns-clause-counted g c =
    let at = first-in c.self.inside.elapsed c.self.inside.links.table.entries c.self.inside.links.table c.args.now c.in_ok-key.key c.entry-tick.result c.entry-tick.ensures (subst (λ w. IsFirstFar w c.args.now c.in_ok-key.key) (sym (c.self.view_is ∙ c.first_far.ensures.same)) c.in_ok-key.ensures.first) in
    let falls : credit (wheel_of c.entry-tick.result.tick c.set_entry.new.self) + 1 ≤ credit_of c.self.inside.elapsed (map timed_of c.self.inside.links.table.entries) = subst (λ w. credit (wheel_of c.entry-tick.result.tick record { table = w; moves = c.set_entry.new.self.moves }) + 1 ≤ credit_of c.self.inside.elapsed (map timed_of c.self.inside.links.table.entries)) (sym (written c.remove.new.self.table c.set_entry.new.self.table c.self.inside.links.table.entries c.in_ok-key.key record { tick = 0; registered = 0 } (ap (λ w. w.entries) c.remove.ensures.without) c.set_entry.ensures.written)) (far-credit c.self.inside.elapsed c.in_ok-key.key c.entry-tick.result.tick c.place-list.result c.self.inside.links.table.entries c.self.inside.links.table record { tick = 0; registered = 0 } c.self.invariant.0 at.is at.ahead at.others refl c.place-list.ensures c.remove.new.self.table c.remove.ensures.without c.remove.ensures.gone) in
    let steps = returns-clause-steps g c in
    let seen = ap credit (c.self.view_is ∙ c.first_far.ensures.same) in
    let same = ap credit c.first_far.ensures.same in
    let out = c.remove.ensures.moves in
    let few = move-few c.place-list.result in
    let wrote = ap (λ m. m.slots) c.set_entry.ensures.moves in
    let was = ap (λ w. w.moves.slots) (c.self.view_is ∙ c.first_far.ensures.same) in
    omega (arith, falls, steps, seen, same, out, few, wrote, was)

pub returns-clause-all_counted : goal.returns-clause-all_counted
returns-clause-all_counted g c =
    let out = c.remove.ensures.all_moves in
    let wrote = ap (λ m. m.all) c.set_entry.ensures.moves in
    let spared = c.spare.ensures in
    let was = ap (λ w. w.moves.all) (c.self.view_is ∙ c.first_far.ensures.same) in
    omega (arith, out, wrote, spared, was)

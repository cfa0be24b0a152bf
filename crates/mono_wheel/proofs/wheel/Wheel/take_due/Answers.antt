use Rattle.std.proofs.Common.{arith, ◌≡◌, map, set, subst, sym, ap, refl, [], Some}
use Rattle.mono_wheel.specs.Credit.{credit, credit_of}
use Rattle.mono_wheel.specs.Holdings.{timed_of, wheel_of, DueTaken}
use Rattle.mono_wheel.proofs.CreditLemmas.{due-credit}
use Rattle.mono_wheel.specs.Lists.{list_at}
use Rattle.mono_wheel.proofs.CallLemmas.{last-in}
use Rattle.mono_wheel.proofs.DueLemmas.{due-held, due-taken, due-below}
use Rattle.mono_wheel.specs.Leap.{Known}
use Rattle.mono_wheel.proofs.LeapLemmas.{known-out}
use Rattle.mono_wheel.proofs.TickChangeLemmas.{written, held-written}
use Rattle.mono_wheel.proofs.wheel.Wheel.take_due.Goals as goal
use Rattle.mono_wheel.specs.Start.{pending_list}
use Rattle.mono_wheel.proofs.MoveLemmas.{move-pending}

pub remove-requires-clause-within : goal.remove-requires-clause-within
remove-requires-clause-within c = last-in (list_at c.self.inside.links.table pending_list) c.in_ok-key.key c.in_ok-key.ensures

pub invariant_of-self : goal.invariant_of-self
invariant_of-self c = (
  held-written c.self.inside.elapsed c.self.inside.links.table.entries c.remove.new.self.table c.set_entry.new.self.table c.in_ok-key.key record { tick = 0; registered = 0 } (ap (λ w. w.entries) c.remove.ensures.without) c.set_entry.ensures.written
      (due-held c.self.inside.elapsed c.self.inside.links.table.entries c.self.inside.links.table c.in_ok-key.key c.in_ok-key.ensures.0 c.self.invariant.0 c.in_ok-key.ensures.1 c.remove.new.self.table record { tick = 0; registered = 0 } c.remove.ensures.without c.remove.ensures.gone refl),
  subst (λ es. Known c.self.inside.limit c.self.inside.near es) (sym (ap (λ w. w.entries) (written c.remove.new.self.table c.set_entry.new.self.table c.self.inside.links.table.entries c.in_ok-key.key record { tick = 0; registered = 0 } (ap (λ w. w.entries) c.remove.ensures.without) c.set_entry.ensures.written)))
      (known-out c.self.inside.limit c.self.inside.near c.self.inside.links.table.entries c.in_ok-key.key record { tick = 0; registered = 0 } (due-below c.self.inside.elapsed c.self.inside.links.table.entries c.self.inside.links.table c.in_ok-key.key c.in_ok-key.ensures.0 c.self.invariant.0 c.in_ok-key.ensures.1) refl c.self.invariant.1),
)

pub returns-clause-due : goal.returns-clause-due
returns-clause-due c =
    subst (λ w. DueTaken c.args.self.now (wheel_of c.self.inside.elapsed record { table = w; moves = c.set_entry.new.self.moves }) (Some c.in_ok-key.key)) (sym (written c.remove.new.self.table c.set_entry.new.self.table c.self.inside.links.table.entries c.in_ok-key.key record { tick = 0; registered = 0 } (ap (λ w. w.entries) c.remove.ensures.without) c.set_entry.ensures.written))
    (due-taken c.self.inside.elapsed c.self.inside.links.table.entries c.self.inside.links.table c.in_ok-key.key c.in_ok-key.ensures.0 c.self.invariant.0 c.in_ok-key.ensures.1 c.remove.new.self.table c.args.self.now record { tick = 0; registered = 0 } c.self.view_is c.remove.ensures.without
    (c.remove.ensures.parts c.in_ok-key.ensures.0 [] c.in_ok-key.ensures.1) c.remove.ensures.gone refl)

pub returns-clause-credit : goal.returns-clause-credit
returns-clause-credit c =
    subst (λ w. credit (wheel_of c.self.inside.elapsed record { table = w; moves = c.set_entry.new.self.moves }) ≡ credit c.args.self.now) (sym (written c.remove.new.self.table c.set_entry.new.self.table c.self.inside.links.table.entries c.in_ok-key.key record { tick = 0; registered = 0 } (ap (λ w. w.entries) c.remove.ensures.without) c.set_entry.ensures.written))
    (subst (λ w. credit_of c.self.inside.elapsed (map timed_of (set c.self.inside.links.table.entries c.in_ok-key.key record { tick = 0; registered = 0 })) ≡ credit_of w.elapsed w.entries) c.self.view_is
    (due-credit c.self.inside.elapsed c.self.inside.links.table.entries c.self.inside.links.table c.in_ok-key.key c.in_ok-key.ensures.0 record { tick = 0; registered = 0 } c.self.invariant.0 c.in_ok-key.ensures.1 refl))

pub set_entry-requires : goal.set_entry-requires
set_entry-requires c = c.remove.ensures.loose.known

pub returns-clause-moves : goal.returns-clause-moves
returns-clause-moves c =
    let out = c.remove.ensures.moves in
    let none = move-pending pending_list refl in
    let wrote = ap (λ m. m.slots) c.set_entry.ensures.moves in
    let was = ap (λ w. w.moves.slots) c.self.view_is in
    omega (arith, out, none, wrote, was)

pub returns-clause-all_moves : goal.returns-clause-all_moves
returns-clause-all_moves c =
    let out = c.remove.ensures.all_moves in
    let wrote = ap (λ m. m.all) c.set_entry.ensures.moves in
    let was = ap (λ w. w.moves.all) c.self.view_is in
    omega (arith, out, wrote, was)

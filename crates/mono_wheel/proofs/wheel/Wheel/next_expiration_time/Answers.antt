use Rattle.std.proofs.Common.{inl, inr}
use Rattle.mono_wheel.proofs.PollLemmas.{some-pending, next-start}
use Rattle.mono_wheel.proofs.wheel.Wheel.next_expiration_time.Goals as goal

pub returns-in-Some-clause-next : goal.returns-in-Some-clause-next
returns-in-Some-clause-next c =
    inl (some-pending c.self.inside.elapsed c.self.inside.links.table.entries c.self.inside.links.table c.args.self.now c.self.invariant.0 c.self.view_is c.in-Some.field-0 c.in-Some.ensures.0 c.in-Some.ensures.1)

pub returns-in-Some-next_slot-clause-next : goal.returns-in-Some-next_slot-clause-next
returns-in-Some-next_slot-clause-next c =
    inr (next-start c.self.inside.elapsed c.self.inside.links.table.entries c.self.inside.links.table c.args.self.now c.self.invariant.0 c.self.view_is c.in-Some-next_slot.slot.list c.in-Some-next_slot.slot.start c.in-None.ensures c.in-Some-next_slot.ensures)

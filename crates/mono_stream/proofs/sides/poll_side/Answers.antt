use Rattle.std.proofs.Common.{Some, refl}
use Rattle.mono_stream.proofs.SideComeLemmas.{side_first, side_waits, side_over}
use Rattle.mono_stream.proofs.sides.poll_side.Goals as goal

pub returns-in-Ready-Some-clause-given : goal.returns-in-Ready-Some-clause-given
returns-in-Ready-Some-clause-given g c = side_first g.S.Stream.gives _ (Some c.poll_next.new.self) _ c.in-Some.is c.poll_next.new.self c.in-Ready-Some.item refl (rw (c.in-Ready-Some.is, c.in-Ready-Some.field-0-is) at c.poll_next.ensures.given)

pub returns-in-Ready-None-clause-given : goal.returns-in-Ready-None-clause-given
returns-in-Ready-None-clause-given g c = side_over g.S.Stream.gives c.take.new.self c.take.ensures.after

pub returns-in-Pending-clause-given : goal.returns-in-Pending-clause-given
returns-in-Pending-clause-given g c = side_waits g.S.Stream.gives _ (Some c.poll_next.new.self) _ c.in-Some.is c.poll_next.new.self refl (rw c.in-Pending.is at c.poll_next.ensures.given)

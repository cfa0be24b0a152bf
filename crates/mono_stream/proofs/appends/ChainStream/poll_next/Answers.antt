use Rattle.std.proofs.Common.{refl}
use Rattle.mono_stream.proofs.SideComeLemmas.{first_comes, first_waits, second_comes}
use Rattle.mono_stream.proofs.appends.ChainStream.poll_next.Goals as goal

pub returns-in-Ready-Some-clause-given : goal.returns-in-Ready-Some-clause-given
returns-in-Ready-Some-clause-given g c = first_comes g.A.Stream.gives g.B.Stream.gives c.args.self.now (record { first = c.poll_side.new.side; second = c.args.self.now.second }) c.in-Ready-Some.item (rw (c.in-Ready-Some.is, c.in-Ready-Some.field-0-is) at c.poll_side.ensures.given) refl

pub returns-in-Ready-None-clause-given : goal.returns-in-Ready-None-clause-given
returns-in-Ready-None-clause-given g c = second_comes g.A.Stream.gives g.B.Stream.gives c.args.self.now (record { first = c.poll_side.new.side; second = c.poll_next.new.self }) (rw (c.in-Ready-None.is, c.in-Ready-None.field-0-is) at c.poll_side.ensures.given) c.poll_next.result c.poll_next.ensures.given

pub returns-in-Pending-clause-given : goal.returns-in-Pending-clause-given
returns-in-Pending-clause-given g c = first_waits g.A.Stream.gives g.B.Stream.gives c.args.self.now (record { first = c.poll_side.new.side; second = c.args.self.now.second }) (rw c.in-Pending.is at c.poll_side.ensures.given) refl

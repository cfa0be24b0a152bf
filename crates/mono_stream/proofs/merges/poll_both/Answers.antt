use Rattle.std.proofs.Common.{◌∷◌, refl}
use Rattle.mono_stream.proofs.SideComeLemmas.{ended_on, near_comes, far_comes, both_wait, far_on}
use Rattle.mono_stream.proofs.merges.poll_both.Goals as goal

pub returns-in-Ready-Some-clause-given : goal.returns-in-Ready-Some-clause-given
returns-in-Ready-Some-clause-given g c = near_comes g.A.Stream.gives g.B.Stream.gives c.args.near.now c.poll_side.new.side c.args.far.now c.args.far.now c.in-Ready-Some.item (rw (c.in-Ready-Some.is, c.in-Ready-Some.field-0-is) at c.poll_side.ensures.given) refl

pub returns-in-Ready-None-clause-given : goal.returns-in-Ready-None-clause-given
returns-in-Ready-None-clause-given g c =
    far_on g.A.Stream.gives g.B.Stream.gives c.args.near.now c.poll_side.new.side c.args.far.now c.poll_side-in-Ready-None.new.side (ended_on g.A.Stream.gives c.args.near.now c.poll_side.new.side (rw (c.in-Ready-None.is, c.in-Ready-None.field-0-is) at c.poll_side.ensures.given)) c.poll_side-in-Ready-None.result c.poll_side-in-Ready-None.ensures.given

pub returns-in-Ready-Some-poll_side-clause-given : goal.returns-in-Ready-Some-poll_side-clause-given
returns-in-Ready-Some-poll_side-clause-given g c =
    far_comes g.A.Stream.gives g.B.Stream.gives c.args.near.now c.poll_side.new.side c.args.far.now c.poll_side-in-Pending.new.side (rw c.in-Pending.is at c.poll_side.ensures.given) c.in-Ready-Some-poll_side.item (rw (c.in-Ready-Some-poll_side.is, c.in-Ready-Some-poll_side.field-0-is) at c.poll_side-in-Pending.ensures.given)

pub returns-in-Ready-None-poll_side-clause-given : goal.returns-in-Ready-None-poll_side-clause-given
returns-in-Ready-None-poll_side-clause-given g c =
    λ z zs. both_wait g.A.Stream.gives g.B.Stream.gives c.args.near.now c.poll_side.new.side c.args.far.now c.poll_side-in-Pending.new.side (rw c.in-Pending.is at c.poll_side.ensures.given) (ended_on g.B.Stream.gives c.args.far.now c.poll_side-in-Pending.new.side (rw (c.in-Ready-None-poll_side.is, c.in-Ready-None-poll_side.field-0-is) at c.poll_side-in-Pending.ensures.given)) (z ∷ zs)

pub returns-in-Pending-poll_side-clause-given : goal.returns-in-Pending-poll_side-clause-given
returns-in-Pending-poll_side-clause-given g c =
    λ z zs. both_wait g.A.Stream.gives g.B.Stream.gives c.args.near.now c.poll_side.new.side c.args.far.now c.poll_side-in-Pending.new.side (rw c.in-Pending.is at c.poll_side.ensures.given) (rw c.in-Pending-poll_side.is at c.poll_side-in-Pending.ensures.given) (z ∷ zs)

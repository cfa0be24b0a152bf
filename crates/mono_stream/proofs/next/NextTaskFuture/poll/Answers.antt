use Rattle.mono_stream.proofs.ComeLemmas.{next_gives, next_waits}
use Rattle.mono_stream.proofs.next.NextTaskFuture.poll.Goals as goal

pub returns-in-Ready-None-clause-given : goal.returns-in-Ready-None-clause-given
returns-in-Ready-None-clause-given g c = next_gives g.S.Stream _ _ _ _ _ (rw (c.in-Ready-None.is, c.in-Ready-None.field-0-is) at c.poll_next.ensures.polled) (rw (c.in-Ready-None.is, c.in-Ready-None.field-0-is) at c.poll_next.ensures.given)

pub returns-in-Ready-Some-clause-given : goal.returns-in-Ready-Some-clause-given
returns-in-Ready-Some-clause-given g c = next_gives g.S.Stream _ _ _ _ _ (rw (c.in-Ready-Some.is, c.in-Ready-Some.field-0-is) at c.poll_next.ensures.polled) (rw (c.in-Ready-Some.is, c.in-Ready-Some.field-0-is) at c.poll_next.ensures.given)

pub returns-in-Pending-clause-same : goal.returns-in-Pending-clause-same
returns-in-Pending-clause-same g c = next_waits g.S.Stream _ _ (rw c.in-Pending.is at c.poll_next.ensures.given)

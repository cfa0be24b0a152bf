use Rattle.std.proofs.Common.{refl}
use Rattle.mono_stream.proofs.chains.finish.Goals as goal

pub returns-in-Ready-clause-given : goal.returns-in-Ready-clause-given
returns-in-Ready-clause-given g c = (rw c.in-Ready.is at c.poll.ensures.given, refl)

pub returns-in-Pending-clause-given : goal.returns-in-Pending-clause-given
returns-in-Pending-clause-given g c = (_, refl, rw c.in-Pending.is at c.poll.ensures.same)

use Rattle.std.proofs.Common.{refl}
use Rattle.mono_stream.proofs.unfolds.unfold_one.Goals as goal

pub returns-in-Pending-clause-given : goal.returns-in-Pending-clause-given
returns-in-Pending-clause-given g c = (_, refl, rw c.in-Pending.is at c.poll.ensures.same)

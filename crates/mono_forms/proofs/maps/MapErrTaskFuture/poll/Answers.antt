use Rattle.std.proofs.Common.{Ok, Err, rules}
use Rattle.mono_forms.proofs.maps.MapErrTaskFuture.poll.Goals as goal

pub returns-in-Ready-Ok-clause-given : goal.returns-in-Ready-Ok-clause-given
returns-in-Ready-Ok-clause-given g c = rw c.in-Some.is (Ok c.in-Ready-Ok.x, rw c.in-Ready-Ok.field-0-is at c.in-Ready-Ok.ensures.given, search rules)

pub returns-in-Ready-Err-clause-given : goal.returns-in-Ready-Err-clause-given
returns-in-Ready-Err-clause-given g c = rw c.in-Some.is (Err c.in-Ready-Err.error, rw c.in-Ready-Err.field-0-is at c.in-Ready-Err.ensures.given, search rules)

pub returns-in-Pending-clause-same : goal.returns-in-Pending-clause-same
returns-in-Pending-clause-same g c = λ x h. rw c.in-Some.is (h.0, c.in-Pending.ensures.same h.0 h.1, h.2)

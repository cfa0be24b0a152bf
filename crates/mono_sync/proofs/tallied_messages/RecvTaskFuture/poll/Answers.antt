use Rattle.std.specs.Prelude.{Some}
use Rattle.std.proofs.Common.{ap, inr}
use Rattle.mono_sync.proofs.tallied_messages.RecvTaskFuture.poll.Goals as goal

pub returns-in-Joined-clause-polled : goal.returns-in-Joined-clause-polled
returns-in-Joined-clause-polled g c = (inr (c.in-Joined.ticket, (ap Some c.number.ensures, c.in-Joined.ensures.answer, c.in-Joined.ensures.work)), tt)

use Rattle.std.proofs.Common.{refl}
use Rattle.mono_combine.proofs.maybe.MaybeDoneTaskFuture.poll.Goals as goal

pub returns-in-Ready-clause-polled : goal.returns-in-Ready-clause-polled
returns-in-Ready-clause-polled g c = (
  rw c.in-Future.is (record {
    answer = _;
    left = _;
    middle = _;
    polled = c.poll.ensures.polled;
    rest = rw c.in-Ready.is (c.give_up.ensures.cancelled, refl);
  }),
  refl,
)

pub returns-in-Ready-clause-reached : goal.returns-in-Ready-clause-reached
returns-in-Ready-clause-reached g c = g.met.C.Context.reaches_on _ _ _ c.poll.ensures.reached c.give_up.ensures.reached

pub returns-in-Pending-clause-polled : goal.returns-in-Pending-clause-polled
returns-in-Pending-clause-polled g c = (
  rw c.in-Future.is (record {
    answer = _;
    left = _;
    middle = _;
    polled = c.poll.ensures.polled;
    rest = rw c.in-Pending.is (refl, refl);
  }),
  refl,
)

pub returns-in-Pending-clause-again : goal.returns-in-Pending-clause-again
returns-in-Pending-clause-again g c = rw c.in-Pending.is at c.poll.ensures.again

pub returns-in-Pending-clause-callable : goal.returns-in-Pending-clause-callable
returns-in-Pending-clause-callable g c = c.poll.ensures.callable

pub returns-in-Pending-clause-reached : goal.returns-in-Pending-clause-reached
returns-in-Pending-clause-reached g c = c.poll.ensures.reached

pub returns-in-Done-clause-polled : goal.returns-in-Done-clause-polled
returns-in-Done-clause-polled g c = (rw c.in-Done.is (refl, refl), rw c.in-Done.is refl)

pub returns-in-Done-clause-callable : goal.returns-in-Done-clause-callable
returns-in-Done-clause-callable g c = c.requires.callable

pub returns-in-Done-clause-reached : goal.returns-in-Done-clause-reached
returns-in-Done-clause-reached g c = g.met.C.Context.reaches_itself _

use Rattle.std.proofs.Common.{refl}
use Rattle.mono_model.specs.declared.poll.Poll.TheVariants.{Ready, Pending}
use Rattle.mono_combine.proofs.unlikes.OneOf4TaskFuture.poll.Goals as goal

pub returns-in-Ready-clause-polled : goal.returns-in-Ready-clause-polled
returns-in-Ready-clause-polled g c = rw c.in-First.is (record { answer = Ready c.in-Ready.output; left = _; polled = c.in-Ready.ensures.polled; names = refl; stays = refl })

pub returns-in-Ready-clause-given : goal.returns-in-Ready-clause-given
returns-in-Ready-clause-given g c = rw c.in-First.is (_, c.in-Ready.ensures.given, refl)

pub returns-in-Ready-clause-callable : goal.returns-in-Ready-clause-callable
returns-in-Ready-clause-callable g c = c.poll.ensures.callable

pub returns-in-Ready-clause-reached : goal.returns-in-Ready-clause-reached
returns-in-Ready-clause-reached g c = c.poll.ensures.reached

pub returns-in-Pending-clause-polled : goal.returns-in-Pending-clause-polled
returns-in-Pending-clause-polled g c = rw c.in-First.is (record { answer = Pending; left = _; polled = c.in-Pending.ensures.polled; names = refl; stays = refl })

pub returns-in-Pending-clause-same : goal.returns-in-Pending-clause-same
returns-in-Pending-clause-same g c = rw c.in-First.is (λ out h. (h.0, c.in-Pending.ensures.same h.0 h.1, h.2))

pub returns-in-Pending-clause-callable : goal.returns-in-Pending-clause-callable
returns-in-Pending-clause-callable g c = c.poll.ensures.callable

pub returns-in-Pending-clause-reached : goal.returns-in-Pending-clause-reached
returns-in-Pending-clause-reached g c = c.poll.ensures.reached

pub returns-in-Ready-poll-clause-polled : goal.returns-in-Ready-poll-clause-polled
returns-in-Ready-poll-clause-polled g c = rw c.in-Second.is (record { answer = Ready c.in-Ready-poll.output; left = _; polled = c.in-Ready-poll.ensures.polled; names = refl; stays = refl })

pub returns-in-Ready-poll-clause-given : goal.returns-in-Ready-poll-clause-given
returns-in-Ready-poll-clause-given g c = rw c.in-Second.is (_, c.in-Ready-poll.ensures.given, refl)

pub returns-in-Ready-poll-clause-callable : goal.returns-in-Ready-poll-clause-callable
returns-in-Ready-poll-clause-callable g c = c.poll-in-Second.ensures.callable

pub returns-in-Ready-poll-clause-reached : goal.returns-in-Ready-poll-clause-reached
returns-in-Ready-poll-clause-reached g c = c.poll-in-Second.ensures.reached

pub returns-in-Pending-poll-clause-polled : goal.returns-in-Pending-poll-clause-polled
returns-in-Pending-poll-clause-polled g c = rw c.in-Second.is (record { answer = Pending; left = _; polled = c.in-Pending-poll.ensures.polled; names = refl; stays = refl })

pub returns-in-Pending-poll-clause-same : goal.returns-in-Pending-poll-clause-same
returns-in-Pending-poll-clause-same g c = rw c.in-Second.is (λ out h. (h.0, c.in-Pending-poll.ensures.same h.0 h.1, h.2))

pub returns-in-Pending-poll-clause-callable : goal.returns-in-Pending-poll-clause-callable
returns-in-Pending-poll-clause-callable g c = c.poll-in-Second.ensures.callable

pub returns-in-Pending-poll-clause-reached : goal.returns-in-Pending-poll-clause-reached
returns-in-Pending-poll-clause-reached g c = c.poll-in-Second.ensures.reached

pub returns-in-Ready-poll-2-clause-polled : goal.returns-in-Ready-poll-2-clause-polled
returns-in-Ready-poll-2-clause-polled g c = rw c.in-Third.is (record { answer = Ready c.in-Ready-poll-2.output; left = _; polled = c.in-Ready-poll-2.ensures.polled; names = refl; stays = refl })

pub returns-in-Ready-poll-2-clause-given : goal.returns-in-Ready-poll-2-clause-given
returns-in-Ready-poll-2-clause-given g c = rw c.in-Third.is (_, c.in-Ready-poll-2.ensures.given, refl)

pub returns-in-Ready-poll-2-clause-callable : goal.returns-in-Ready-poll-2-clause-callable
returns-in-Ready-poll-2-clause-callable g c = c.poll-in-Third.ensures.callable

pub returns-in-Ready-poll-2-clause-reached : goal.returns-in-Ready-poll-2-clause-reached
returns-in-Ready-poll-2-clause-reached g c = c.poll-in-Third.ensures.reached

pub returns-in-Pending-poll-2-clause-polled : goal.returns-in-Pending-poll-2-clause-polled
returns-in-Pending-poll-2-clause-polled g c = rw c.in-Third.is (record { answer = Pending; left = _; polled = c.in-Pending-poll-2.ensures.polled; names = refl; stays = refl })

pub returns-in-Pending-poll-2-clause-same : goal.returns-in-Pending-poll-2-clause-same
returns-in-Pending-poll-2-clause-same g c = rw c.in-Third.is (λ out h. (h.0, c.in-Pending-poll-2.ensures.same h.0 h.1, h.2))

pub returns-in-Pending-poll-2-clause-callable : goal.returns-in-Pending-poll-2-clause-callable
returns-in-Pending-poll-2-clause-callable g c = c.poll-in-Third.ensures.callable

pub returns-in-Pending-poll-2-clause-reached : goal.returns-in-Pending-poll-2-clause-reached
returns-in-Pending-poll-2-clause-reached g c = c.poll-in-Third.ensures.reached

pub returns-in-Ready-poll-3-clause-polled : goal.returns-in-Ready-poll-3-clause-polled
returns-in-Ready-poll-3-clause-polled g c = rw c.in-Fourth.is (record { answer = Ready c.in-Ready-poll-3.output; left = _; polled = c.in-Ready-poll-3.ensures.polled; names = refl; stays = refl })

pub returns-in-Ready-poll-3-clause-given : goal.returns-in-Ready-poll-3-clause-given
returns-in-Ready-poll-3-clause-given g c = rw c.in-Fourth.is (_, c.in-Ready-poll-3.ensures.given, refl)

pub returns-in-Ready-poll-3-clause-callable : goal.returns-in-Ready-poll-3-clause-callable
returns-in-Ready-poll-3-clause-callable g c = c.poll-in-Fourth.ensures.callable

pub returns-in-Ready-poll-3-clause-reached : goal.returns-in-Ready-poll-3-clause-reached
returns-in-Ready-poll-3-clause-reached g c = c.poll-in-Fourth.ensures.reached

pub returns-in-Pending-poll-3-clause-polled : goal.returns-in-Pending-poll-3-clause-polled
returns-in-Pending-poll-3-clause-polled g c = rw c.in-Fourth.is (record { answer = Pending; left = _; polled = c.in-Pending-poll-3.ensures.polled; names = refl; stays = refl })

pub returns-in-Pending-poll-3-clause-same : goal.returns-in-Pending-poll-3-clause-same
returns-in-Pending-poll-3-clause-same g c = rw c.in-Fourth.is (λ out h. (h.0, c.in-Pending-poll-3.ensures.same h.0 h.1, h.2))

pub returns-in-Pending-poll-3-clause-callable : goal.returns-in-Pending-poll-3-clause-callable
returns-in-Pending-poll-3-clause-callable g c = c.poll-in-Fourth.ensures.callable

pub returns-in-Pending-poll-3-clause-reached : goal.returns-in-Pending-poll-3-clause-reached
returns-in-Pending-poll-3-clause-reached g c = c.poll-in-Fourth.ensures.reached

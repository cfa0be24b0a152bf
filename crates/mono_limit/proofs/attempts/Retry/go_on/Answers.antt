use Rattle.std.proofs.Common.{refl}
use Rattle.mono_limit.specs.RetryGives.{RetryGives}
use Rattle.mono_limit.proofs.RetryGivesLemmas.{waits, ends_with, fails_narrow}
use Rattle.mono_limit.proofs.attempts.Retry.go_on.Goals as goal

pub returns-in-Pending-clause-tries : goal.returns-in-Pending-clause-tries
returns-in-Pending-clause-tries g c = record { answer = _; after = _; middle = _; polled = c.poll.ensures.polled; rest = rw c.in-Pending.is (refl, refl, refl) }

pub returns-in-Ready-Ok-clause-tries : goal.returns-in-Ready-Ok-clause-tries
returns-in-Ready-Ok-clause-tries g c =
    record { answer = _; after = _; middle = _; polled = c.poll.ensures.polled; rest = rw (c.in-Ready-Ok.is, c.in-Ready-Ok.field-0-is) (_, c.cancel.ensures.cancelled, c.end.ensures.ends) }

pub returns-in-Ready-Ok-clause-live : goal.returns-in-Ready-Ok-clause-live
returns-in-Ready-Ok-clause-live g c = rw c.end.ensures.ends.over tt

pub returns-in-Ready-Ok-clause-reached : goal.returns-in-Ready-Ok-clause-reached
returns-in-Ready-Ok-clause-reached g c = g.met.C.Context.reaches_on _ _ _ (g.met.C.Context.reaches_on _ _ _ c.poll.ensures.reached c.cancel.ensures.reached) c.end.ensures.reached

pub returns-in-Ready-Err-clause-tries : goal.returns-in-Ready-Err-clause-tries
returns-in-Ready-Err-clause-tries g c =
    record { answer = _; after = _; middle = _; polled = c.poll.ensures.polled; rest = rw (c.in-Ready-Err.is, c.in-Ready-Err.field-0-is) (_, c.cancel-in-Ready-Err.ensures.cancelled, c.fail.ensures.fails) }

pub returns-in-Ready-Err-clause-reached : goal.returns-in-Ready-Err-clause-reached
returns-in-Ready-Err-clause-reached g c =
    g.met.C.Context.reaches_on _ _ _ (g.met.C.Context.reaches_on _ _ _ c.poll.ensures.reached c.cancel-in-Ready-Err.ensures.reached) c.fail.ensures.reached

pub returns-in-Pending-clause-gives : goal.returns-in-Pending-clause-gives
returns-in-Pending-clause-gives g c = waits g.F.TaskFuture.gives g.G.FnMut c.args.self.now c.args.attempt c.poll.new.self (rw c.in-Pending.is at c.poll.ensures.same)

pub returns-in-Ready-Ok-clause-gives : goal.returns-in-Ready-Ok-clause-gives
returns-in-Ready-Ok-clause-gives g c =
    ends_with g.F.TaskFuture.gives g.G.FnMut c.args.self.now c.args.attempt c.in-Ready-Ok.value (rw (c.in-Ready-Ok.is, c.in-Ready-Ok.field-0-is) at c.poll.ensures.given) c.end.result
    (RetryGives g.F.TaskFuture.gives g.G.FnMut c.end.new.self) c.end.ensures.ends.answers

pub returns-in-Ready-Err-clause-gives : goal.returns-in-Ready-Err-clause-gives
returns-in-Ready-Err-clause-gives g c =
    fails_narrow g.F.TaskFuture.gives g.G.FnMut g.C.TimeContext.sleeps g.C.Context.work g.C.Context.reaches c.args.self.now.left c.in-Ready-Err.error _ c.args.self.now c.args.attempt
    (rw (c.in-Ready-Err.is, c.in-Ready-Err.field-0-is) at c.poll.ensures.given) c.cancel-in-Ready-Err.new.cx c.fail.new.cx c.fail.result c.fail.new.self c.fail.ensures.fails

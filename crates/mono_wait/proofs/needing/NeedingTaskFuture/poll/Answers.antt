use Rattle.std.proofs.Common.{refl}
use Rattle.mono_wait.specs.Needings.{keeps_on, keeps_now}
use Rattle.mono_wait.proofs.needing.NeedingTaskFuture.poll.Goals as goal

pub returns-clause-polled : goal.returns-clause-polled
returns-clause-polled g c = (
  c.poll.ensures.polled,
  refl,
  c.poll.ensures.reached,
  keeps_now g.A.TaskFuture g.C.Context.number g.C.Context.work g.C.Context.reaches g.C.WaitContext.watcher (g.N.Names.names c.args.self.now.needs) c.args.self.now.future c.args.cx.now c.poll.result c.poll.new.self c.poll.new.cx c.requires.callable.1 c.poll.ensures.polled c.poll.ensures.reached,
)

pub returns-clause-callable : goal.returns-clause-callable
returns-clause-callable g c = (
  c.poll.ensures.callable,
  keeps_on g.A.TaskFuture g.C.Context.number g.C.Context.work g.C.Context.reaches g.C.WaitContext.watcher (g.N.Names.names c.args.self.now.needs) c.args.self.now.future c.args.cx.now c.poll.result c.poll.new.self c.poll.new.cx c.requires.callable.1 c.poll.ensures.polled,
)

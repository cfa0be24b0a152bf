use Rattle.mono_rt.specs.Reaches.{reaches_on}
use Rattle.test_runtime.proofs.submits.BusyTaskFutureOwn.poll.Goals as goal

pub returns-clause-reached : goal.returns-clause-reached
returns-clause-reached g c = reaches_on (λ n. n) c.args.cx.now c.keep_waker.new.cx c.wake.new.self c.keep_waker.ensures c.wake.ensures.reached

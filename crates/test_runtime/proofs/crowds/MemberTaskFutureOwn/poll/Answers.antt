use Rattle.mono_rt.specs.Reaches.{reaches_on}
use Rattle.test_runtime.proofs.crowds.MemberTaskFutureOwn.poll.Goals as goal

pub returns-in-Err-clause-reached : goal.returns-in-Err-clause-reached
returns-in-Err-clause-reached g c = reaches_on (λ n. n) c.args.cx.now c.act.new.cx c.goes_on.new.cx c.act.ensures c.goes_on.ensures

use Rattle.mono_rt.specs.Reaches.{reaches_itself}
use Rattle.test_runtime.proofs.submits.BusyTaskFutureOwn.cancel.Goals as goal

pub returns-clause-reached : goal.returns-clause-reached
returns-clause-reached c = reaches_itself _ _

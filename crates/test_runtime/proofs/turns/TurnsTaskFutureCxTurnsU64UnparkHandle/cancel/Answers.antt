use Rattle.mono_rt.specs.Reaches.{reaches_itself}
use Rattle.test_runtime.proofs.turns.TurnsTaskFutureCxTurnsU64UnparkHandle.cancel.Goals as goal

pub returns-clause-reached : goal.returns-clause-reached
returns-clause-reached g c = reaches_itself _ _

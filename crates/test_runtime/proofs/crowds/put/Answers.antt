use Rattle.mono_rt.specs.Reaches.{reaches_itself}
use Rattle.test_runtime.proofs.crowds.put.Goals as goal

pub returns-in_default : goal.returns-in_default
returns-in_default c = reaches_itself (λ n. n) c.args.cx.now

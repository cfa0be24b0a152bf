use Rattle.mono_rt.specs.Reaches.{reaches_itself, reaches_on}
use Rattle.test_runtime.proofs.crowds.put_all.Goals as goal

pub loop-init : goal.loop-init
loop-init c = reaches_itself (λ n. n) c.args.cx.now

pub loop-preserved : goal.loop-preserved
loop-preserved c = reaches_on (λ n. n) c.args.cx.now c.loop.cx c.put.new.cx c.loop.invariant c.put.ensures

use Rattle.mono_rt.specs.Reaches.{reaches_itself, reaches_on}
use Rattle.test_runtime.proofs.turns.Turns.ask_all.Goals as goal

pub loop-place-init : goal.loop-place-init
loop-place-init g c = reaches_itself g.O.Outcome.output_number c.args.cx.now

pub loop-place-preserved : goal.loop-place-preserved
loop-place-preserved g c = reaches_on g.O.Outcome.output_number c.args.cx.now c.loop-place.cx c.ask.new.cx c.loop-place.invariant c.ask.ensures

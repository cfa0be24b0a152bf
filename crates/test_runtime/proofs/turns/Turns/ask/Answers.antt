use Rattle.mono_rt.specs.Reaches.{reaches_itself}
use Rattle.test_runtime.proofs.turns.Turns.ask.Goals as goal

pub returns-in-SetFlag : goal.returns-in-SetFlag
returns-in-SetFlag g c = reaches_itself g.O.Outcome.output_number c.args.cx.now

pub returns-in-Waker : goal.returns-in-Waker
returns-in-Waker g c = c.remote_waker.ensures.reached

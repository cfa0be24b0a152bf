use Rattle.mono_rt.specs.Reaches.{Reaches}
use Rattle.test_runtime.proofs.turns.Turns.ask_all.Given as goal

abbrev pub invariant-loop-place : goal.invariant-loop-place
invariant-loop-place g l = Reaches g.O.Outcome.output_number l.fn.cx l.cx

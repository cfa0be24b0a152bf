use Rattle.mono_rt.specs.Reaches.{Reaches}
use Rattle.test_runtime.proofs.crowds.put_all.Given as goal

abbrev pub invariant-loop : goal.invariant-loop
invariant-loop l = Reaches (λ n. n) l.fn.cx l.cx

use Rattle.std.proofs.Common.{[], ◌∷◌}
use Rattle.mono_serve.proofs.leases.Leases.serve_all.Goals as goal

pub loop-task-preserved : goal.loop-task-preserved
loop-task-preserved c = λ tasks b serves. c.loop-task.invariant (c.in-Some.task ∷ tasks) b (c.serve.new.self, c.in-Some.ensures.serves, serves)

pub returns : goal.returns
returns c = c.loop-task.invariant [] c.serve.new.self c.in_default.ensures.serves

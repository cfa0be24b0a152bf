use Rattle.std.proofs.Common.{ℕ, List}
use Rattle.std.specs.VecDeque.{deque_len}
use Rattle.mono_serve.specs.LeaseCalls.{ServesAll}
use Rattle.mono_serve.specs.declared.leases.Leases.{Leases}
use Rattle.mono_serve.proofs.leases.Leases.serve_all.Given as goal

-- The tasks that leave the line from here on follow those that left it.
abbrev pub invariant-loop-task : goal.invariant-loop-task
invariant-loop-task l = (tasks : List ℕ) (b : Leases) → ServesAll l.self tasks b → (all : List ℕ) × ServesAll l.fn.self all b

abbrev pub decreases-loop-task : goal.decreases-loop-task
decreases-loop-task l = deque_len l.self.waiters

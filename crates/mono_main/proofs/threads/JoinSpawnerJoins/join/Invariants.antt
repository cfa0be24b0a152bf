use Rattle.std.proofs.Common.{◌≡◌, vec_len}
use Rattle.mono_main.proofs.threads.JoinSpawnerJoins.join.Given as goal

abbrev pub invariant-loop-thread : goal.invariant-loop-thread
invariant-loop-thread g l = l.self.starts ≡ l.initial.self.starts

abbrev pub decreases-loop-thread : goal.decreases-loop-thread
decreases-loop-thread g l = vec_len l.self.threads

use Rattle.std.proofs.Common.{◌≡◌, vec_len}
use Rattle.mono_trace.specs.Queues.{unmoved}
use Rattle.mono_trace.proofs.queues.take_back.Given as goal

abbrev pub invariant-loop-change : goal.invariant-loop-change
invariant-loop-change l = unmoved l.moves.items l.items.items ≡ unmoved l.initial.moves.items l.initial.items.items

abbrev pub decreases-loop-change : goal.decreases-loop-change
decreases-loop-change l = vec_len l.moves

use Rattle.std.proofs.Common.{◌≡◌, vec_len}
use Rattle.mono_trace.specs.Versions.{undone}
use Rattle.mono_trace.proofs.places.take_back.Given as goal

abbrev pub invariant-loop-change : goal.invariant-loop-change
invariant-loop-change g l = undone l.changes.items l.items.items ≡ undone l.initial.changes.items l.initial.items.items

abbrev pub decreases-loop-change : goal.decreases-loop-change
decreases-loop-change g l = vec_len l.changes

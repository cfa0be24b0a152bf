use Rattle.std.proofs.Common.{◌≡◌, None}
use Rattle.example_services.proofs.takes.spawn_all.Given as goal

abbrev pub invariant-loop-bucket : goal.invariant-loop-bucket
invariant-loop-bucket l = l.runtime.cx.parts.tasks.turn ≡ None

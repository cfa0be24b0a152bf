use Rattle.std.proofs.Common.{◌<◌}
use Rattle.mono_wheel.proofs.leap.sink.Given as goal

abbrev pub invariant-loop : goal.invariant-loop
invariant-loop l = l.at < 512

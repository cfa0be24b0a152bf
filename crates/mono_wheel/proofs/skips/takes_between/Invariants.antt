use Rattle.std.proofs.Common.{◌≡◌, ◌+◌, ◌≤◌}
use Rattle.mono_wheel.specs.Credit.{takes}
use Rattle.mono_wheel.specs.Skips.{at_tick}
use Rattle.mono_wheel.proofs.skips.takes_between.Given as goal

abbrev pub invariant-loop : goal.invariant-loop
invariant-loop l = record {
  passed : l.counter ≤ l.at;
  low : l.at ≤ l.goal;
  few : l.start + l.count ≤ l.at;
  counted : l.count + takes l.at (at_tick l.tick) ≡ takes l.start (at_tick l.tick);
}

use Rattle.std.proofs.Common.{◌≤◌, ◌-◌}
use Rattle.std.specs.Io.KnownBytes.{Keeps}
use Rattle.mono_text.proofs.tries.write_again.Given as goal

abbrev pub invariant-tries : goal.invariant-tries
invariant-tries g l = record {
  kept : Keeps (g.W.Write.contents l.initial.writer) (g.W.Write.contents l.writer);
  few : l.tries ≤ 1000;
}

abbrev pub decreases-tries : goal.decreases-tries
decreases-tries g l = 1001 - l.tries

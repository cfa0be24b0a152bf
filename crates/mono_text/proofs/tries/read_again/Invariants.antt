use Rattle.std.proofs.Common.{◌≡◌, ◌≤◌, ◌-◌, length}
use Rattle.std.specs.Io.KnownBytes.{Keeps}
use Rattle.mono_text.proofs.tries.read_again.Given as goal

abbrev pub invariant-tries : goal.invariant-tries
invariant-tries g l = record {
  same : length l.buffer ≡ length l.initial.buffer;
  kept : Keeps (g.R.Read.remaining l.initial.reader) (g.R.Read.remaining l.reader);
  few : l.tries ≤ 1000;
}

abbrev pub decreases-tries : goal.decreases-tries
decreases-tries g l = 1001 - l.tries

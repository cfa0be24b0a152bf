use Rattle.std.proofs.Common.{◌<◌, ◌≤◌, ◌≡◌, ◌-◌, ◌==◌, length, ℕ, false, get_or}
use Rattle.mono_text.proofs.lines.cut_line.Given as goal

abbrev pub invariant-bytes : goal.invariant-bytes
invariant-bytes l = record {
  none : (k : ℕ) → k < l.place → (get_or l.bytes k 0 == 10) ≡ false;
  within : l.place ≤ length l.bytes;
}

abbrev pub decreases-bytes : goal.decreases-bytes
decreases-bytes l = length l.bytes - l.place

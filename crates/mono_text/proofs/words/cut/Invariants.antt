use Rattle.std.proofs.Common.{◌<◌, ◌≤◌, ◌≡◌, ◌-◌, length, ℕ, false, get_or}
use Rattle.mono_text.specs.Words.{is_gap}
use Rattle.mono_text.proofs.words.cut.Given as goal

abbrev pub invariant-bytes : goal.invariant-bytes
invariant-bytes l = record {
  none : (k : ℕ) → k < l.place → is_gap (get_or l.bytes k 0) ≡ false;
  within : l.place ≤ length l.bytes;
}

abbrev pub decreases-bytes : goal.decreases-bytes
decreases-bytes l = length l.bytes - l.place

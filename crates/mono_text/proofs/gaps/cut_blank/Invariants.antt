use Rattle.std.proofs.Common.{◌<◌, ◌≤◌, ◌≡◌, ◌-◌, length, ℕ, false, get_or}
use Rattle.mono_text.specs.Gaps.{is_blank}
use Rattle.mono_text.proofs.gaps.cut_blank.Given as goal

abbrev pub invariant-bytes : goal.invariant-bytes
invariant-bytes l = record {
  none : (k : ℕ) → k < l.place → is_blank (get_or l.bytes k 0) ≡ false;
  within : l.place ≤ length l.bytes;
}

abbrev pub decreases-bytes : goal.decreases-bytes
decreases-bytes l = length l.bytes - l.place

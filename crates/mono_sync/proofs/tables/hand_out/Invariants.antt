use Rattle.std.proofs.Common.{◌≡◌, length}
use Rattle.mono_sync.specs.Touched.{left}
use Rattle.mono_sync.specs.Many.{parts_of, IsNoted}
use Rattle.mono_sync.proofs.tables.hand_out.Given as goal

-- no part has changed so far
abbrev pub invariant-loop-key : goal.invariant-loop-key
invariant-loop-key g l =
    record {
      same : parts_of l.places ≡ parts_of l.fn.places;
      noted : IsNoted g.X.SharedState.owes l.places l.touched;
    }

abbrev pub decreases-loop-key : goal.decreases-loop-key
decreases-loop-key g l = left (length (parts_of l.places)) l.touched

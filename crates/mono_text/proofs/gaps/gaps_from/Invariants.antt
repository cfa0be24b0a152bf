use Rattle.std.proofs.Common.{◌≡◌, length}
use Rattle.mono_text.specs.Gaps.{gaps_from, pieces}
use Rattle.mono_text.proofs.gaps.gaps_from.Given as goal

abbrev pub invariant-pieces : goal.invariant-pieces
invariant-pieces l = gaps_from l.in_turn l.older l.previous (pieces l.rest) ≡ gaps_from l.is_turn l.first l.first (pieces l.bytes)

abbrev pub decreases-pieces : goal.decreases-pieces
decreases-pieces l = length l.rest

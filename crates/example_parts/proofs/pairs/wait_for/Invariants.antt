use Rattle.std.proofs.Common.{◌≡◌, false}
use Rattle.mono_joinword.specs.Ends.{joiner_view}
use Rattle.example_parts.proofs.pairs.wait_for.Given as goal

abbrev pub invariant-loop : goal.invariant-loop
invariant-loop g l =
    (goal.iterator-loop g).can_next l.iterator' × (goal.iterator-loop g).is_finite l.iterator'
    × ((joiner_view l.joiner).took ≡ false) × ((joiner_view l.joiner).number ≡ (joiner_view l.fn.joiner).number)

use Rattle.std.proofs.Common.{◌≡◌, ◌-◌}
use Rattle.mono_model.specs.Table.{next_number}
use Rattle.mono_groups.specs.Tokens.{IsKept}
use Rattle.mono_groups.proofs.tokens.hand_out.Given as goal

-- no token has changed so far
abbrev pub invariant-loop-from : goal.invariant-loop-from
invariant-loop-from l =
    record {
      same : l.nodes ≡ l.fn.nodes;
      kept : IsKept l.nodes l.from;
    }

abbrev pub decreases-loop-from : goal.decreases-loop-from
decreases-loop-from l = next_number l.nodes - l.from

use Rattle.std.proofs.Common.{◌≡◌, ◌<◌, ◌-◌}
use Rattle.mono_model.specs.Table.{next_number}
use Rattle.mono_groups.proofs.CancelLemmas.{Done}
use Rattle.mono_groups.proofs.tokens.cancel_from.Given as goal

abbrev pub invariant-loop-child : goal.invariant-loop-child
invariant-loop-child l =
    record {
      len : l.len ≡ next_number l.fn.nodes;
      done : Done l.fn.key l.child l.fn.nodes l.nodes;
      after : l.fn.key < l.child;
    }

abbrev pub decreases-loop-child : goal.decreases-loop-child
decreases-loop-child l = l.len - l.child

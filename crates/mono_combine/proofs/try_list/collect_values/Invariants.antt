use Rattle.std.proofs.Common.{◌≡◌, ◌≤◌, ◌+◌, ◌++◌}
use Rattle.std.specs.List.{filter_map}
use Rattle.std.specs.Prelude.{vec_len, vec_capacity}
use Rattle.std.specs.Vec.Iter.{into_iter_items, into_iter_len}
use Rattle.mono_combine.specs.TryLists.{value_in}
use Rattle.mono_combine.proofs.try_list.collect_values.Given as goal

abbrev pub invariant-loop-branch : goal.invariant-loop-branch
invariant-loop-branch g l = record {
  collected : l.values.items ++ filter_map value_in (into_iter_items l.branches) ≡ l.initial.values.items ++ filter_map value_in (into_iter_items l.initial.branches);
  room : vec_len l.values + into_iter_len l.branches ≤ vec_capacity l.values;
}

abbrev pub decreases-loop-branch : goal.decreases-loop-branch
decreases-loop-branch g l = into_iter_len l.branches

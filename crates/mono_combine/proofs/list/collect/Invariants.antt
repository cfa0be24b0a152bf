use Rattle.std.proofs.Common.{◌≡◌, ◌≤◌, ◌+◌, ◌++◌}
use Rattle.std.specs.List.{filter_map}
use Rattle.std.specs.Prelude.{vec_len, vec_capacity}
use Rattle.std.specs.Vec.Iter.{into_iter_items, into_iter_len}
use Rattle.mono_combine.specs.Branches.{output_of}
use Rattle.mono_combine.proofs.list.collect.Given as goal

abbrev pub invariant-loop-branch : goal.invariant-loop-branch
invariant-loop-branch g l = record {
  collected : l.outputs.items ++ filter_map output_of (into_iter_items l.branches) ≡ l.initial.outputs.items ++ filter_map output_of (into_iter_items l.initial.branches);
  room : vec_len l.outputs + into_iter_len l.branches ≤ vec_capacity l.outputs;
}

abbrev pub decreases-loop-branch : goal.decreases-loop-branch
decreases-loop-branch g l = into_iter_len l.branches

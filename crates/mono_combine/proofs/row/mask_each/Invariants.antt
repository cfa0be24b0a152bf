use Rattle.std.proofs.Common.{◌≡◌, ◌≤◌, ◌+◌, ◌++◌}
use Rattle.std.specs.Prelude.{vec_len, vec_capacity}
use Rattle.std.specs.Vec.Iter.{into_iter_items, into_iter_len}
use Rattle.mono_combine.specs.ListSelects.{masked_from}
use Rattle.mono_combine.proofs.row.mask_each.Given as goal

abbrev pub invariant-loop-future : goal.invariant-loop-future
invariant-loop-future g l = record {
  filled : l.branches.items ++ masked_from l.mask (vec_len l.branches) (into_iter_items l.futures) ≡ l.initial.branches.items ++ masked_from l.mask (vec_len l.initial.branches) (into_iter_items l.initial.futures);
  size : vec_len l.branches + into_iter_len l.futures ≡ vec_len l.initial.branches + into_iter_len l.initial.futures;
  room : vec_len l.branches + into_iter_len l.futures ≤ vec_capacity l.branches;
  few : vec_len l.branches + into_iter_len l.futures ≤ 64;
}

abbrev pub decreases-loop-future : goal.decreases-loop-future
decreases-loop-future g l = into_iter_len l.futures

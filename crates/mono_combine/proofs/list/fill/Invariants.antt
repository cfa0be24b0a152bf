use Rattle.std.proofs.Common.{◌≡◌, ◌≤◌, ◌+◌, ◌++◌, map}
use Rattle.std.specs.Prelude.{vec_len, vec_capacity}
use Rattle.std.specs.Vec.Iter.{into_iter_items, into_iter_len}
use Rattle.mono_combine.specs.declared.maybe.MaybeDone.TheVariants.{Future}
use Rattle.mono_combine.proofs.list.fill.Given as goal

abbrev pub invariant-loop-future : goal.invariant-loop-future
invariant-loop-future g l = record {
  filled : l.branches.items ++ map (λ f. Future f) (into_iter_items l.futures) ≡ l.initial.branches.items ++ map (λ f. Future f) (into_iter_items l.initial.futures);
  room : vec_len l.branches + into_iter_len l.futures ≤ vec_capacity l.branches;
}

abbrev pub decreases-loop-future : goal.decreases-loop-future
decreases-loop-future g l = into_iter_len l.futures

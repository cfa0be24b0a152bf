use Rattle.std.proofs.Common.{◌≤◌, subst, arith, rules}
use Rattle.std.specs.Prelude.{nat_lt}
use Rattle.std.proofs.lemmas.Bool.{ltb-true, ltb-false, lt-ltb}
use Rattle.std.proofs.lemmas.List.Sorted.{IsPartitionPoint-from_clause}
use Rattle.std.specs.List.Sorted.{IsPartitionedBy}
use Rattle.mono_sync.proofs.touched.place_of.Goals as goal

pub returns : goal.returns
returns c =
    let parted : IsPartitionedBy (λ k. nat_lt k c.args.key) c.args.keys.now.items = λ i j d le within is. lt-ltb _ _ (omega (arith, c.requires.ascending i j d le within, ltb-true _ _ is)) in
    let point = IsPartitionPoint-from_clause (λ k. nat_lt k c.args.key) _ _ c.partition_point.ensures.partitioned parted (λ a r q k. search rules) in
    record {
      bound = subst (λ n. c.partition_point.result ≤ n) c.args.keys.now.ok.0 c.partition_point.ensures.bound;
      below = λ i less. ltb-true _ _ (point.0 i 0 (omega arith) less);
      above = λ i from within. ltb-false _ _ (point.1 i 0 from within);
    }

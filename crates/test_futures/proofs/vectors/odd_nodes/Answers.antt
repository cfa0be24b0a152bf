use Rattle.std.proofs.Common.{◌<◌, length, subst, sym, length-set}
use Rattle.mono_wheel.proofs.DrainLemmas.{drain-leaves}
use Rattle.test_futures.proofs.vectors.odd_nodes.Goals as goal

-- the drained list is put back in its place: the number of lists is the same as before
pub ends-first-requires : goal.ends-first-requires
ends-first-requires c =
    let left = drain-leaves _ _ _ _ _ _ _ _ _ _ _ c.drain_filter-node-items.ensures.drains c.into_iter-node-iterator.ensures.into_iter_gives c.loop-node.yielded_by c.in-None.ensures.steps c.drain_filter-node-items.ensures.same_reference c.links-1.given.1 in
    subst (λ v. 0 < length v.lists) (sym left.2) (subst (λ n. 0 < n) (sym (length-set c.args.links.now.lists 0 left.0)) c.requires)

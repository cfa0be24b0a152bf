use Rattle.std.proofs.Common.{ap, sym, ◌-◌, ◌∙◌, length, take, ◌++◌, append-nil, arith}
use Rattle.lease_core.specs.Waits.{input_end, ended}
use Rattle.lease_core.specs.Places.{waiters}
use Rattle.lease_core.proofs.EndLemmas.{end_on, fewer}
use Rattle.lease_core.proofs.PlaceLemmas.{entries_are, cap_is, nothing_left}
use Rattle.lease_core.proofs.places.end_each.Goals as goal

pub loop-key-preserved : goal.loop-key-preserved
loop-key-preserved c =
    let before = c.loop-key.invariant in
    let left = entries_are _ _ _ c.pop_lru.ensures.entries in
    let last = c.in-Some.ensures.value in
    record {
      told = end_on _ c.args.places.now.entries _ _ (c.in-Some.key, c.in-Some.place) _ _ c.args.replies.now.items _ _ last c.waiter_of-waiter.ensures c.input_end.ensures c.put_end.ensures.items left before.told;
      room = omega (arith, before.room, c.put_end.ensures.len, c.put_end.ensures.capacity, fewer _ _ (c.in-Some.key, c.in-Some.place) last left);
      cap = cap_is _ _ _ c.pop_lru.ensures.entries ∙ before.cap;
      capacity = c.put_end.ensures.capacity ∙ before.capacity;
    }

pub returns-clause-items : goal.returns-clause-items
returns-clause-items c =
    let none = nothing_left c.loop-key.places.entries c.in_default.ensures.value in
    sym (append-nil _) ∙ ap (λ es. c.loop-key.replies.items ++ ended input_end c.args.tick (waiters es)) (sym none) ∙ c.loop-key.invariant.told

pub returns-clause-none : goal.returns-clause-none
returns-clause-none c =
    let none = nothing_left c.loop-key.places.entries c.in_default.ensures.value in
    entries_are _ _ _ c.pop_lru.ensures.entries ∙ ap (λ es. take (length es - 1) es) none

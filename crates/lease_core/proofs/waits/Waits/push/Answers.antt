use Rattle.std.proofs.Common.{◌<◌, ◌+◌, ◌^◌, refl, ap, ◌∙◌, rules}
use Rattle.lease_core.specs.Places.{waiters, descends}
use Rattle.lease_core.proofs.PlaceLemmas.{put_new, order_put, cap_is}
use Rattle.lease_core.proofs.waits.Waits.push.Goals as goal

pub invariant_of-self : goal.invariant_of-self
invariant_of-self c =
    let waits = c.args.self.now in
    let few : waits.next + 1 < 2 ^ 64 = search rules in
    let is = put_new _ _ waits.next _ _ c.contains.result c.contains.ensures c.if-contains.false waits.order few waits.unbounded c.in-Ok.ensures.entries in
    record {
      order = ap (λ es. descends c.in-Some.next es) is ∙ order_put waits.next c.in-Some.next ((c.args.waiter.key, c.args.waiter.session), record { number = c.args.waiter.number; arrived = c.args.waiter.arrived; ticket = waits.next })
          waits.places.entries refl (search rules) waits.order;
      unbounded = cap_is _ _ _ c.in-Ok.ensures.entries ∙ waits.unbounded;
    }

pub returns-in-Ok-clause-pushed : goal.returns-in-Ok-clause-pushed
returns-in-Ok-clause-pushed c =
    let waits = c.args.self.now in
    let few : waits.next + 1 < 2 ^ 64 = search rules in
    ap waiters (put_new _ _ waits.next _ _ c.contains.result c.contains.ensures c.if-contains.false waits.order few waits.unbounded c.in-Ok.ensures.entries)

use Rattle.std.proofs.Common.{◌-◌, ◌≡◌, ◌<◌, length, true, ap, subst, sym, ◌∙◌}
use Rattle.mono_wheel.specs.Rings.{head_at, next_in, is_outer_at}
use Rattle.mono_wheel.proofs.CallLemmas.{kept-some, kept-equal, first_kept, seen-below, seen-known, head-read}
use Rattle.mono_wheel.proofs.RingLemmas.{inner_not_outer}
use Rattle.mono_wheel.proofs.InsertLemmas.{after-put}
use Rattle.mono_wheel.proofs.links.Links.put_front.Goals as goal

pub put_after-requires-clause-after : goal.put_after-requires-clause-after
put_after-requires-clause-after c =
    let below : c.args.list < length c.self.inside.heads.items = seen-below c.self.inside.nodes.slots c.self.inside.heads.items _ c.args.self.now c.args.list c.self.view_is c.requires.list in
    let head : c.index-head.result.now ≡ head_at c.self.inside.heads.items c.args.list = head-read _ _ _ below c.index-head.ensures in
    kept-some c.self.inside.nodes.slots _ (kept-equal c.self.inside.nodes.slots _ _ (ap (next_in c.self.inside.nodes.slots) head) (first_kept c.self.inside.nodes.slots c.self.inside.heads.items _ c.args.list c.self.invariant.stand below))

pub put_after-requires-clause-apart : goal.put_after-requires-clause-apart
put_after-requires-clause-apart c e =
    let below : c.args.list < length c.self.inside.heads.items = seen-below c.self.inside.nodes.slots c.self.inside.heads.items _ c.args.self.now c.args.list c.self.view_is c.requires.list in
    let head : c.index-head.result.now ≡ head_at c.self.inside.heads.items c.args.list = head-read _ _ _ below c.index-head.ensures in
    inner_not_outer c.self.inside.nodes.slots c.args.node (seen-known c.self.inside.nodes.slots c.self.inside.heads.items _ c.args.self.now c.args.node c.self.view_is c.requires.loose.known)
    (subst (λ z. is_outer_at c.self.inside.nodes.slots z ≡ true) (sym (e ∙ head)) (c.self.invariant.stand.outer c.args.list below))

pub invariant_of-self : goal.invariant_of-self
invariant_of-self c =
    let below : c.args.list < length c.self.inside.heads.items = seen-below c.self.inside.nodes.slots c.self.inside.heads.items _ c.args.self.now c.args.list c.self.view_is c.requires.list in
    let head : c.index-head.result.now ≡ head_at c.self.inside.heads.items c.args.list = head-read _ _ _ below c.index-head.ensures in
    let after = after-put c.self.inside.nodes.slots c.put_after.new.nodes.slots c.self.inside.heads.items c.args.self.now _ _ c.args.list c.args.node c.index-head.result.now c.args.entry c.self.view_is (ap (λ z. c.self.inside.limit - z) c.put_after.ensures.len) c.self.invariant.stand c.requires.list c.requires.loose head c.put_after.ensures.put in
    record { stand = after.0; held = rw c.put_after.ensures.len c.self.invariant.held; limit = rw c.put_after.ensures.capacity c.self.invariant.limit }

pub returns : goal.returns
returns c =
    let below : c.args.list < length c.self.inside.heads.items = seen-below c.self.inside.nodes.slots c.self.inside.heads.items _ c.args.self.now c.args.list c.self.view_is c.requires.list in
    let head : c.index-head.result.now ≡ head_at c.self.inside.heads.items c.args.list = head-read _ _ _ below c.index-head.ensures in
    (after-put c.self.inside.nodes.slots c.put_after.new.nodes.slots c.self.inside.heads.items c.args.self.now _ _ c.args.list c.args.node c.index-head.result.now c.args.entry c.self.view_is (ap (λ z. c.self.inside.limit - z) c.put_after.ensures.len) c.self.invariant.stand c.requires.list c.requires.loose head c.put_after.ensures.put).1

use Rattle.std.proofs.Common.{◌-◌, ◌≡◌, ◌<◌, length, inl, map, [], ap, subst, sym}
use Rattle.slab.specs.Slab.{slab_len}
use Rattle.mono_wheel.specs.Lists.{with_entry, with_list}
use Rattle.mono_wheel.specs.Rings.{head_at, ring_of, seen, Stand}
use Rattle.mono_wheel.proofs.CallLemmas.{kept-some, kept-same, seen-below, head-read}
use Rattle.mono_wheel.proofs.ExchangeLemmas.{after-entry}
use Rattle.mono_wheel.proofs.OnlyNodeLemmas.{only-inner, after-only}
use Rattle.mono_wheel.proofs.links.Links.take_only.Goals as goal

pub carry-requires : goal.carry-requires
carry-requires c =
    let below : c.args.list < length c.self.inside.heads.items = seen-below c.self.inside.nodes.slots c.self.inside.heads.items _ c.args.self.now c.args.list c.self.view_is c.requires.list in
    let head : c.index-head.result.now ≡ head_at c.self.inside.heads.items c.args.list = head-read _ _ _ below c.index-head.ensures in
    kept-some c.join.new.nodes.slots c.args.node (kept-same c.self.inside.nodes.slots c.join.new.nodes.slots c.args.node c.join.ensures.joined.kinds
    (inl (only-inner c.self.inside.nodes.slots c.self.inside.heads.items c.args.self.now _ c.args.list c.index-head.result.now c.self.view_is c.self.invariant.stand c.requires.list head c.args.node c.requires.alone)))

pub invariant_of-self : goal.invariant_of-self
invariant_of-self c =
    let below : c.args.list < length c.self.inside.heads.items = seen-below c.self.inside.nodes.slots c.self.inside.heads.items _ c.args.self.now c.args.list c.self.view_is c.requires.list in
    let head : c.index-head.result.now ≡ head_at c.self.inside.heads.items c.args.list = head-read _ _ _ below c.index-head.ensures in
    let out = after-only c.self.inside.nodes.slots c.self.inside.heads.items c.args.self.now _ c.args.list c.index-head.result.now c.self.view_is c.self.invariant.stand c.requires.list head c.args.node c.requires.alone
    (c.self.inside.limit - slab_len c.join.new.nodes) c.join.new.nodes.slots (ap (λ z. c.self.inside.limit - z) c.join.ensures.len) c.join.ensures.joined in
    let written = c.carry.ensures.written in
    let after = after-entry c.join.new.nodes.slots c.self.inside.heads.items (with_list c.args.self.now c.args.list []) _ _ c.args.node written.0 c.args.entry out.1 (ap (λ z. c.self.inside.limit - z) c.carry.ensures.len) out.0 written.1 in
    record {
      stand = subst (λ s2. Stand s2 c.self.inside.heads.items (map (ring_of s2) c.self.inside.heads.items)) (sym written.2) after.0;
      held = rw (c.carry.ensures.len, c.join.ensures.len) c.self.invariant.held;
      limit = rw (c.carry.ensures.capacity, c.join.ensures.capacity) c.self.invariant.limit;
    }

pub returns : goal.returns
returns c =
    let below : c.args.list < length c.self.inside.heads.items = seen-below c.self.inside.nodes.slots c.self.inside.heads.items _ c.args.self.now c.args.list c.self.view_is c.requires.list in
    let head : c.index-head.result.now ≡ head_at c.self.inside.heads.items c.args.list = head-read _ _ _ below c.index-head.ensures in
    let out = after-only c.self.inside.nodes.slots c.self.inside.heads.items c.args.self.now _ c.args.list c.index-head.result.now c.self.view_is c.self.invariant.stand c.requires.list head c.args.node c.requires.alone
    (c.self.inside.limit - slab_len c.join.new.nodes) c.join.new.nodes.slots (ap (λ z. c.self.inside.limit - z) c.join.ensures.len) c.join.ensures.joined in
    let written = c.carry.ensures.written in
    let after = after-entry c.join.new.nodes.slots c.self.inside.heads.items (with_list c.args.self.now c.args.list []) _ _ c.args.node written.0 c.args.entry out.1 (ap (λ z. c.self.inside.limit - z) c.carry.ensures.len) out.0 written.1 in
    subst (λ s2. seen s2 c.self.inside.heads.items (c.self.inside.limit - slab_len c.carry.new.nodes) ≡ with_entry (with_list c.args.self.now c.args.list []) c.args.node c.args.entry) (sym written.2) after.1

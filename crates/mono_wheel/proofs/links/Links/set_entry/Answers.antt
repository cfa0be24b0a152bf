use Rattle.std.proofs.Common.{◌-◌, ◌≡◌, inl, map, ap, subst, sym}
use Rattle.slab.specs.Slab.{slab_len}
use Rattle.mono_wheel.specs.Lists.{with_entry}
use Rattle.mono_wheel.specs.Rings.{ring_of, seen, Stand}
use Rattle.mono_wheel.proofs.CallLemmas.{kept-some, seen-known}
use Rattle.mono_wheel.proofs.ExchangeLemmas.{after-entry}
use Rattle.mono_wheel.proofs.links.Links.set_entry.Goals as goal

pub carry-requires : goal.carry-requires
carry-requires c = kept-some c.self.inside.nodes.slots c.args.node (inl (seen-known c.self.inside.nodes.slots c.self.inside.heads.items _ c.args.self.now c.args.node c.self.view_is c.requires))

pub invariant_of-self : goal.invariant_of-self
invariant_of-self c =
    let written = c.carry.ensures.written in
    let after = after-entry c.self.inside.nodes.slots c.self.inside.heads.items c.args.self.now _ _ c.args.node written.0 c.args.entry c.self.view_is (ap (λ z. c.self.inside.limit - z) c.carry.ensures.len) c.self.invariant.stand written.1 in
    record {
      stand = subst (λ s2. Stand s2 c.self.inside.heads.items (map (ring_of s2) c.self.inside.heads.items)) (sym written.2) after.0;
      held = rw c.carry.ensures.len c.self.invariant.held;
      limit = rw c.carry.ensures.capacity c.self.invariant.limit;
    }

pub returns : goal.returns
returns c =
    let written = c.carry.ensures.written in
    let after = after-entry c.self.inside.nodes.slots c.self.inside.heads.items c.args.self.now _ _ c.args.node written.0 c.args.entry c.self.view_is (ap (λ z. c.self.inside.limit - z) c.carry.ensures.len) c.self.invariant.stand written.1 in
    subst (λ s2. seen s2 c.self.inside.heads.items (c.self.inside.limit - slab_len c.carry.new.nodes) ≡ with_entry c.args.self.now c.args.node c.args.entry) (sym written.2) after.1

use Rattle.std.proofs.Common.{◌≡◌, ◌<◌, length, ap, ◌∙◌}
use Rattle.mono_wheel.specs.Rings.{head_at, next_in, prev_in}
use Rattle.mono_wheel.proofs.CallLemmas.{seen-below, head-read}
use Rattle.mono_wheel.proofs.OnlyNodeLemmas.{only-node}
use Rattle.mono_wheel.proofs.links.Links.only.Goals as goal

pub returns : goal.returns
returns c =
    let below : c.args.list < length c.self.inside.heads.items = seen-below c.self.inside.nodes.slots c.self.inside.heads.items _ c.args.self.now c.args.list c.self.view_is c.requires in
    let head : c.index-head.result.now ≡ head_at c.self.inside.heads.items c.args.list = head-read _ _ _ below c.index-head.ensures in
    only-node c.self.inside.nodes.slots c.self.inside.heads.items c.args.self.now _ c.args.list c.index-head.result.now c.self.view_is c.self.invariant.stand c.requires head c.next-first.result c.prev-last.result
    (c.next-first.ensures ∙ ap (next_in c.self.inside.nodes.slots) head) (c.prev-last.ensures ∙ ap (prev_in c.self.inside.nodes.slots) head) c.if-first-last.false c.if-first-head.false

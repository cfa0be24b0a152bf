use Rattle.std.proofs.Common.{◌≡◌, ◌<◌, length}
use Rattle.mono_wheel.specs.Rings.{head_at}
use Rattle.mono_wheel.proofs.CallLemmas.{seen-below, head-read}
use Rattle.mono_wheel.proofs.DrainLemmas.{seen-after}
use Rattle.mono_wheel.proofs.links.Links.after.Goals as goal

pub returns-then-next-head : goal.returns-then-next-head
returns-then-next-head c front back is =
    let below : c.args.list < length c.self.inside.heads.items = seen-below c.self.inside.nodes.slots c.self.inside.heads.items _ c.args.self.now c.args.list c.self.view_is c.requires.list in
    let head : c.index-head.result.now ≡ head_at c.self.inside.heads.items c.args.list = head-read _ _ _ below c.index-head.ensures in
    (seen-after c.self.inside.nodes.slots c.self.inside.heads.items _ c.args.self.now c.args.list c.args.node front back c.self.view_is c.self.invariant.stand c.requires.list is _ _ head c.next-next.ensures).0 c.if-next-head.true

pub returns-else-next-head : goal.returns-else-next-head
returns-else-next-head c front back is =
    let below : c.args.list < length c.self.inside.heads.items = seen-below c.self.inside.nodes.slots c.self.inside.heads.items _ c.args.self.now c.args.list c.self.view_is c.requires.list in
    let head : c.index-head.result.now ≡ head_at c.self.inside.heads.items c.args.list = head-read _ _ _ below c.index-head.ensures in
    (seen-after c.self.inside.nodes.slots c.self.inside.heads.items _ c.args.self.now c.args.list c.args.node front back c.self.view_is c.self.invariant.stand c.requires.list is _ _ head c.next-next.ensures).1 c.if-next-head.false

use Rattle.std.proofs.Common.{◌≡◌, Some, refl, ap, subst}
use Rattle.std.specs.Option.{IsSome}
use Rattle.std.specs.HashMap.{get}
use Rattle.mono_session.specs.Links.{pair_eq, with_after}
use Rattle.mono_session.specs.Nodes.{queue_place, key_place}
use Rattle.mono_session.specs.declared.nodes.Node.{Node}
use Rattle.mono_session.proofs.NodeLemmas.{written, kept, link_as}
use Rattle.mono_session.proofs.nodes.set_after.Goals as goal

pub returns-in-Some-clause-changed : goal.returns-in-Some-clause-changed
returns-in-Some-clause-changed c = λ q m.
    let v : Node = c.in-Some.node.now in
    let w : Node = record v { after = c.unwrap_or-node.result; has_after = c.is_some-node.result } in
    let is : with_after c.args.number (Some (queue_place v)) ≡ Some (queue_place w) = ap (λ o. with_after o (Some (queue_place v))) (link_as c.is_some-node.result c.unwrap_or-node.result c.args.number c.is_some-node.ensures c.unwrap_or-node.ensures) in
    written queue_place (get pair_eq c.args.nodes.now) (get pair_eq (c.get_mut.follows.lender w)) c.args.key c.args.session v w (with_after c.args.number)
    ((c.get_mut.follows.holds w).3 (subst IsSome c.in-Some.ensures.value refl)).0 c.in-Some.ensures.value is q m

pub returns-in-Some-clause-others : goal.returns-in-Some-clause-others
returns-in-Some-clause-others c = λ q m.
    let v : Node = c.in-Some.node.now in
    let w : Node = record v { after = c.unwrap_or-node.result; has_after = c.is_some-node.result } in
    kept key_place (get pair_eq c.args.nodes.now) (get pair_eq (c.get_mut.follows.lender w)) c.args.key c.args.session v w
    ((c.get_mut.follows.holds w).3 (subst IsSome c.in-Some.ensures.value refl)).0 c.in-Some.ensures.value refl q m

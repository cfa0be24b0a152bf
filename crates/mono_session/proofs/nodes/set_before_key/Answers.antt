use Rattle.std.proofs.Common.{◌≡◌, ◌∙◌, Some, refl, ap, subst}
use Rattle.std.specs.Prelude.{nat_eq}
use Rattle.std.specs.Option.{IsSome}
use Rattle.std.specs.HashMap.{get}
use Rattle.mono_session.specs.Links.{pair_eq, with_before}
use Rattle.mono_session.specs.Nodes.{queue_place, key_place}
use Rattle.mono_session.specs.declared.nodes.Node.{Node}
use Rattle.mono_session.proofs.NodeLemmas.{written, kept, swapped, link_as}
use Rattle.mono_session.proofs.nodes.set_before_key.Goals as goal

pub returns-in-Some-clause-changed : goal.returns-in-Some-clause-changed
returns-in-Some-clause-changed c = λ q m.
    let v : Node = c.in-Some.node.now in
    let w : Node = record v { before_key = c.unwrap_or-node.result; has_before_key = c.is_some-node.result } in
    let is : with_before c.args.number (Some (key_place v)) ≡ Some (key_place w) = ap (λ o. with_before o (Some (key_place v))) (link_as c.is_some-node.result c.unwrap_or-node.result c.args.number c.is_some-node.ensures c.unwrap_or-node.ensures) in
    written key_place (get pair_eq c.args.nodes.now) (get pair_eq (c.get_mut.follows.lender w)) c.args.key c.args.session v w (with_before c.args.number)
    ((c.get_mut.follows.holds w).3 (subst IsSome c.in-Some.ensures.value refl)).0 c.in-Some.ensures.value is m q
    ∙ swapped (nat_eq c.args.key m) (nat_eq c.args.session q) _ _

pub returns-in-Some-clause-others : goal.returns-in-Some-clause-others
returns-in-Some-clause-others c = λ q m.
    let v : Node = c.in-Some.node.now in
    let w : Node = record v { before_key = c.unwrap_or-node.result; has_before_key = c.is_some-node.result } in
    kept queue_place (get pair_eq c.args.nodes.now) (get pair_eq (c.get_mut.follows.lender w)) c.args.key c.args.session v w
    ((c.get_mut.follows.holds w).3 (subst IsSome c.in-Some.ensures.value refl)).0 c.in-Some.ensures.value refl q m

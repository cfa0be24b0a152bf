use Rattle.std.proofs.Common.{inl}
use Rattle.mono_wheel.proofs.CallLemmas.{kept-some, seen-known}
use Rattle.mono_wheel.proofs.ExchangeLemmas.{seen-in}
use Rattle.mono_wheel.proofs.links.Links.listed_entry.Goals as goal

pub returns-clause-known : goal.returns-clause-known
returns-clause-known c = seen-in c.self.inside.nodes.slots c.self.inside.heads.items _ c.args.self.now c.self.view_is c.self.invariant.stand c.requires.0 c.args.node c.requires.1

pub carried-requires : goal.carried-requires
carried-requires c =
    let known = seen-in c.self.inside.nodes.slots c.self.inside.heads.items _ c.args.self.now c.self.view_is c.self.invariant.stand c.requires.0 c.args.node c.requires.1 in
    kept-some c.self.inside.nodes.slots c.args.node (inl (seen-known c.self.inside.nodes.slots c.self.inside.heads.items _ c.args.self.now c.args.node c.self.view_is known))

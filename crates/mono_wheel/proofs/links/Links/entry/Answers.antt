use Rattle.mono_wheel.proofs.ExchangeLemmas.{seen-in}
use Rattle.mono_wheel.proofs.links.Links.entry.Goals as goal

pub returns-in-None-clause-known : goal.returns-in-None-clause-known
returns-in-None-clause-known c listed = seen-in c.self.inside.nodes.slots c.self.inside.heads.items _ c.args.self.now c.self.view_is c.self.invariant.stand listed.0 c.args.node listed.1

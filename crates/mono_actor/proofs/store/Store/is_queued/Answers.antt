use Rattle.mono_actor.proofs.ReceiveLemmas.{none-queued, some-queued}
use Rattle.mono_actor.proofs.store.Store.is_queued.Goals as goal

pub returns-in-None : goal.returns-in-None
returns-in-None g c = none-queued c.args.self.now.links.slots c.args.self.now.entries c.args.actor c.in-None.ensures

pub returns-in-Some : goal.returns-in-Some
returns-in-Some g c = some-queued c.args.self.now.links.slots c.args.self.now.entries c.args.actor c.in-Some.entry.now c.is_queued.result c.in-Some.ensures c.is_queued.ensures

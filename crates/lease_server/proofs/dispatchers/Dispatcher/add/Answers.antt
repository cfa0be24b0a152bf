use Rattle.lease_server.proofs.DispatchLemmas.{holds_lane}
use Rattle.std.proofs.Common.{refl}
use Rattle.lease_server.proofs.dispatchers.Dispatcher.add.Goals as goal

pub returns-clause-holds : goal.returns-clause-holds
returns-clause-holds c = λ none h. holds_lane c.args.self.now _ c.new.result refl c.push_reserved.ensures.items refl (c.new.ensures.given none) h

pub returns-clause-lane : goal.returns-clause-lane
returns-clause-lane c = (c.new.result, c.new.ensures.sender, c.push_reserved.ensures.items)

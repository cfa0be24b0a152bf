use Rattle.std.proofs.Common.{◌≡◌, ◌∙◌, List, arith}
use Rattle.std.specs.Vec.{with_items}
use Rattle.std.proofs.lemmas.List.{with_items_is}
use Rattle.lease_server.specs.declared.lanes.Lane.{Lane}
use Rattle.lease_server.specs.declared.dispatchers.Dispatcher.{Dispatcher}
use Rattle.lease_server.proofs.dispatchers.Dispatcher.close.Goals as goal

pub returns-clause-lanes : goal.returns-clause-lanes
returns-clause-lanes g c =
    let old : Dispatcher = c.args.self.now in
    let ws : List Lane = c.close_all.new.lanes in
    let items : (with_items old.lanes ws).items ≡ ws = with_items_is old.lanes ws (omega arith) in
    items ∙ c.close_all.ensures ∙ c.deref_mut.ensures.value

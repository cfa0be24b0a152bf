use Rattle.std.proofs.Common.{◌≡◌, ◌∷◌, ◌++◌, [], List, Option, Some, refl, sym, subst, arith}
use Rattle.std.specs.Vec.{with_items}
use Rattle.std.proofs.lemmas.List.{with_items_is}
use Rattle.lease_core.specs.declared.requests.Request.{Request}
use Rattle.lease_server.specs.Dispatch.{AreRouted}
use Rattle.lease_server.specs.declared.lanes.Lane.{Lane}
use Rattle.lease_server.specs.declared.dispatchers.Dispatcher.{Dispatcher}
use Rattle.lease_server.proofs.DispatchLemmas.{holds_same}
use Rattle.lease_server.proofs.WayLemmas.{keeps_both}
use Rattle.lease_server.proofs.dispatchers.Dispatcher.flush.Goals as goal

pub returns-in_err-flush_all-clause-ways : goal.returns-in_err-flush_all-clause-ways
returns-in_err-flush_all-clause-ways g c =
    let old : Dispatcher = c.args.self.now in
    let ws : List Lane = c.flush_all.new.lanes in
    let items : (with_items old.lanes ws).items ≡ ws = with_items_is old.lanes ws (omega arith) in
    let new : Dispatcher = record { lanes = with_items old.lanes ws; refusals = old.refusals; last = old.last } in
    keeps_both old new c.deref_mut.result.now ws c.deref_mut.ensures.value items c.flush_all.ensures.ways (refl, refl)

pub returns-then-not-branch-clause-ways : goal.returns-then-not-branch-clause-ways
returns-then-not-branch-clause-ways g c =
    let old : Dispatcher = c.args.self.now in
    let ws : List Lane = c.flush_all.new.lanes in
    let items : (with_items old.lanes ws).items ≡ ws = with_items_is old.lanes ws (omega arith) in
    let new : Dispatcher = record { lanes = with_items old.lanes ws; refusals = old.refusals; last = old.last } in
    keeps_both old new c.deref_mut.result.now ws c.deref_mut.ensures.value items c.flush_all.ensures.ways (refl, refl)

pub returns-clause-ways : goal.returns-clause-ways
returns-clause-ways g c =
    let old : Dispatcher = c.args.self.now in
    let ws : List Lane = c.flush_all.new.lanes in
    let items : (with_items old.lanes ws).items ≡ ws = with_items_is old.lanes ws (omega arith) in
    let new : Dispatcher = record { lanes = with_items old.lanes ws; refusals = c.flush.new.self; last = old.last } in
    keeps_both old new c.deref_mut.result.now ws c.deref_mut.ensures.value items c.flush_all.ensures.ways c.flush.ensures.same

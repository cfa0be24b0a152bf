use Rattle.std.proofs.Common.{◌≡◌, ◌∷◌, ◌++◌, [], List, Option, Some, refl, sym, subst, arith}
use Rattle.std.specs.Vec.{with_items}
use Rattle.std.proofs.lemmas.List.{with_items_is}
use Rattle.lease_core.specs.declared.requests.Request.{Request}
use Rattle.lease_server.specs.Dispatch.{AreRouted}
use Rattle.lease_server.specs.declared.lanes.Lane.{Lane}
use Rattle.lease_server.specs.declared.dispatchers.Dispatcher.{Dispatcher}
use Rattle.lease_server.proofs.DispatchLemmas.{holds_some}
use Rattle.lease_server.proofs.WayLemmas.{keeps_both}
use Rattle.lease_server.proofs.dispatchers.Dispatcher.give.Goals as goal

pub returns-in_err-route-clause-ways : goal.returns-in_err-route-clause-ways
returns-in_err-route-clause-ways c =
    let old : Dispatcher = c.args.self.now in
    let ws : List Lane = c.route.new.lanes in
    let items : (with_items old.lanes ws).items ≡ ws = with_items_is old.lanes ws (omega arith) in
    let new : Dispatcher = record { lanes = with_items old.lanes ws; refusals = old.refusals; last = old.last } in
    keeps_both old new c.deref_mut.result.now ws c.deref_mut.ensures.value items c.route.ensures.ways (refl, refl)

pub returns-clause-ways : goal.returns-clause-ways
returns-clause-ways c =
    let old : Dispatcher = c.args.self.now in
    let ws : List Lane = c.route.new.lanes in
    let items : (with_items old.lanes ws).items ≡ ws = with_items_is old.lanes ws (omega arith) in
    let new : Dispatcher = record { lanes = with_items old.lanes ws; refusals = old.refusals; last = c.args.number } in
    keeps_both old new c.deref_mut.result.now ws c.deref_mut.ensures.value items c.route.ensures.ways (refl, refl)

pub returns-clause-ok : goal.returns-clause-ok
returns-clause-ok c = λ asked h.
    let old : Dispatcher = c.args.self.now in
    let ws : List Lane = c.route.new.lanes in
    let items : (with_items old.lanes ws).items ≡ ws = with_items_is old.lanes ws (omega arith) in
    let new : Dispatcher = record { lanes = with_items old.lanes ws; refusals = old.refusals; last = c.args.number } in
    let lanes : (asked : List (Option Request)) → AreRouted asked old.lanes.items → AreRouted (asked ++ Some c.args.request ∷ []) new.lanes.items =
    λ asked r. subst (AreRouted (asked ++ Some c.args.request ∷ [])) (sym items) (c.in_ok-route.ensures.ok asked (subst (AreRouted asked) (sym c.deref_mut.ensures.value) r)) in
    holds_some old new c.args.number c.args.request c.requires refl refl lanes asked h

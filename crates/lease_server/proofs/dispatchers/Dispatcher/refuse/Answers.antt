use Rattle.std.proofs.Common.{refl}
use Rattle.lease_server.specs.declared.dispatchers.Dispatcher.{Dispatcher}
use Rattle.lease_server.proofs.DispatchLemmas.{holds_none}
use Rattle.lease_server.proofs.WayLemmas.{keeps_lanes}
use Rattle.lease_server.proofs.dispatchers.Dispatcher.refuse.Goals as goal

pub returns-in_err-take-clause-ways : goal.returns-in_err-take-clause-ways
returns-in_err-take-clause-ways c =
    let old : Dispatcher = c.args.self.now in
    let new : Dispatcher = record { lanes = old.lanes; refusals = c.take.new.self; last = old.last } in
    keeps_lanes old new refl c.take.ensures.same

pub returns-clause-ways : goal.returns-clause-ways
returns-clause-ways c =
    let old : Dispatcher = c.args.self.now in
    let new : Dispatcher = record { lanes = old.lanes; refusals = c.take.new.self; last = c.args.number } in
    keeps_lanes old new refl c.take.ensures.same

pub returns-clause-ok : goal.returns-clause-ok
returns-clause-ok c = λ asked h.
    let old : Dispatcher = c.args.self.now in
    let new : Dispatcher = record { lanes = old.lanes; refusals = c.take.new.self; last = c.args.number } in
    holds_none old new c.args.number c.requires refl refl c.in_ok-take.ensures.ok asked h

use Rattle.std.proofs.Common.{◌∷◌, ◌++◌, [], List, Option, OnOk, sym, subst}
use Rattle.lease_core.specs.declared.requests.Request.{Request}
use Rattle.lease_server.specs.Dispatch.{Holds}
use Rattle.lease_server.specs.declared.dispatchers.Dispatcher.{Dispatcher}
use Rattle.lease_server.proofs.dispatchers.Dispatcher.take.Goals as goal

pub returns-in-None-clause-ok : goal.returns-in-None-clause-ok
returns-in-None-clause-ok c =
    let old : Dispatcher = c.args.self.now in
    let new : Dispatcher = c.refuse.new.self in
    subst (λ (o : Option Request). OnOk c.refuse.result ((asked : List (Option Request)) → Holds asked old → Holds (asked ++ o ∷ []) new)) (sym c.in-None.is) c.refuse.ensures.ok

pub returns-in-Some-clause-ok : goal.returns-in-Some-clause-ok
returns-in-Some-clause-ok c =
    let old : Dispatcher = c.args.self.now in
    let new : Dispatcher = c.give.new.self in
    subst (λ (o : Option Request). OnOk c.give.result ((asked : List (Option Request)) → Holds asked old → Holds (asked ++ o ∷ []) new)) (sym c.in-Some.is) c.give.ensures.ok

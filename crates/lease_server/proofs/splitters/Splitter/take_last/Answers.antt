use Rattle.std.proofs.lemmas.Result.{on_ok_weaker}
use Rattle.std.proofs.Common.{ℕ, List, [], ◌∷◌, ◌++◌, Option, None}
use Rattle.lease_core.specs.declared.requests.Request.{Request}
use Rattle.lease_server.specs.Dispatch.{Holds, Answers}
use Rattle.lease_server.specs.Splits.{Stands}
use Rattle.lease_server.specs.declared.dispatchers.Dispatcher.{Dispatcher}
use Rattle.lease_server.specs.declared.splitters.Splitter.{Splitter}
use Rattle.lease_server.proofs.SplitLemmas.{answers_all, answers_last}
use Rattle.lease_server.proofs.splitters.Splitter.take_last.Goals as goal

pub returns-then-has_begun-clause-ok : goal.returns-then-has_begun-clause-ok
returns-then-has_begun-clause-ok c =
    let old : Splitter = c.args.self.now in
    let new : Dispatcher = c.take.new.self in
    let all : ((asked : List (Option Request)) → Holds asked old.dispatcher → Holds (asked ++ None ∷ []) new) → (text : List ℕ) → Stands text old → Answers text new =
    λ more text s. answers_last text old new (c.has_begun.ensures.some c.if-has_begun.true) c.requires more s in
    on_ok_weaker _ all c.take.ensures.ok

pub returns-clause-ok : goal.returns-clause-ok
returns-clause-ok c = λ text s. let none = c.has_begun.ensures.none c.if-has_begun.false in answers_all text c.args.self.now none.0 none.1 s

use Rattle.std.proofs.Common.{◌==◌, ◌&&◌, Bool, rules, tests}
use Rattle.std.proofs.lemmas.Iterator.Consumers.{YieldsList-from_deque}
use Rattle.std.proofs.lemmas.Iterator.Search.{any_from_yields_List}
use Rattle.mono_serve.specs.declared.leases.LockWaiter.{LockWaiter}
use Rattle.mono_serve.proofs.leases.Leases.is_there.Goals as goal

pub returns : goal.returns
returns c =
    let test : LockWaiter → Bool = λ w. (w.ticket == c.args.ticket) && (w.task == c.args.task) in
    any_from_yields_List test _ _ _ c.any.ensures.ran (YieldsList-from_deque c.args.self.now.waiters.items cc) (λ x b q h. search (rules, tests))

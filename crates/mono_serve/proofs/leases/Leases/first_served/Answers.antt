use Rattle.std.proofs.Common.{not, Bool, rules, tests}
use Rattle.std.proofs.lemmas.Iterator.Consumers.{YieldsList-from_deque}
use Rattle.std.proofs.lemmas.Iterator.Search.{position_from_yields_List}
use Rattle.mono_session.specs.Holders.{waits}
use Rattle.mono_serve.specs.declared.leases.LockWaiter.{LockWaiter}
use Rattle.mono_serve.proofs.leases.Leases.first_served.Goals as goal

pub returns : goal.returns
returns c = λ k stands.
    let test : LockWaiter → Bool = λ w. not (waits k w.session w.key) in
    position_from_yields_List test _ _ _ c.position.ensures.ran (YieldsList-from_deque c.args.self.now.waiters.items cc) (λ x b q h. search (rules, tests))

use Rattle.std.proofs.Common.{◌==◌, Bool, rules, tests}
use Rattle.std.proofs.lemmas.Iterator.Consumers.{YieldsList-from_deque}
use Rattle.std.proofs.lemmas.Iterator.Search.{position_from_yields_List}
use Rattle.mono_locks.specs.declared.queues.Entry.{Entry}
use Rattle.mono_locks.proofs.queues.Queue.place_of.Goals as goal

pub returns : goal.returns
returns c =
    let test : Entry → Bool = λ w. w.ticket == c.args.ticket in
    position_from_yields_List test _ _ _ c.position.ensures.ran (YieldsList-from_deque c.args.self.now.waiters.items cc) (λ x b q h. search (rules, tests))

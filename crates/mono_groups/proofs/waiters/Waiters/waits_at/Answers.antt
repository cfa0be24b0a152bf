use Rattle.std.proofs.Common.{◌==◌, ◌&&◌, Bool, rules, tests}
use Rattle.std.proofs.lemmas.Iterator.Consumers.{YieldsList-from_deque}
use Rattle.std.proofs.lemmas.Iterator.Search.{any_from_yields_List}
use Rattle.mono_groups.specs.declared.waiters.Waiter.{Waiter}
use Rattle.mono_groups.proofs.waiters.Waiters.waits_at.Goals as goal

pub returns : goal.returns
returns c =
    let test : Waiter → Bool = λ w. (w.ticket == c.args.ticket) && (w.task == c.args.me) in
    any_from_yields_List test _ _ _ c.any.ensures.ran (YieldsList-from_deque c.args.self.now.entries.items cc) (λ x b q h. search (rules, tests))

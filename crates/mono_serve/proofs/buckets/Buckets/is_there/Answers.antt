use Rattle.std.proofs.Common.{◌==◌, ◌&&◌, Bool, rules, tests}
use Rattle.std.proofs.lemmas.Iterator.Consumers.{YieldsList-from_deque}
use Rattle.std.proofs.lemmas.Iterator.Search.{any_from_yields_List}
use Rattle.mono_serve.specs.declared.buckets.Waiter.{Waiter}
use Rattle.mono_serve.proofs.buckets.Buckets.is_there.Goals as goal

pub returns : goal.returns
returns c =
    let test : Waiter → Bool = λ w. ((w.ticket == c.args.ticket) && (w.bucket == c.args.bucket)) && (w.task == c.args.task) in
    any_from_yields_List test _ _ _ c.any.ensures.ran (YieldsList-from_deque c.args.self.now.waiters.items cc) (λ x b q h. search (rules, tests))

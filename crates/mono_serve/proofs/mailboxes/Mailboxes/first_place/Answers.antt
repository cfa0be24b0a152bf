use Rattle.std.proofs.Common.{◌==◌, Bool, rules, tests}
use Rattle.std.proofs.lemmas.Iterator.Consumers.{YieldsList-from_deque}
use Rattle.std.proofs.lemmas.Iterator.Search.{position_from_yields_List}
use Rattle.mono_serve.specs.declared.mailboxes.Receiver.{Receiver}
use Rattle.mono_serve.proofs.mailboxes.Mailboxes.first_place.Goals as goal

pub returns : goal.returns
returns g c =
    let test : Receiver → Bool = λ w. w.actor == c.args.actor in
    position_from_yields_List test _ _ _ c.position.ensures.ran (YieldsList-from_deque c.args.self.now.waiters.items cc) (λ x b q h. search (rules, tests))

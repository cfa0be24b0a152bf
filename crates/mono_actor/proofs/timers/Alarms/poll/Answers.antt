use Rattle.std.proofs.Common.{refl, ◌∙◌}
use Rattle.std.proofs.lemmas.List.{get_or_default}
use Rattle.mono_actor.proofs.TimeoutPollLemmas.{none_rings, rings}
use Rattle.mono_actor.proofs.timers.Alarms.poll.Goals as goal

pub returns-in_err-key-clause-polled : goal.returns-in_err-key-clause-polled
returns-in_err-key-clause-polled g c = rw c.from_residual.ensures (none_rings c.args.self.now _ c.args.now c.in_err-key.ensures.polled refl)

pub returns-clause-polled : goal.returns-clause-polled
returns-clause-polled g c =
    let came = c.in_ok-key.ensures.polled in
    let number = c.index.ensures ∙ get_or_default c.args.self.now.numbers.items c.in_ok-key.key c.index.result.now 0 (c.args.self.now.within.waits c.in_ok-key.key came.due.0 came.due.1) in
    rings c.args.self.now _ c.args.now c.in_ok-key.key c.index.result.now came refl number

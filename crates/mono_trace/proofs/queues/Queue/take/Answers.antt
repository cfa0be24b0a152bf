use Rattle.std.proofs.Common.{ap, sym, ◌∙◌}
use Rattle.mono_trace.specs.Queues.{unmoved}
use Rattle.mono_trace.proofs.UndoLemmas.{unmoved_took}
use Rattle.mono_trace.proofs.queues.Queue.take.Goals as goal

pub returns-in_ok-push-in-Some : goal.returns-in_ok-push-in-Some
returns-in_ok-push-in-Some c =
    let old = c.self.inside in
    let rest = c.pop_front.new.self.items in (
      sym (ap (λ m. m.now) c.self.view_is) ∙ c.in-Some.ensures.items,
      ap (λ l. unmoved l rest) c.in_ok-push-in-Some.ensures.items ∙ unmoved_took old.moves.items old.items.items rest c.in-Some.t c.in-Some.ensures.items ∙ ap (λ m. m.before) c.self.view_is,
    )

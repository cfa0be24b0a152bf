use Rattle.std.proofs.Common.{◌∙◌, ◌+◌, ap, sym, if◌then◌else◌, Some, None, [], length}
use Rattle.mono_trace.specs.OrderProgress.{stop_from}
use Rattle.mono_trace.proofs.OrderLemmas.{misplaced_is}
use Rattle.mono_trace.proofs.orders.Progress.misplaced.Goals as goal

pub returns-in-Some : goal.returns-in-Some
returns-in-Some c = λ timers marks counted stops.
    sym (misplaced_is timers marks c.args.self.now.stopped c.args.self.now.stage stops ∙ ap (λ o. stop_from timers o (length marks + 1) c.args.self.now.stage []) c.in-Some.is)

pub returns-then-is_last : goal.returns-then-is_last
returns-then-is_last c = λ timers marks counted stops.
    sym (misplaced_is timers marks c.args.self.now.stopped c.args.self.now.stage stops
    ∙ ap (λ o. stop_from timers o (length marks + 1) c.args.self.now.stage []) c.in-None.is
    ∙ ap (λ b. if b then None else Some (length marks + 1, c.args.self.now.stage)) (sym c.is_last.ensures ∙ c.if-is_last.true))

pub returns-else-is_last : goal.returns-else-is_last
returns-else-is_last c = λ timers marks counted stops.
    sym (misplaced_is timers marks c.args.self.now.stopped c.args.self.now.stage stops
    ∙ ap (λ o. stop_from timers o (length marks + 1) c.args.self.now.stage []) c.in-None.is
    ∙ ap (λ b. if b then None else Some (length marks + 1, c.args.self.now.stage)) (sym c.is_last.ensures ∙ c.if-is_last.false)
    ∙ ap (λ n. Some (n, c.args.self.now.stage)) (sym counted))

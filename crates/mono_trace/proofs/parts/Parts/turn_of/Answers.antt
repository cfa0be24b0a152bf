use Rattle.std.proofs.Common.{ap, ◌∙◌, length}
use Rattle.mono_trace.proofs.TurnLemmas.{replies_len}
use Rattle.mono_trace.proofs.parts.Parts.turn_of.Goals as goal

pub returns-then-told-steps-clause-told : goal.returns-then-told-steps-clause-told
returns-then-told-steps-clause-told c = λ told ended. c.if-told-steps.true (ap length told ∙ replies_len c.args.me c.args.steps.now c.args.self.now.now)

use Rattle.std.proofs.Common.{sym, subst}
use Rattle.mono_groups.specs.Tokens.{Awaits}
use Rattle.mono_groups.proofs.token_calls.CancelledCallAsk.ask.Goals as goal

pub returns-clause-leads : goal.returns-clause-leads
returns-clause-leads g c = g.met.W.Holds.leads_with _ _ (rw c.part_mut.ensures.value at c.cancelled.ensures.leads)

pub returns-clause-keeps : goal.returns-clause-keeps
returns-clause-keeps g c = g.met.W.Holds.keeps_with c.args.me _ _ (rw c.part_mut.ensures.value at c.cancelled.ensures.keeps)

pub returns-clause-asked : goal.returns-clause-asked
returns-clause-asked g c =
    subst (λ b. Awaits c.args.self.now.key (g.W.Holds.part c.args.shared.now) c.args.ticket c.args.me c.cancelled.result b) (sym (g.met.W.Holds.part_with c.args.shared.now c.cancelled.new.self))
    (subst (λ a. Awaits c.args.self.now.key a c.args.ticket c.args.me c.cancelled.result c.cancelled.new.self) c.part_mut.ensures.value c.cancelled.ensures.answer)

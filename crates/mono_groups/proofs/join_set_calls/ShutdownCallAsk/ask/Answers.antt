use Rattle.std.proofs.Common.{sym, subst}
use Rattle.mono_groups.specs.JoinSets.{Shuts}
use Rattle.mono_groups.proofs.join_set_calls.ShutdownCallAsk.ask.Goals as goal

pub returns-clause-leads : goal.returns-clause-leads
returns-clause-leads g c = g.met.W.Holds.leads_with _ _ (rw c.part_mut.ensures.value at c.shutdown.ensures.leads)

pub returns-clause-keeps : goal.returns-clause-keeps
returns-clause-keeps g c = g.met.W.Holds.keeps_with c.args.me _ _ (rw c.part_mut.ensures.value at c.shutdown.ensures.keeps)

pub returns-clause-asked : goal.returns-clause-asked
returns-clause-asked g c =
    subst (λ b. Shuts (g.W.Holds.part c.args.shared.now) c.args.ticket c.args.me c.shutdown.result b) (sym (g.met.W.Holds.part_with c.args.shared.now c.shutdown.new.self))
    (subst (λ a. Shuts a c.args.ticket c.args.me c.shutdown.result c.shutdown.new.self) c.part_mut.ensures.value c.shutdown.ensures.answer)

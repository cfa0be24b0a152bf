use Rattle.std.proofs.Common.{sym, subst}
use Rattle.mono_groups.specs.JoinSets.{AsksAbort}
use Rattle.mono_groups.proofs.join_set_calls.AbortedCallAsk.ask.Goals as goal

pub returns-clause-leads : goal.returns-clause-leads
returns-clause-leads g c = g.met.W.Holds.leads_with _ _ (rw c.part_mut.ensures.value at c.aborted.ensures.leads)

pub returns-clause-keeps : goal.returns-clause-keeps
returns-clause-keeps g c = g.met.W.Holds.keeps_with c.args.me _ _ (rw c.part_mut.ensures.value at c.aborted.ensures.keeps)

pub returns-clause-asked : goal.returns-clause-asked
returns-clause-asked g c =
    subst (λ b. AsksAbort (g.W.Holds.part c.args.shared.now) c.args.ticket c.args.me c.aborted.result b) (sym (g.met.W.Holds.part_with c.args.shared.now c.aborted.new.self))
    (subst (λ a. AsksAbort a c.args.ticket c.args.me c.aborted.result c.aborted.new.self) c.part_mut.ensures.value c.aborted.ensures.answer)

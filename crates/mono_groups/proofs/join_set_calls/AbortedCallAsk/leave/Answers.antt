use Rattle.std.proofs.Common.{sym, subst}
use Rattle.mono_groups.specs.JoinSets.{LeavesAbort}
use Rattle.mono_groups.proofs.join_set_calls.AbortedCallAsk.leave.Goals as goal

pub returns-clause-leads : goal.returns-clause-leads
returns-clause-leads g c = g.met.W.Holds.leads_with _ _ (rw c.part_mut.ensures.value at c.run_on.ensures.leads)

pub returns-clause-keeps : goal.returns-clause-keeps
returns-clause-keeps g c = g.met.W.Holds.keeps_with c.args.me _ _ (rw c.part_mut.ensures.value at c.run_on.ensures.keeps)

pub returns-clause-left : goal.returns-clause-left
returns-clause-left g c =
    subst (λ b. LeavesAbort (g.W.Holds.part c.args.shared.now) c.args.ticket c.args.me b) (sym (g.met.W.Holds.part_with c.args.shared.now c.run_on.new.self))
    (subst (λ a. LeavesAbort a c.args.ticket c.args.me c.run_on.new.self) c.part_mut.ensures.value c.run_on.ensures.answer)

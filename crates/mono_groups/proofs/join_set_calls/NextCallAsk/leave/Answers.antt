use Rattle.std.proofs.Common.{sym, subst}
use Rattle.mono_groups.specs.JoinSets.{LeavesJoin}
use Rattle.mono_groups.proofs.join_set_calls.NextCallAsk.leave.Goals as goal

pub returns-clause-leads : goal.returns-clause-leads
returns-clause-leads g c = g.met.W.Holds.leads_with _ _ (rw c.part_mut.ensures.value at c.give_up.ensures.leads)

pub returns-clause-keeps : goal.returns-clause-keeps
returns-clause-keeps g c = g.met.W.Holds.keeps_with c.args.me _ _ (rw c.part_mut.ensures.value at c.give_up.ensures.keeps)

pub returns-clause-left : goal.returns-clause-left
returns-clause-left g c =
    subst (λ b. LeavesJoin (g.W.Holds.part c.args.shared.now) c.args.ticket c.args.me b) (sym (g.met.W.Holds.part_with c.args.shared.now c.give_up.new.self))
    (subst (λ a. LeavesJoin a c.args.ticket c.args.me c.give_up.new.self) c.part_mut.ensures.value c.give_up.ensures.answer)

use Rattle.std.proofs.Common.{sym, subst}
use Rattle.mono_groups.specs.JoinSets.{Aborts}
use Rattle.mono_groups.proofs.join_set_calls.abort_part.Goals as goal

pub returns-clause-leads : goal.returns-clause-leads
returns-clause-leads g c = g.met.W.Holds.leads_with _ _ (rw c.part_mut.ensures.value at c.abort_all.ensures.leads)

pub returns-clause-keeps : goal.returns-clause-keeps
returns-clause-keeps g c me = g.met.W.Holds.keeps_with me _ _ (rw c.part_mut.ensures.value at c.abort_all.ensures.keeps me)

pub returns-clause-answer : goal.returns-clause-answer
returns-clause-answer g c =
    subst (λ b. Aborts (g.W.Holds.part c.args.whole.now) b) (sym (g.met.W.Holds.part_with c.args.whole.now c.abort_all.new.self))
    (subst (λ a. Aborts a c.abort_all.new.self) c.part_mut.ensures.value c.abort_all.ensures.answer)

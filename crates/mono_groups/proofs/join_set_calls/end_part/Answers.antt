use Rattle.std.proofs.Common.{sym, subst}
use Rattle.mono_groups.specs.JoinSets.{Finishes}
use Rattle.mono_groups.proofs.join_set_calls.end_part.Goals as goal

pub returns-clause-leads : goal.returns-clause-leads
returns-clause-leads g c = g.met.W.Holds.leads_with _ _ (rw c.part_mut.ensures.value at c.end.ensures.leads)

pub returns-clause-keeps : goal.returns-clause-keeps
returns-clause-keeps g c me = g.met.W.Holds.keeps_with me _ _ (rw c.part_mut.ensures.value at c.end.ensures.keeps me)

pub returns-clause-answer : goal.returns-clause-answer
returns-clause-answer g c =
    subst (λ b. Finishes (g.W.Holds.part c.args.whole.now) c.args.key c.args.answer b) (sym (g.met.W.Holds.part_with c.args.whole.now c.end.new.self))
    (subst (λ a. Finishes a c.args.key c.args.answer c.end.new.self) c.part_mut.ensures.value c.end.ensures.answer)

use Rattle.std.proofs.Common.{sym, subst}
use Rattle.mono_groups.specs.Tokens.{Cancels}
use Rattle.mono_groups.proofs.token_calls.cancel_part.Goals as goal

pub returns-clause-leads : goal.returns-clause-leads
returns-clause-leads g c = g.met.W.Holds.leads_with _ _ (rw c.part_mut.ensures.value at c.cancel.ensures.leads)

pub returns-clause-keeps : goal.returns-clause-keeps
returns-clause-keeps g c me = g.met.W.Holds.keeps_with me _ _ (rw c.part_mut.ensures.value at c.cancel.ensures.keeps me)

pub returns-clause-answer : goal.returns-clause-answer
returns-clause-answer g c =
    subst (λ b. Cancels c.args.key (g.W.Holds.part c.args.whole.now) b) (sym (g.met.W.Holds.part_with c.args.whole.now c.cancel.new.self))
    (subst (λ a. Cancels c.args.key a c.cancel.new.self) c.part_mut.ensures.value c.cancel.ensures.answer)

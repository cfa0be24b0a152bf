use Rattle.std.proofs.Common.{sym, subst}
use Rattle.mono_groups.specs.JoinSets.{Finishes}
use Rattle.mono_groups.proofs.join_set_calls.end_in.Goals as goal

pub returns-clause-ended : goal.returns-clause-ended
returns-clause-ended g c = (
  subst (λ w. Finishes (g.W.Holds.part (g.C.SharedContext.shared c.args.cx.now)) c.args.key c.args.answer (g.W.Holds.part w)) (sym (g.met.C.SharedContext.shared_with c.args.cx.now c.end_part.new.whole))
      (subst (λ w. Finishes (g.W.Holds.part w) c.args.key c.args.answer (g.W.Holds.part c.end_part.new.whole)) c.shared_mut.ensures.value c.end_part.ensures.answer),
  g.met.C.SharedContext.same_work_with c.args.cx.now c.end_part.new.whole,
)

pub returns-clause-reached : goal.returns-clause-reached
returns-clause-reached g c =
    g.met.C.SharedContext.reaches_with _ _ (rw c.shared_mut.ensures.value at c.end_part.ensures.leads) (rw c.shared_mut.ensures.value at c.end_part.ensures.keeps (g.C.Context.number c.args.cx.now))

use Rattle.mono_sync.proofs.acts.performs.act_on.Goals as goal

pub returns-clause-reached : goal.returns-clause-reached
returns-clause-reached g c =
    g.met.C.SharedContext.reaches_with _ _ (rw c.shared_mut.ensures.value at c.act.ensures.leads) (rw c.shared_mut.ensures.value at c.act.ensures.keeps (g.C.Context.number c.args.cx.now))

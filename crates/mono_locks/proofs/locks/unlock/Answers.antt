use Rattle.mono_locks.proofs.locks.unlock.Goals as goal

pub returns-clause-reached : goal.returns-clause-reached
returns-clause-reached g c =
    g.met.C.SharedContext.reaches_with _ _ (rw c.shared_mut.ensures.value at c.unlock_part.ensures.leads) (rw c.shared_mut.ensures.value at c.unlock_part.ensures.keeps (g.C.Context.number c.args.cx.now))

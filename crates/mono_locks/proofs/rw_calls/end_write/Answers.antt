use Rattle.mono_locks.proofs.rw_calls.end_write.Goals as goal

pub returns-clause-reached : goal.returns-clause-reached
returns-clause-reached g c =
    g.met.C.SharedContext.reaches_with _ _ (rw c.shared_mut.ensures.value at c.end_write_part.ensures.leads) (rw c.shared_mut.ensures.value at c.end_write_part.ensures.keeps (g.C.Context.number c.args.cx.now))

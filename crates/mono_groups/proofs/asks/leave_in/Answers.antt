use Rattle.mono_groups.proofs.asks.leave_in.Goals as goal

pub returns-clause-reached : goal.returns-clause-reached
returns-clause-reached g c =
    g.met.C.SharedContext.reaches_with _ _ (rw c.shared_mut.ensures.value at c.leave.ensures.leads) (rw c.me-me.ensures at (rw c.shared_mut.ensures.value at c.leave.ensures.keeps))

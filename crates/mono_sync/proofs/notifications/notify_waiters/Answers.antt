use Rattle.mono_sync.proofs.notifications.notify_waiters.Goals as goal

pub returns-clause-reached : goal.returns-clause-reached
returns-clause-reached g c =
    g.met.C.SharedContext.reaches_with _ _ (rw c.shared_mut.ensures.value at c.all_part.ensures.leads) (rw c.shared_mut.ensures.value at c.all_part.ensures.keeps (g.C.Context.number c.args.cx.now))

use Rattle.mono_serve.proofs.keepers.Keeper.nap.Goals as goal

pub returns-in-Ready-Ok-clause-reached : goal.returns-in-Ready-Ok-clause-reached
returns-in-Ready-Ok-clause-reached g c =
    let on = g.met.C.Context.reaches_on in
    on _ _ _ (on _ _ _ c.poll.ensures.reached c.cancel.ensures.reached) c.wake_task.ensures.reached

pub returns-in-Ready-Err-clause-reached : goal.returns-in-Ready-Err-clause-reached
returns-in-Ready-Err-clause-reached g c = g.met.C.Context.reaches_on _ _ _ c.poll.ensures.reached c.cancel-in-Ready-Err.ensures.reached

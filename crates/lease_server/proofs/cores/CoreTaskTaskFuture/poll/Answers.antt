use Rattle.lease_server.proofs.cores.CoreTaskTaskFuture.poll.Goals as goal

pub returns-in-Ok-true-clause-reached : goal.returns-in-Ok-true-clause-reached
returns-in-Ok-true-clause-reached g c =
    let on = g.met.C.Context.reaches_on in
    on _ _ _ (on _ _ _ c.remote_waker.ensures.reached c.turn_shared.ensures.reached) c.wake_me.ensures.reached

pub returns-clause-reached : goal.returns-clause-reached
returns-clause-reached g c =
    let on = g.met.C.Context.reaches_on in
    on _ _ _ (on _ _ _ c.remote_waker.ensures.reached c.turn_shared.ensures.reached) c.end_or_rest.ensures

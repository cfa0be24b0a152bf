use Rattle.mono_serve.proofs.keepers.Keeper.rest_until.Goals as goal

pub returns-in-Ok-clause-reached : goal.returns-in-Ok-clause-reached
returns-in-Ok-clause-reached g c = g.met.C.Context.reaches_on _ _ _ c.sleep_until.ensures.reached c.nap.ensures.reached

use Rattle.mono_serve.proofs.keepers.Keeper.rest.Goals as goal

pub returns-in-Some-clause-reached : goal.returns-in-Some-clause-reached
returns-in-Some-clause-reached g c = g.met.C.Context.reaches_on _ _ _ c.rest.ensures.reached c.rest_at.ensures.reached

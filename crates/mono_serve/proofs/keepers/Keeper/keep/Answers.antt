use Rattle.mono_serve.proofs.keepers.Keeper.keep.Goals as goal

pub returns-in-Ok-clause-reached : goal.returns-in-Ok-clause-reached
returns-in-Ok-clause-reached g c = g.met.C.Context.reaches_on _ _ _ c.advance.ensures.reached c.rest.ensures.reached

use Rattle.mono_serve.proofs.takes.Take.go_on.Goals as goal

pub returns-in-Ok-clause-reached : goal.returns-in-Ok-clause-reached
returns-in-Ok-clause-reached g c = g.met.C.Context.reaches_on _ _ _ c.enter.ensures.reached c.ask_for.ensures.reached

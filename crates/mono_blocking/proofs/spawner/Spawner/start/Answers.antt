use Rattle.mono_blocking.proofs.spawner.Spawner.start.Goals as goal

pub returns-in-Ok-clause-admits : goal.returns-in-Ok-clause-admits
returns-in-Ok-clause-admits g c = (c.admit.new.self, c.in-Some.ensures.granted)

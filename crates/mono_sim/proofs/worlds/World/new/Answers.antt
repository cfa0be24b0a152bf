use Rattle.std.proofs.Common.{ap}
use Rattle.mono_sim.proofs.WorldLemmas.{sound_new}
use Rattle.mono_sim.proofs.worlds.World.new.Goals as goal

pub returns-clause-sound : goal.returns-clause-sound
returns-clause-sound g c = sound_new g.F.TaskFuture _ c.new-2.ensures.items (ap (λ p. p.waiting) c.new.ensures) (ap (λ p. p.served) c.new.ensures)

use Rattle.std.proofs.Common.{arith}
use Rattle.mono_actor.specs.Callers.{actors_of}
use Rattle.mono_actor.proofs.ClockStepLemmas.{waiting-live}
use Rattle.mono_actor.proofs.table.Actors.clock.Goals as goal

pub ring_all-requires-clause-room : goal.ring_all-requires-clause-room
ring_all-requires-clause-room g c = omega (arith, c.requires.room, waiting-live (actors_of c.args.self.now))

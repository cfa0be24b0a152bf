use Rattle.std.proofs.Common.{rules}
use Rattle.mono_sim.proofs.WorldLemmas.{sound_added, sound_still}
use Rattle.mono_sim.proofs.worlds.World.add.Goals as goal

pub returns-in-Ok-push-clause-sound : goal.returns-in-Ok-push-clause-sound
returns-in-Ok-push-clause-sound g c is =
    sound_added g.F.TaskFuture c.args.self.now _ (record { runtime = c.args.runtime; main = c.args.main; seat = c.args.seat }) c.requires.rests c.requires.callable (search rules) (search rules) is

pub returns-in-Err-clause-sound : goal.returns-in-Err-clause-sound
returns-in-Err-clause-sound g c is = sound_still g.F.TaskFuture c.args.self.now _ (search rules) (search rules) is

use Rattle.std.proofs.Common.{refl}
use Rattle.mono_locks.proofs.MutexLemmas.{gives_up_keeps}
use Rattle.mono_locks.proofs.mutex.Mutex.give_up.Goals as goal

pub returns-clause-keeps : goal.returns-clause-keeps
returns-clause-keeps g c = gives_up_keeps c.args.self.now _ c.args.ticket c.args.me (refl, c.leave.ensures)

use Rattle.std.proofs.Common.{refl}
use Rattle.mono_locks.proofs.RwLockLemmas.{gives_up_keeps}
use Rattle.mono_locks.proofs.rwlock.RwLock.give_up_read.Goals as goal

pub returns-clause-keeps : goal.returns-clause-keeps
returns-clause-keeps g c = gives_up_keeps c.args.self.now _ c.args.ticket c.args.me 1 (refl, refl, c.leave.ensures)

use Rattle.mono_locks.proofs.RwLockLemmas.{writes_keeps}
use Rattle.mono_locks.proofs.rwlock.RwLock.write.Goals as goal

pub returns-clause-keeps : goal.returns-clause-keeps
returns-clause-keeps g c = writes_keeps c.args.self.now c.ask_write.new.self c.args.ticket c.args.me c.ask_write.result c.ask_write.ensures

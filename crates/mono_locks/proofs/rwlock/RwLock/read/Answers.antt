use Rattle.mono_locks.proofs.RwLockLemmas.{reads_keeps}
use Rattle.mono_locks.proofs.rwlock.RwLock.read.Goals as goal

pub returns-clause-keeps : goal.returns-clause-keeps
returns-clause-keeps g c = reads_keeps c.args.self.now c.ask_read.new.self c.args.ticket c.args.me c.ask_read.result c.ask_read.ensures

use Rattle.mono_locks.proofs.MutexLemmas.{locks_keeps}
use Rattle.mono_locks.proofs.mutex.Mutex.lock.Goals as goal

pub returns-clause-keeps : goal.returns-clause-keeps
returns-clause-keeps g c = locks_keeps c.args.self.now c.ask.new.self c.args.ticket c.args.me c.ask.result c.ask.ensures

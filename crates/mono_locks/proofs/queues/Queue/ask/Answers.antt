use Rattle.mono_locks.proofs.FreeLemmas.{free_room}
use Rattle.mono_locks.proofs.queues.Queue.ask.Goals as goal

pub returns-in-Free-clause-fits : goal.returns-in-Free-clause-fits
returns-in-Free-clause-fits c = free_room c.args.self.now _ c.args.ticket c.args.me c.args.amount c.args.room c.in-Free.ensures

pub returns-in-Ok-clause-asks : goal.returns-in-Ok-clause-asks
returns-in-Ok-clause-asks c = (c.come.new.self, (c.in-Full.ensures, c.in-Ok.ensures))

pub returns-in-Err-clause-asks : goal.returns-in-Err-clause-asks
returns-in-Err-clause-asks c = (c.come.new.self, (c.in-Full.ensures, c.in-Err.ensures))

use Rattle.mono_locks.proofs.BroadcastLemmas.{receives_keeps}
use Rattle.mono_locks.proofs.broadcast.Broadcast.recv.Goals as goal

pub returns-clause-keeps : goal.returns-clause-keeps
returns-clause-keeps g c = receives_keeps c.args.self.now c.ask.new.self c.args.receiver.next c.args.ticket c.args.me c.ask.result c.ask.ensures

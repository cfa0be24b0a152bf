use Rattle.mono_sync.proofs.OneshotLemmas.{receives_keeps}
use Rattle.mono_sync.proofs.oneshot.Oneshot.recv.Goals as goal

pub returns-clause-keeps : goal.returns-clause-keeps
returns-clause-keeps g c = receives_keeps c.args.self.now c.ask.new.self c.args.ticket c.args.me c.ask.result c.ask.ensures

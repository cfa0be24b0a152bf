use Rattle.mono_sync.proofs.ChannelLemmas.{receives_keeps}
use Rattle.mono_sync.proofs.mpsc.Channel.recv.Goals as goal

pub returns-clause-keeps : goal.returns-clause-keeps
returns-clause-keeps g c = receives_keeps c.args.self.now c.ask_recv.new.self c.args.ticket c.args.me c.ask_recv.result c.ask_recv.ensures

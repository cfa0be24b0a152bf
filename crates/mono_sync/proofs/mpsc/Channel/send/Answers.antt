use Rattle.mono_sync.proofs.ChannelLemmas.{sends_keeps}
use Rattle.mono_sync.proofs.mpsc.Channel.send.Goals as goal

pub returns-clause-keeps : goal.returns-clause-keeps
returns-clause-keeps g c = sends_keeps c.args.self.now c.ask_send.new.self c.args.ticket c.args.message c.args.me c.ask_send.result c.ask_send.ensures

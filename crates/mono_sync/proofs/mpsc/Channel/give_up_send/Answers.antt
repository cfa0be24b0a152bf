use Rattle.std.proofs.Common.{refl}
use Rattle.mono_sync.proofs.ChannelLemmas.{gives_up_send_keeps}
use Rattle.mono_sync.proofs.mpsc.Channel.give_up_send.Goals as goal

pub returns-clause-keeps : goal.returns-clause-keeps
returns-clause-keeps g c = gives_up_send_keeps c.args.self.now (record c.args.self.now { senders = c.leave.new.self }) c.args.ticket c.args.me (c.leave.ensures, (refl, refl, (refl, refl)))

use Rattle.std.proofs.Common.{refl}
use Rattle.mono_sync.proofs.ChannelLemmas.{gives_up_receive_keeps}
use Rattle.mono_sync.proofs.mpsc.Channel.give_up_recv.Goals as goal

pub returns-clause-keeps : goal.returns-clause-keeps
returns-clause-keeps g c = gives_up_receive_keeps c.args.self.now (record c.args.self.now { receivers = c.leave.new.self }) c.args.ticket c.args.me (c.leave.ensures, (refl, refl, (refl, refl)))

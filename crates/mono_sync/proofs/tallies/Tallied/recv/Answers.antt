use Rattle.mono_sync.specs.MpscRuns.{asked_to_receive, leads_by}
use Rattle.mono_sync.proofs.ChannelLemmas.{receives_keeps}
use Rattle.mono_sync.proofs.tallies.Tallied.recv.Goals as goal

pub returns-clause-leads : goal.returns-clause-leads
returns-clause-leads g c = (leads_by (asked_to_receive c.args.ticket c.args.me c.ask_recv.result) _ _ c.ask_recv.ensures.0, c.ask_recv.ensures.1)

pub returns-clause-keeps : goal.returns-clause-keeps
returns-clause-keeps g c = receives_keeps c.args.self.now.channel c.ask_recv.new.self.channel c.args.ticket c.args.me c.ask_recv.result c.ask_recv.ensures.0

use Rattle.mono_sync.specs.MpscRuns.{asked_to_send, leads_by}
use Rattle.mono_sync.proofs.ChannelLemmas.{sends_keeps}
use Rattle.mono_sync.proofs.tallies.Tallied.send.Goals as goal

pub returns-clause-leads : goal.returns-clause-leads
returns-clause-leads g c = (leads_by (asked_to_send c.args.ticket c.args.message c.args.me c.ask_send.result) _ _ c.ask_send.ensures.0, c.ask_send.ensures.1)

pub returns-clause-keeps : goal.returns-clause-keeps
returns-clause-keeps g c = sends_keeps c.args.self.now.channel c.ask_send.new.self.channel c.args.ticket c.args.message c.args.me c.ask_send.result c.ask_send.ensures.0

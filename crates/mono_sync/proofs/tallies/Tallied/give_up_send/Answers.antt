use Rattle.mono_sync.specs.MpscRuns.{gave_up_send, leads_by}
use Rattle.mono_sync.proofs.TallyLemmas.{rule_stays}
use Rattle.mono_sync.proofs.tallies.Tallied.give_up_send.Goals as goal

pub returns-clause-leads : goal.returns-clause-leads
returns-clause-leads g c = (leads_by (gave_up_send c.args.ticket c.args.me) _ _ c.give_up_send.ensures.answer, rule_stays g.S.Tally.rule c.args.self.now.tally c.args.self.now.channel.queue.items c.give_up_send.new.self.queue.items (c.give_up_send.ensures.answer.1.0))

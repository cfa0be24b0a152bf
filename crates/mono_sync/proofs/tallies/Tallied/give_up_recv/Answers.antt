use Rattle.mono_sync.specs.MpscRuns.{gave_up_receive, leads_by}
use Rattle.mono_sync.proofs.TallyLemmas.{rule_stays}
use Rattle.mono_sync.proofs.tallies.Tallied.give_up_recv.Goals as goal

pub returns-clause-leads : goal.returns-clause-leads
returns-clause-leads g c = (leads_by (gave_up_receive c.args.ticket c.args.me) _ _ c.give_up_recv.ensures.answer, rule_stays g.S.Tally.rule c.args.self.now.tally c.args.self.now.channel.queue.items c.give_up_recv.new.self.queue.items (c.give_up_recv.ensures.answer.1.0))

use Rattle.std.proofs.Common.{ap}
use Rattle.mono_sync.specs.MpscRuns.{closed, leads_by}
use Rattle.mono_sync.proofs.TallyLemmas.{rule_stays}
use Rattle.mono_sync.proofs.tallies.Tallied.close.Goals as goal

pub returns-clause-leads : goal.returns-clause-leads
returns-clause-leads g c = (leads_by closed _ _ c.close.ensures.answer, rule_stays g.S.Tally.rule c.args.self.now.tally c.args.self.now.channel.queue.items c.close.new.self.queue.items (ap (λ q. q.items) c.close.ensures.answer.0))

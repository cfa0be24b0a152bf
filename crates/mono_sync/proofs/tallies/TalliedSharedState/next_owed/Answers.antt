use Rattle.mono_sync.proofs.TallyLemmas.{hands_beside, rule_stays}
use Rattle.std.proofs.Common.{ap}
use Rattle.mono_sync.proofs.tallies.TalliedSharedState.next_owed.Goals as goal

pub returns-clause-hands : goal.returns-clause-hands
returns-clause-hands g c = hands_beside c.args.self.now c.hand_out.new.channel c.hand_out.result c.hand_out.ensures.hands

pub returns-clause-leads : goal.returns-clause-leads
returns-clause-leads g c = (c.hand_out.ensures.leads, rule_stays g.S.Tally.rule c.args.self.now.tally c.args.self.now.channel.queue.items c.hand_out.new.channel.queue.items (ap (λ q. q.items) c.hand_out.ensures.queue))

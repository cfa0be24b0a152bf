use Rattle.std.proofs.Common.{Some, None}
use Rattle.mono_sync.specs.MpscRuns.{served_sender, served_receiver, leads_by, leads_on}
use Rattle.mono_sync.proofs.ChannelLemmas.{sender_hands, receiver_hands}
use Rattle.mono_sync.proofs.tallies.hand_out.Goals as goal

pub returns-in-Some-clause-hands : goal.returns-in-Some-clause-hands
returns-in-Some-clause-hands g c = sender_hands c.args.channel.now c.pay_sender.new.self c.in-Some.first c.in-Some.ensures

pub returns-in-Some-clause-leads : goal.returns-in-Some-clause-leads
returns-in-Some-clause-leads g c = leads_by (served_sender (Some c.in-Some.first)) c.args.channel.now c.pay_sender.new.self c.in-Some.ensures

pub returns-in-None-clause-hands : goal.returns-in-None-clause-hands
returns-in-None-clause-hands g c = receiver_hands c.args.channel.now c.pay_sender.new.self c.pay_receiver.new.self None c.in_default.ensures c.in-None.ensures

pub returns-in-Some-pay_receiver-clause-hands : goal.returns-in-Some-pay_receiver-clause-hands
returns-in-Some-pay_receiver-clause-hands g c = receiver_hands c.args.channel.now c.pay_sender.new.self c.pay_receiver.new.self (Some c.in-Some-pay_receiver.first) c.in_default.ensures c.in-Some-pay_receiver.ensures

pub returns-in-Some-pay_receiver-clause-leads : goal.returns-in-Some-pay_receiver-clause-leads
returns-in-Some-pay_receiver-clause-leads g c =
    leads_on c.args.channel.now c.pay_sender.new.self c.pay_receiver.new.self (leads_by (served_sender None) c.args.channel.now c.pay_sender.new.self c.in_default.ensures) (leads_by (served_receiver (Some c.in-Some-pay_receiver.first)) c.pay_sender.new.self c.pay_receiver.new.self c.in-Some-pay_receiver.ensures)

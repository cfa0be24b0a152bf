use Rattle.std.proofs.Common.{◌<◌, Ok, rules}
use Rattle.mono_sync.specs.Mpsc.{TriesToReceive}
use Rattle.mono_sync.specs.MpscRuns.{tried_to_receive, leads_by, leads_on}
use Rattle.mono_sync.proofs.ManyMessageLemmas.{moves_more, free_more}
use Rattle.mono_sync.proofs.mpsc.Channel.move_free.Goals as goal

pub loop-left-preserved : goal.loop-left-preserved
loop-left-preserved g c =
    let some : 0 < c.loop-left.left = search rules in
    let received : TriesToReceive c.loop-left.self (Ok c.in-Ok.message) c.try_recv.new.self = c.in-Ok.ensures.answer in
    record {
      at_most = search rules;
      moves = moves_more c.args.self.now c.loop-left.self c.try_recv.new.self c.args.buffer.now.items c.loop-left.buffer.items _ c.args.count c.loop-left.left c.in-Ok.message some c.loop-left.invariant.at_most c.loop-left.invariant.moves received c.push_reserved.ensures.items;
      free = free_more c.loop-left.self c.try_recv.new.self c.in-Ok.message c.loop-left.left some c.loop-left.invariant.free received;
      memory = search rules;
      leads = leads_on c.args.self.now c.loop-left.self c.try_recv.new.self c.loop-left.invariant.leads (leads_by (tried_to_receive (Ok c.in-Ok.message)) c.loop-left.self c.try_recv.new.self received);
    }

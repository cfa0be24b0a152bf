use Rattle.mono_sync.specs.Runs.{leads_by}
use Rattle.mono_locks.specs.BroadcastRuns.{received, Step}
use Rattle.mono_locks.proofs.broadcast_calls.RecvCallAsk.ask.Goals as goal

pub returns-clause-leads : goal.returns-clause-leads
returns-clause-leads g c = g.met.W.Holds.leads_with _ _ (leads_by Step (received c.args.self.now.receiver.next c.args.ticket c.args.me c.recv.result) _ _ (rw c.part_mut.ensures.value at c.recv.ensures.answer))

pub returns-clause-keeps : goal.returns-clause-keeps
returns-clause-keeps g c = g.met.W.Holds.keeps_with c.args.me _ _ (rw c.part_mut.ensures.value at c.recv.ensures.keeps)

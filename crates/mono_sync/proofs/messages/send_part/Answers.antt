use Rattle.mono_sync.specs.MpscRuns.{asked_to_send, leads_by}
use Rattle.mono_sync.proofs.messages.send_part.Goals as goal

pub returns-clause-leads : goal.returns-clause-leads
returns-clause-leads g c = g.met.W.Holds.leads_with _ _ (leads_by (asked_to_send c.args.ticket c.args.message c.args.me c.send.result) _ _ (rw c.part_mut.ensures.value at c.send.ensures.answer))

pub returns-clause-keeps : goal.returns-clause-keeps
returns-clause-keeps g c = g.met.W.Holds.keeps_with c.args.me _ _ (rw c.part_mut.ensures.value at c.send.ensures.keeps)

use Rattle.mono_sync.specs.SemaphoreRuns.{asked, leads_by}
use Rattle.mono_sync.proofs.permits.ask_part.Goals as goal

pub returns-clause-leads : goal.returns-clause-leads
returns-clause-leads g c = g.met.W.Holds.leads_with _ _ (leads_by (asked c.args.ticket c.args.me c.acquire.result) _ _ (rw c.part_mut.ensures.value at c.acquire.ensures.answer))

pub returns-clause-keeps : goal.returns-clause-keeps
returns-clause-keeps g c = g.met.W.Holds.keeps_with c.args.me _ _ (rw c.part_mut.ensures.value at c.acquire.ensures.keeps)

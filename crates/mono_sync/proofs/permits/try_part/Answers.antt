use Rattle.mono_sync.specs.SemaphoreRuns.{tried, leads_by}
use Rattle.mono_sync.proofs.permits.try_part.Goals as goal

pub returns-clause-leads : goal.returns-clause-leads
returns-clause-leads g c = g.met.W.Holds.leads_with _ _ (leads_by (tried c.try_acquire.result) _ _ (rw c.part_mut.ensures.value at c.try_acquire.ensures.answer))

pub returns-clause-keeps : goal.returns-clause-keeps
returns-clause-keeps g c me = g.met.W.Holds.keeps_with me _ _ (rw c.part_mut.ensures.value at c.try_acquire.ensures.keeps me)

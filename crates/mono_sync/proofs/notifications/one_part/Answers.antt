use Rattle.mono_sync.specs.Runs.{leads_by}
use Rattle.mono_sync.specs.NoticeRuns.{one, Step}
use Rattle.mono_sync.proofs.notifications.one_part.Goals as goal

pub returns-clause-leads : goal.returns-clause-leads
returns-clause-leads g c = g.met.W.Holds.leads_with _ _ (leads_by Step one _ _ (rw c.part_mut.ensures.value at c.notify_one.ensures.answer))

pub returns-clause-keeps : goal.returns-clause-keeps
returns-clause-keeps g c me = g.met.W.Holds.keeps_with me _ _ (rw c.part_mut.ensures.value at c.notify_one.ensures.keeps me)

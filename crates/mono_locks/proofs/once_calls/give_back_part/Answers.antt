use Rattle.mono_sync.specs.Runs.{leads_by}
use Rattle.mono_locks.specs.OnceCellRuns.{gave_back, Step}
use Rattle.mono_locks.proofs.once_calls.give_back_part.Goals as goal

pub returns-clause-leads : goal.returns-clause-leads
returns-clause-leads g c = g.met.W.Holds.leads_with _ _ (leads_by Step (gave_back) _ _ (rw c.part_mut.ensures.value at c.give_back.ensures.answer))

pub returns-clause-keeps : goal.returns-clause-keeps
returns-clause-keeps g c me = g.met.W.Holds.keeps_with me _ _ (rw c.part_mut.ensures.value at c.give_back.ensures.keeps me)

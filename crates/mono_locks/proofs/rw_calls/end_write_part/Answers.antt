use Rattle.mono_sync.specs.Runs.{leads_by}
use Rattle.mono_locks.specs.RwLockRuns.{ended_write, Step}
use Rattle.mono_locks.proofs.rw_calls.end_write_part.Goals as goal

pub returns-clause-leads : goal.returns-clause-leads
returns-clause-leads g c = g.met.W.Holds.leads_with _ _ (leads_by Step (ended_write c.args.guard c.end_write.result) _ _ (rw c.part_mut.ensures.value at c.end_write.ensures.answer))

pub returns-clause-keeps : goal.returns-clause-keeps
returns-clause-keeps g c me = g.met.W.Holds.keeps_with me _ _ (rw c.part_mut.ensures.value at c.end_write.ensures.keeps me)

use Rattle.mono_sync.specs.Runs.{leads_by}
use Rattle.mono_locks.specs.RwLockRuns.{gave_up, Step}
use Rattle.mono_locks.specs.declared.rwlock.TheConstants.{MAX_READS}
use Rattle.mono_locks.proofs.rw_calls.WriteCallAsk.leave.Goals as goal

pub returns-clause-leads : goal.returns-clause-leads
returns-clause-leads g c = g.met.W.Holds.leads_with _ _ (leads_by Step (gave_up c.args.ticket c.args.me MAX_READS) _ _ (rw c.part_mut.ensures.value at c.give_up_write.ensures.answer))

pub returns-clause-keeps : goal.returns-clause-keeps
returns-clause-keeps g c = g.met.W.Holds.keeps_with c.args.me _ _ (rw c.part_mut.ensures.value at c.give_up_write.ensures.keeps)

use Rattle.mono_sync.specs.Runs.{leads_by}
use Rattle.mono_locks.specs.MutexRuns.{asked, Step}
use Rattle.mono_locks.proofs.locks.LockCallAsk.ask.Goals as goal

pub returns-clause-leads : goal.returns-clause-leads
returns-clause-leads g c = g.met.W.Holds.leads_with _ _ (leads_by Step (asked c.args.ticket c.args.me c.lock.result) _ _ (rw c.part_mut.ensures.value at c.lock.ensures.answer))

pub returns-clause-keeps : goal.returns-clause-keeps
returns-clause-keeps g c = g.met.W.Holds.keeps_with c.args.me _ _ (rw c.part_mut.ensures.value at c.lock.ensures.keeps)

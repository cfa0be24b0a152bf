use Rattle.mono_sync.specs.Runs.{leads_by}
use Rattle.mono_locks.specs.OnceCellRuns.{gave_up, Step}
use Rattle.mono_locks.proofs.once_calls.InitCallAsk.leave.Goals as goal

pub returns-clause-leads : goal.returns-clause-leads
returns-clause-leads g c = g.met.W.Holds.leads_with _ _ (leads_by Step (gave_up c.args.ticket c.args.me) _ _ (rw c.part_mut.ensures.value at c.give_up.ensures.answer))

pub returns-clause-keeps : goal.returns-clause-keeps
returns-clause-keeps g c = g.met.W.Holds.keeps_with c.args.me _ _ (rw c.part_mut.ensures.value at c.give_up.ensures.keeps)

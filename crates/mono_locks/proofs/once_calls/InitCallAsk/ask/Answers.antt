use Rattle.mono_sync.specs.Runs.{leads_by}
use Rattle.mono_locks.specs.OnceCellRuns.{asked_for, Step}
use Rattle.mono_locks.proofs.once_calls.InitCallAsk.ask.Goals as goal

pub returns-clause-leads : goal.returns-clause-leads
returns-clause-leads g c = g.met.W.Holds.leads_with _ _ (leads_by Step (asked_for c.args.ticket c.args.me c.get_or_init.result) _ _ (rw c.part_mut.ensures.value at c.get_or_init.ensures.answer))

pub returns-clause-keeps : goal.returns-clause-keeps
returns-clause-keeps g c = g.met.W.Holds.keeps_with c.args.me _ _ (rw c.part_mut.ensures.value at c.get_or_init.ensures.keeps)

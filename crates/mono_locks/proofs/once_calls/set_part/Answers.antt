use Rattle.mono_sync.specs.Runs.{leads_by}
use Rattle.mono_locks.specs.OnceCellRuns.{was_set, Step}
use Rattle.mono_locks.proofs.once_calls.set_part.Goals as goal

pub returns-clause-leads : goal.returns-clause-leads
returns-clause-leads g c = g.met.W.Holds.leads_with _ _ (leads_by Step (was_set c.args.value c.set.result) _ _ (rw c.part_mut.ensures.value at c.set.ensures.answer))

pub returns-clause-keeps : goal.returns-clause-keeps
returns-clause-keeps g c me = g.met.W.Holds.keeps_with me _ _ (rw c.part_mut.ensures.value at c.set.ensures.keeps me)

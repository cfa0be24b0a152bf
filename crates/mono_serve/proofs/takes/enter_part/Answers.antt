use Rattle.mono_sync.specs.Runs.{leads_by}
use Rattle.mono_serve.specs.BucketCalls.{entered, Step}
use Rattle.mono_serve.proofs.BucketWaits.{enters_keep}
use Rattle.mono_serve.proofs.takes.enter_part.Goals as goal

pub returns-clause-leads : goal.returns-clause-leads
returns-clause-leads g c =
    g.met.W.Holds.leads_with _ _ (leads_by Step (entered c.args.ticket c.args.bucket c.args.task c.enter.result) _ _ (rw c.part_mut.ensures.value at c.enter.ensures))

pub returns-clause-keeps : goal.returns-clause-keeps
returns-clause-keeps g c =
    g.met.W.Holds.keeps_with c.args.task _ _ (enters_keep _ _ c.args.ticket c.args.bucket c.args.task c.enter.result (rw c.part_mut.ensures.value at c.enter.ensures))

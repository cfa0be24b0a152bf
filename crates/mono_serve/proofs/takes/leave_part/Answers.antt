use Rattle.mono_sync.specs.Runs.{leads_by}
use Rattle.mono_serve.specs.BucketCalls.{gave_up, Step}
use Rattle.mono_serve.proofs.BucketWaits.{gives_up_keep}
use Rattle.mono_serve.proofs.takes.leave_part.Goals as goal

pub returns-clause-leads : goal.returns-clause-leads
returns-clause-leads g c =
    g.met.W.Holds.leads_with _ _ (leads_by Step (gave_up c.args.ticket c.args.me) _ _ (rw c.part_mut.ensures.value at c.give_up.ensures))

pub returns-clause-keeps : goal.returns-clause-keeps
returns-clause-keeps g c =
    g.met.W.Holds.keeps_with c.args.me _ _ (gives_up_keep c.args.me _ _ c.args.ticket (rw c.part_mut.ensures.value at c.give_up.ensures))

use Rattle.mono_sync.specs.Runs.{leads_by}
use Rattle.mono_serve.specs.LeaseCalls.{forgot, Step}
use Rattle.mono_serve.proofs.LeaseWaits.{forgets_keep}
use Rattle.mono_serve.proofs.lease_parts.forget_part.Goals as goal

pub returns-clause-leads : goal.returns-clause-leads
returns-clause-leads g c =
    g.met.W.Holds.leads_with _ _ (leads_by Step (forgot c.args.task) _ _ (rw c.part_mut.ensures.value at c.forget.ensures))

pub returns-clause-keeps : goal.returns-clause-keeps
returns-clause-keeps g c = λ me. g.met.W.Holds.keeps_with me c.args.whole.now c.forget.new.self (forgets_keep me (g.W.Holds.part c.args.whole.now) c.forget.new.self c.args.task (rw c.part_mut.ensures.value at c.forget.ensures))

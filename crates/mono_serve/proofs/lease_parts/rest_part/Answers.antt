use Rattle.mono_sync.specs.Runs.{leads_by}
use Rattle.mono_serve.specs.LeaseCalls.{rested, Step}
use Rattle.mono_serve.proofs.LeaseWaits.{rests_keep}
use Rattle.mono_serve.proofs.lease_parts.rest_part.Goals as goal

pub returns-clause-leads : goal.returns-clause-leads
returns-clause-leads g c =
    g.met.W.Holds.leads_with _ _ (leads_by Step (rested c.args.task c.rest.result) _ _ (rw c.part_mut.ensures.value at c.rest.ensures))

pub returns-clause-keeps : goal.returns-clause-keeps
returns-clause-keeps g c = λ me. g.met.W.Holds.keeps_with me c.args.whole.now c.rest.new.self (rests_keep me (g.W.Holds.part c.args.whole.now) c.rest.new.self c.args.task c.rest.result (rw c.part_mut.ensures.value at c.rest.ensures))

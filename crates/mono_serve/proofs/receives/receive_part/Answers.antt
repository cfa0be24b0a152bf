use Rattle.std.proofs.Common.{sym, subst}
use Rattle.mono_sync.specs.Runs.{leads_by}
use Rattle.mono_serve.specs.MailCalls.{Receives, received, Step}
use Rattle.mono_serve.proofs.MailWaits.{receives_keep}
use Rattle.mono_serve.proofs.receives.receive_part.Goals as goal

pub returns-clause-leads : goal.returns-clause-leads
returns-clause-leads g c =
    g.met.W.Holds.leads_with _ _ (leads_by Step (received c.args.ticket c.args.actor c.args.task c.receive.result) _ _ (rw c.part_mut.ensures.value at c.receive.ensures))

pub returns-clause-answer : goal.returns-clause-answer
returns-clause-answer g c =
    subst (λ x. Receives (g.W.Holds.part c.args.whole.now) c.args.ticket c.args.actor c.args.task c.receive.result x) (sym (g.met.W.Holds.part_with c.args.whole.now c.receive.new.self))
    (rw c.part_mut.ensures.value at c.receive.ensures)

pub returns-clause-keeps : goal.returns-clause-keeps
returns-clause-keeps g c =
    g.met.W.Holds.keeps_with c.args.task c.args.whole.now c.receive.new.self (receives_keep (g.W.Holds.part c.args.whole.now) c.receive.new.self c.args.ticket c.args.actor c.args.task c.receive.result (rw c.part_mut.ensures.value at c.receive.ensures))

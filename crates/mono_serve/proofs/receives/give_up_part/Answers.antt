use Rattle.std.proofs.Common.{sym, subst}
use Rattle.mono_sync.specs.Runs.{leads_by}
use Rattle.mono_serve.specs.MailCalls.{GivesUp, gave_up, Step}
use Rattle.mono_serve.proofs.MailWaits.{gives_up_keep}
use Rattle.mono_serve.proofs.receives.give_up_part.Goals as goal

pub returns-clause-leads : goal.returns-clause-leads
returns-clause-leads g c =
    g.met.W.Holds.leads_with _ _ (leads_by Step (gave_up c.args.ticket c.args.me) _ _ (rw c.part_mut.ensures.value at c.give_up.ensures))

pub returns-clause-answer : goal.returns-clause-answer
returns-clause-answer g c =
    subst (λ x. GivesUp (g.W.Holds.part c.args.whole.now) c.args.ticket c.args.me x) (sym (g.met.W.Holds.part_with c.args.whole.now c.give_up.new.self)) (rw c.part_mut.ensures.value at c.give_up.ensures)

pub returns-clause-keeps : goal.returns-clause-keeps
returns-clause-keeps g c = g.met.W.Holds.keeps_with c.args.me c.args.whole.now c.give_up.new.self (gives_up_keep c.args.me (g.W.Holds.part c.args.whole.now) c.give_up.new.self c.args.ticket (rw c.part_mut.ensures.value at c.give_up.ensures))

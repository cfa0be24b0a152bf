use Rattle.std.proofs.Common.{sym, subst}
use Rattle.mono_serve.specs.LeaseCalls.{GivesUp, Then, gave_up}
use Rattle.mono_serve.proofs.LeaseWaits.{gave_up_then, then_leads}
use Rattle.mono_serve.proofs.lease_parts.give_up_part.Goals as goal

pub returns-clause-leads : goal.returns-clause-leads
returns-clause-leads g c =
    g.met.W.Holds.leads_with _ _ (then_leads (gave_up c.args.ticket c.args.session c.args.key c.args.me) _ _ (rw c.part_mut.ensures.value at c.give_up.ensures))

pub returns-clause-answer : goal.returns-clause-answer
returns-clause-answer g c =
    subst (λ x. Then (GivesUp (g.W.Holds.part c.args.whole.now) c.args.ticket c.args.session c.args.key c.args.me) x) (sym (g.met.W.Holds.part_with c.args.whole.now c.give_up.new.self)) (rw c.part_mut.ensures.value at c.give_up.ensures)

pub returns-clause-keeps : goal.returns-clause-keeps
returns-clause-keeps g c = g.met.W.Holds.keeps_with c.args.me c.args.whole.now c.give_up.new.self (gave_up_then (g.W.Holds.part c.args.whole.now) c.give_up.new.self c.args.ticket c.args.session c.args.key c.args.me (rw c.part_mut.ensures.value at c.give_up.ensures))

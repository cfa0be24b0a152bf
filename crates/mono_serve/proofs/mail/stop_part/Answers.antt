use Rattle.std.proofs.Common.{sym, subst}
use Rattle.mono_serve.specs.MailCalls.{Stops, Then, stopped_one}
use Rattle.mono_serve.proofs.MailWaits.{stops_then, then_leads}
use Rattle.mono_serve.proofs.mail.stop_part.Goals as goal

pub returns-clause-leads : goal.returns-clause-leads
returns-clause-leads g c =
    g.met.W.Holds.leads_with _ _ (then_leads (stopped_one c.args.actor c.stop.result) c.args.actor _ _ (rw c.part_mut.ensures.value at c.stop.ensures))

pub returns-clause-answer : goal.returns-clause-answer
returns-clause-answer g c =
    subst (λ x. Then (Stops (g.W.Holds.part c.args.whole.now) c.args.actor c.stop.result) c.args.actor x) (sym (g.met.W.Holds.part_with c.args.whole.now c.stop.new.self)) (rw c.part_mut.ensures.value at c.stop.ensures)

pub returns-clause-keeps : goal.returns-clause-keeps
returns-clause-keeps g c = λ me. g.met.W.Holds.keeps_with me c.args.whole.now c.stop.new.self (stops_then me (g.W.Holds.part c.args.whole.now) c.stop.new.self c.args.actor c.stop.result (rw c.part_mut.ensures.value at c.stop.ensures))

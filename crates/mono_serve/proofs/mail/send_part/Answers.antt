use Rattle.std.proofs.Common.{sym, subst}
use Rattle.mono_serve.specs.MailCalls.{Sends, Then, sent_one}
use Rattle.mono_serve.proofs.MailWaits.{sends_then, then_leads}
use Rattle.mono_serve.proofs.mail.send_part.Goals as goal

pub returns-clause-leads : goal.returns-clause-leads
returns-clause-leads g c =
    g.met.W.Holds.leads_with _ _ (then_leads (sent_one c.args.from c.args.to c.args.message c.send.result) c.args.to _ _ (rw c.part_mut.ensures.value at c.send.ensures))

pub returns-clause-answer : goal.returns-clause-answer
returns-clause-answer g c =
    subst (λ x. Then (Sends (g.W.Holds.part c.args.whole.now) c.args.from c.args.to c.args.message c.send.result) c.args.to x) (sym (g.met.W.Holds.part_with c.args.whole.now c.send.new.self)) (rw c.part_mut.ensures.value at c.send.ensures)

pub returns-clause-keeps : goal.returns-clause-keeps
returns-clause-keeps g c = λ me. g.met.W.Holds.keeps_with me c.args.whole.now c.send.new.self (sends_then me (g.W.Holds.part c.args.whole.now) c.send.new.self c.args.from c.args.to c.args.message c.send.result (rw c.part_mut.ensures.value at c.send.ensures))

use Rattle.std.proofs.Common.{sym, subst}
use Rattle.mono_time.specs.Instants.{nanos_of}
use Rattle.mono_serve.specs.LeaseCalls.{ShownAt, Then, shown}
use Rattle.mono_serve.proofs.LeaseWaits.{shown_then, then_leads}
use Rattle.mono_serve.proofs.lease_parts.advance_part.Goals as goal

pub returns-clause-leads : goal.returns-clause-leads
returns-clause-leads g c =
    g.met.W.Holds.leads_with _ _ (then_leads (shown (nanos_of c.args.now) c.advance.result) _ _ (rw c.part_mut.ensures.value at c.advance.ensures))

pub returns-clause-answer : goal.returns-clause-answer
returns-clause-answer g c =
    subst (λ x. Then (ShownAt (g.W.Holds.part c.args.whole.now) (nanos_of c.args.now) c.advance.result) x) (sym (g.met.W.Holds.part_with c.args.whole.now c.advance.new.self)) (rw c.part_mut.ensures.value at c.advance.ensures)

pub returns-clause-keeps : goal.returns-clause-keeps
returns-clause-keeps g c = λ me. g.met.W.Holds.keeps_with me c.args.whole.now c.advance.new.self (shown_then me (g.W.Holds.part c.args.whole.now) c.advance.new.self (nanos_of c.args.now) c.advance.result (rw c.part_mut.ensures.value at c.advance.ensures))

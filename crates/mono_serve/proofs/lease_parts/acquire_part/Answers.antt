use Rattle.std.proofs.Common.{sym, subst}
use Rattle.mono_time.specs.Instants.{nanos_of}
use Rattle.mono_serve.specs.LeaseCalls.{Claims, Then, claimed}
use Rattle.mono_serve.proofs.LeaseWaits.{claimed_then, then_leads}
use Rattle.mono_serve.proofs.lease_parts.acquire_part.Goals as goal

pub returns-clause-leads : goal.returns-clause-leads
returns-clause-leads g c =
    g.met.W.Holds.leads_with _ _ (then_leads (claimed (nanos_of c.args.now) c.args.session c.args.key c.args.task c.acquire.result) _ _ (rw c.part_mut.ensures.value at c.acquire.ensures))

pub returns-clause-answer : goal.returns-clause-answer
returns-clause-answer g c =
    subst (λ x. Then (Claims (g.W.Holds.part c.args.whole.now) (nanos_of c.args.now) c.args.session c.args.key c.args.task c.acquire.result) x) (sym (g.met.W.Holds.part_with c.args.whole.now c.acquire.new.self)) (rw c.part_mut.ensures.value at c.acquire.ensures)

pub returns-clause-keeps : goal.returns-clause-keeps
returns-clause-keeps g c = λ me. g.met.W.Holds.keeps_with me c.args.whole.now c.acquire.new.self (claimed_then me (g.W.Holds.part c.args.whole.now) c.acquire.new.self (nanos_of c.args.now) c.args.session c.args.key c.args.task c.acquire.result (rw c.part_mut.ensures.value at c.acquire.ensures))

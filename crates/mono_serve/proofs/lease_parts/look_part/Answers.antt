use Rattle.std.proofs.Common.{sym, subst}
use Rattle.mono_time.specs.Instants.{nanos_of}
use Rattle.mono_serve.specs.LeaseCalls.{Looks, Then, looked}
use Rattle.mono_serve.proofs.LeaseWaits.{looked_then, then_leads}
use Rattle.mono_serve.proofs.lease_parts.look_part.Goals as goal

pub returns-clause-leads : goal.returns-clause-leads
returns-clause-leads g c =
    g.met.W.Holds.leads_with _ _ (then_leads (looked (nanos_of c.args.now) c.args.ticket c.args.session c.args.key c.args.task c.look.result) _ _ (rw c.part_mut.ensures.value at c.look.ensures))

pub returns-clause-answer : goal.returns-clause-answer
returns-clause-answer g c =
    subst (λ x. Then (Looks (g.W.Holds.part c.args.whole.now) (nanos_of c.args.now) c.args.ticket c.args.session c.args.key c.args.task c.look.result) x) (sym (g.met.W.Holds.part_with c.args.whole.now c.look.new.self)) (rw c.part_mut.ensures.value at c.look.ensures)

pub returns-clause-keeps : goal.returns-clause-keeps
returns-clause-keeps g c = g.met.W.Holds.keeps_with c.args.task c.args.whole.now c.look.new.self (looked_then (g.W.Holds.part c.args.whole.now) c.look.new.self (nanos_of c.args.now) c.args.ticket c.args.session c.args.key c.args.task c.look.result (rw c.part_mut.ensures.value at c.look.ensures))

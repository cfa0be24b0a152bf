use Rattle.std.proofs.Common.{sym, subst}
use Rattle.mono_time.specs.Instants.{nanos_of}
use Rattle.mono_session.specs.Answers.{of_done}
use Rattle.mono_session.specs.Calls as call
use Rattle.mono_serve.specs.LeaseCalls.{Calls, Then, called}
use Rattle.mono_serve.proofs.LeaseWaits.{called_then, then_leads}
use Rattle.mono_serve.proofs.lease_parts.close_part.Goals as goal

pub returns-clause-leads : goal.returns-clause-leads
returns-clause-leads g c =
    g.met.W.Holds.leads_with _ _ (then_leads (called (nanos_of c.args.now) (call.Close c.args.session) (of_done c.close.result)) _ _ (rw c.part_mut.ensures.value at c.close.ensures))

pub returns-clause-answer : goal.returns-clause-answer
returns-clause-answer g c =
    subst (λ x. Then (Calls (g.W.Holds.part c.args.whole.now) (nanos_of c.args.now) (call.Close c.args.session) (of_done c.close.result)) x) (sym (g.met.W.Holds.part_with c.args.whole.now c.close.new.self)) (rw c.part_mut.ensures.value at c.close.ensures)

pub returns-clause-keeps : goal.returns-clause-keeps
returns-clause-keeps g c = λ me. g.met.W.Holds.keeps_with me c.args.whole.now c.close.new.self (called_then me (g.W.Holds.part c.args.whole.now) c.close.new.self (nanos_of c.args.now) (call.Close c.args.session) (of_done c.close.result) (rw c.part_mut.ensures.value at c.close.ensures))

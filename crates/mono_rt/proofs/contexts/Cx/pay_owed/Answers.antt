use Rattle.std.proofs.Common.{refl, ap}
use Rattle.mono_rt.specs.Refinement.{hosting_of}
use Rattle.mono_rt.proofs.PaymentLemmas.{paying_itself, paying_on, paid_all}
use Rattle.mono_rt.proofs.contexts.Cx.pay_owed.Goals as goal

pub loop-task-init : goal.loop-task-init
loop-task-init g c = paying_itself g.O.Outcome.output_number g.W.SharedState g.met.W.SharedState.leads_itself _

pub loop-task-preserved : goal.loop-task-preserved
loop-task-preserved g c =
    paying_on g.O.Outcome.output_number g.W.SharedState g.met.W.SharedState.leads_on c.args.self.now c.loop-task.self _ c.in-Some.task c.wake.result c.loop-task.invariant
    c.in-Some.ensures.hands c.in-Some.ensures.leads (c.wake.ensures.leads hosting_of) (ap (λ p. p.acts) c.wake.ensures.kept) c.wake.ensures.tasks refl refl refl refl

pub returns : goal.returns
returns g c =
    paid_all g.O.Outcome.output_number g.W.SharedState c.args.self.now c.loop-task.self _ c.loop-task.invariant c.in_default.ensures.hands.0
    (ap (λ w. record c.loop-task.self { shared = w }) c.in_default.ensures.hands.1)

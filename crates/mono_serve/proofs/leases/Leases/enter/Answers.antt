use Rattle.std.proofs.Common.{Ok, refl, subst}
use Rattle.mono_session.specs.Answers.{of_first}
use Rattle.mono_session.specs.Calls as call
use Rattle.mono_time.specs.Instants.{nanos_of}
use Rattle.mono_serve.specs.LeaseCalls.{MovesTo, CallsAt}
use Rattle.mono_serve.proofs.LeaseLemmas.{lacks_at, acquires}
use Rattle.mono_serve.proofs.leases.Leases.enter.Goals as goal

pub returns-in-Err : goal.returns-in-Err
returns-in-Err c = (lacks_at _ _ (nanos_of c.args.now) (call.Acquire c.args.session c.args.key) _ c.in-Err.ensures refl, (refl, refl, refl), (refl, refl, refl))

pub returns-in-Err-acquire : goal.returns-in-Err-acquire
returns-in-Err-acquire c = (acquires _ _ _ (nanos_of c.args.now) c.args.session c.args.key _ c.in-Ok.ensures c.in-Err-acquire.ensures.step, (refl, refl, refl), (refl, refl, refl))

pub returns-in-Ok-true : goal.returns-in-Ok-true
returns-in-Ok-true c = (
  subst (λ b. MovesTo c.args.self.now.sessions (CallsAt (nanos_of c.args.now) (call.Acquire c.args.session c.args.key) (of_first (Ok b))) c.acquire.new.self) c.in-Ok-true.field-0-test
      (acquires _ _ _ (nanos_of c.args.now) c.args.session c.args.key (Ok c.in-Ok-true.field-0) c.in-Ok.ensures c.in-Ok-true.ensures.step),
  (refl, refl, refl),
  (refl, refl, refl),
)

pub returns-in-Ok-false : goal.returns-in-Ok-false
returns-in-Ok-false c = (
  subst (λ b. MovesTo c.args.self.now.sessions (CallsAt (nanos_of c.args.now) (call.Acquire c.args.session c.args.key) (of_first (Ok b))) c.acquire.new.self) c.in-Ok-false.field-0-test
      (acquires _ _ _ (nanos_of c.args.now) c.args.session c.args.key (Ok c.in-Ok-false.field-0) c.in-Ok.ensures c.in-Ok-false.ensures.step),
  (refl, c.push_back_reserved.ensures.items, c.requires.next, refl),
  (refl, refl, refl),
)

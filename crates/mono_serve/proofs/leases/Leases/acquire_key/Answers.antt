use Rattle.std.proofs.Common.{refl, sym, subst}
use Rattle.mono_session.specs.Calls as call
use Rattle.mono_session.specs.Refinement.{StandsFor}
use Rattle.mono_time.specs.Instants.{nanos_of}
use Rattle.mono_serve.proofs.LeaseLemmas.{lacks_at, claims_on}
use Rattle.mono_serve.proofs.leases.Leases.acquire_key.Goals as goal

pub returns-in_default : goal.returns-in_default
returns-in_default c = (lacks_at _ _ (nanos_of c.args.now) (call.Acquire c.args.session c.args.key) _ (λ k stands. (k, stands, refl)) refl, (refl, refl, refl), (refl, refl, refl))

pub returns-in-Err : goal.returns-in-Err
returns-in-Err c = (lacks_at _ _ (nanos_of c.args.now) (call.Acquire c.args.session c.args.key) _ (λ k stands. (k, subst (λ x. StandsFor x k) (sym c.reserve.ensures.sessions) stands, refl)) refl, c.reserve.ensures.line, c.reserve.ensures.rest)

pub returns-in-Ok : goal.returns-in-Ok
returns-in-Ok c = claims_on c.args.self.now c.reserve.new.self c.enter.new.self (nanos_of c.args.now) c.args.session c.args.key c.args.task c.enter.result c.reserve.ensures.sessions c.reserve.ensures.line c.reserve.ensures.rest c.enter.ensures

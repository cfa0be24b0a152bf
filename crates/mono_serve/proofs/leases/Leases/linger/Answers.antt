use Rattle.std.proofs.Common.{refl, sym, subst, ◌∙◌}
use Rattle.mono_session.specs.Refinement.{StandsFor}
use Rattle.mono_serve.proofs.LeaseLemmas.{leaves_on, rest_on}
use Rattle.mono_serve.proofs.leases.Leases.linger.Goals as goal

pub returns-then-is_there : goal.returns-then-is_there
returns-then-is_there c = (λ k stands. (k, stands, refl), rw (sym c.is_there.ensures ∙ c.if-is_there.true) (refl, (refl, refl, refl)), (refl, refl, refl))

pub returns-in-Ok : goal.returns-in-Ok
returns-in-Ok c = (λ k stands. (k, subst (λ x. StandsFor x k) (sym c.join.ensures.sessions) stands, refl), rw (sym c.is_there.ensures ∙ c.if-is_there.false) c.in-Ok.ensures.line, c.join.ensures.rest)

pub returns-in-Err : goal.returns-in-Err
returns-in-Err c = (
  λ k stands. c.drop_out.ensures.0 k (subst (λ x. StandsFor x k) (sym c.join.ensures.sessions) stands),
  leaves_on c.args.self.now c.join.new.self c.drop_out.new.self c.args.ticket c.args.task c.in-Err.ensures.line c.drop_out.ensures.1,
  rest_on c.args.self.now c.join.new.self c.drop_out.new.self c.join.ensures.rest c.drop_out.ensures.2,
)

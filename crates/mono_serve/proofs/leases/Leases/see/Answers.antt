use Rattle.std.proofs.Common.{refl, sym, subst, ◌∙◌}
use Rattle.mono_session.specs.Refinement.{StandsFor}
use Rattle.mono_serve.proofs.LeaseLemmas.{sees_by}
use Rattle.mono_serve.proofs.leases.Leases.see.Goals as goal

pub returns-then-still_waits : goal.returns-then-still_waits
returns-then-still_waits c = (
  sees_by _ _ c.args.self.now.waiters.items c.args.ticket c.args.session c.args.key c.linger.result (λ k stands. sym (c.still_waits.ensures k stands) ∙ c.if-still_waits.true) c.linger.ensures.0,
  c.linger.ensures.1,
  c.linger.ensures.2,
)

pub returns-then-is_holder : goal.returns-then-is_holder
returns-then-is_holder c = (
  λ k stands.
      let later = subst (λ x. StandsFor x k) (sym c.leave.ensures.sessions) stands in
      (k, later, ((sym (c.still_waits.ensures k stands) ∙ c.if-still_waits.false, sym (c.is_holder.ensures k later) ∙ c.if-is_holder.true), refl)),
  (c.leave.ensures.waiters, c.leave.ensures.next, c.leave.ensures.due),
  c.leave.ensures.rest,
)

pub returns-else-is_holder : goal.returns-else-is_holder
returns-else-is_holder c = (
  λ k stands.
      let later = subst (λ x. StandsFor x k) (sym c.leave.ensures.sessions) stands in
      (k, later, ((sym (c.still_waits.ensures k stands) ∙ c.if-still_waits.false, sym (c.is_holder.ensures k later) ∙ c.if-is_holder.false), refl)),
  (c.leave.ensures.waiters, c.leave.ensures.next, c.leave.ensures.due),
  c.leave.ensures.rest,
)

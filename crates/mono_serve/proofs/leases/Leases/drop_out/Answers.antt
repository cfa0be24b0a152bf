use Rattle.std.proofs.Common.{refl, sym, subst}
use Rattle.mono_session.specs.Keeper.{released}
use Rattle.mono_session.specs.Refinement.{StandsFor}
use Rattle.mono_serve.proofs.leases.Leases.drop_out.Goals as goal

pub returns : goal.returns
returns c = (
  λ k stands. (released k c.args.session c.args.key, (c.release.ensures.step k (subst (λ x. StandsFor x k) (sym c.leave.ensures.sessions) stands)).1, refl),
  (c.leave.ensures.waiters, c.leave.ensures.next, c.leave.ensures.due),
  c.leave.ensures.rest,
)

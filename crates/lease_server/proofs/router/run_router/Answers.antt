use Rattle.std.proofs.Common.{sym, subst}
use Rattle.lease_server.specs.Routers.{LeadsOn, itself}
use Rattle.lease_server.proofs.router.run_router.Goals as goal

pub returns-in-Err : goal.returns-in-Err
returns-in-Err g c = subst (λ x. LeadsOn g.S.Source.left g.S.Source.faults c.args.intake x) (sym c.in-Err.ensures.back) (itself g.S.Source.left g.S.Source.faults c.args.intake)

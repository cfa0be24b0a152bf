use Rattle.lease_server.proofs.IntakeLemmas.{polls_after}
use Rattle.lease_server.proofs.router.RouterTaskFuture.poll.Goals as goal

pub returns-clause-polled : goal.returns-clause-polled
returns-clause-polled g c = polls_after g.S.Source.left _ _ _ _ (g.met.C.SharedContext.led _ _ c.remote_waker.ensures.reached).0 c.route_shared.ensures.polled

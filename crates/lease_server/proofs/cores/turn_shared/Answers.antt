use Rattle.std.proofs.Common.{IfOk, sym, subst}
use Rattle.lease_server.specs.Stations.{Turns}
use Rattle.lease_server.proofs.cores.turn_shared.Goals as goal

pub returns-clause-turned : goal.returns-clause-turned
returns-clause-turned g c =
    let cx = c.args.cx.now in
    let was = g.C.SharedContext.shared cx in
    let left = c.turn.new.self in
    subst (λ s. IfOk c.turn.result (λ more. Turns (g.C.Context.nanos cx) was s)) (sym (g.met.C.SharedContext.shared_with cx left))
    (subst (λ s. IfOk c.turn.result (λ more. Turns (g.C.Context.nanos cx) s left)) c.shared_mut.ensures.value
    (subst (λ n. IfOk c.turn.result (λ more. Turns n c.shared_mut.result.now left)) c.now-now.ensures c.turn.ensures.turned))

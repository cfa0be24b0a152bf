use Rattle.std.proofs.Common.{sym, subst}
use Rattle.lease_core.specs.Cores.{new_core}
use Rattle.lease_core.specs.Refinement.{Refines}
use Rattle.lease_server.proofs.StationLemmas.{has_ended, unstarted}
use Rattle.lease_server.proofs.core_threads.core_thread.Goals as goal

pub returns-in-Ok : goal.returns-in-Ok
returns-in-Ok g c =
    let sizes = c.args.settings.sizes in
    let desk = c.new-in-Ok in
    let first = c.new-first in
    has_ended c.args.number sizes c.args.requests c.args.texts desk.result first.result c.run_core-status.result.1 c.end_station.result (subst (λ core. Refines core (new_core sizes)) (sym desk.ensures.core) c.in-Ok.ensures) desk.ensures.number desk.ensures.events desk.ensures.replies
    first.ensures.desk first.ensures.requests first.ensures.texts.0 first.ensures.texts.1 first.ensures.stage c.run_core-status.ensures.led c.run_core-status.ensures.ran c.end_station.ensures

pub returns-in-Err : goal.returns-in-Err
returns-in-Err g c = unstarted c.args.number c.args.settings.sizes c.args.requests c.args.texts c.end_core.result c.end_core.ensures.0 c.end_core.ensures.1 c.end_core.ensures.2

use Rattle.std.proofs.Common.{refl, sym, subst}
use Rattle.lease_core.specs.Cores.{new_core}
use Rattle.lease_server.specs.Stations.{Leads, leads_itself}
use Rattle.lease_server.proofs.ServedLemmas.{has_run}
use Rattle.lease_server.proofs.core_threads.run_core.Goals as goal

pub returns-in-Ok-clause-led : goal.returns-in-Ok-clause-led
returns-in-Ok-clause-led g c = subst (λ s. Leads c.args.station s) (sym c.into_shared.ensures) c.in-Ok.ensures.led

pub returns-in-Ok-clause-ran : goal.returns-in-Ok-clause-ran
returns-in-Ok-clause-ran g c = λ new.
    let first = c.args.station in
    let led : Leads first c.into_shared.result = subst (λ s. Leads first s) (sym c.into_shared.ensures) c.in-Ok.ensures.led in
    has_run first.desk.core first.desk.number (new_core c.args.settings.now.sizes) first.desk c.into_shared.result.desk new.0 refl refl new.1 new.2 led.desk

pub returns-in-Err-clause-led : goal.returns-in-Err-clause-led
returns-in-Err-clause-led g c = subst (λ s. Leads c.args.station s) (sym c.in-Err.ensures.back) (leads_itself c.args.station)

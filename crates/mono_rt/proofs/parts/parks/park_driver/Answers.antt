use Rattle.std.proofs.Common.{◌∙◌, ap, sym}
use Rattle.mono_rt.specs.DriverReadings.{parked_time}
use Rattle.mono_rt.proofs.FaultLemmas.{rises_by}
use Rattle.mono_rt.proofs.DriverLemmas.{parked_is, parked_still, sure_by}
use Rattle.mono_rt.proofs.parts.parks.park_driver.Goals as goal

pub returns-in-Some-clause-parked : goal.returns-in-Some-clause-parked
returns-in-Some-clause-parked g c =
    let is = c.park_timeout.ensures in
    record { readings = is.readings; time = is.time ∙ parked_is c.park_timeout.result (g.D.Clock.time c.args.driver.now) c.in-Some.ticks _ c.is_err.result c.is_err.ensures.value c.from_millis.ensures ∙ ap (λ w. parked_time c.is_err.result w (g.D.Clock.time c.args.driver.now)) (sym c.in-Some.is); parks = is.parks; submits = is.submits; faults = rises_by c.park_timeout.result c.is_err.result _ _ c.is_err.ensures.value is.faults; sure = sure_by _ c.park_timeout.result c.is_err.result _ _ _ c.is_err.ensures.value is.sure }

pub returns-in-None-clause-parked : goal.returns-in-None-clause-parked
returns-in-None-clause-parked g c =
    let is = c.park.ensures in
    record { readings = is.readings; time = is.time ∙ parked_still (g.D.Clock.time c.args.driver.now) c.is_err-in-None.result ∙ ap (λ w. parked_time c.is_err-in-None.result w (g.D.Clock.time c.args.driver.now)) (sym c.in-None.is); parks = is.parks; submits = is.submits; faults = rises_by c.park.result c.is_err-in-None.result _ _ c.is_err-in-None.ensures.value is.faults; sure = sure_by _ c.park.result c.is_err-in-None.result _ _ _ c.is_err-in-None.ensures.value is.sure }

pub returns-in-Some-clause-faults : goal.returns-in-Some-clause-faults
returns-in-Some-clause-faults g c = rises_by c.park_timeout.result c.is_err.result _ _ c.is_err.ensures.value c.park_timeout.ensures.faults

pub returns-in-None-clause-faults : goal.returns-in-None-clause-faults
returns-in-None-clause-faults g c = rises_by c.park.result c.is_err-in-None.result _ _ c.is_err-in-None.ensures.value c.park.ensures.faults

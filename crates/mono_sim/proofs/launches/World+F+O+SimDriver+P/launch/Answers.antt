use Rattle.mono_sim.proofs.LaunchLemmas.{launched, ok_holds}
use Rattle.mono_sim.proofs.launches.World+F+O+SimDriver+P.launch.Goals as goal

pub returns-clause-launched : goal.returns-clause-launched
returns-clause-launched g c =
    launched c.args.future c.in_ok-seat.seat c.in_ok-runtime.runtime c.in_ok-runtime.main c.args.self.now c.driver.new.self c.add.new.self c.driver.ensures.plan c.driver.ensures.same c.in_ok-runtime.ensures.started
    (ok_holds _ c.add.result c.in_ok-number.ensures.variant c.add.ensures.added)

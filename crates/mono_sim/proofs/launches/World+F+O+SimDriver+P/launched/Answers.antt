use Rattle.std.proofs.Common.{◌≡◌, ◌∷◌, rules}
use Rattle.std.specs.Vec.Iter.{into_iter_items}
use Rattle.mono_sim.proofs.LaunchLemmas.{counted}
use Rattle.mono_sim.proofs.launches.World+F+O+SimDriver+P.launched.Goals as goal

pub loop-future-preserved : goal.loop-future-preserved
loop-future-preserved g c =
    let rest : into_iter_items c.loop-future.future-iterator ≡ c.in-Some.future ∷ into_iter_items c.next.new.self = search rules in
    (c.launch.ensures.sound c.loop-future.invariant.0, counted c.in-Some.future c.loop-future.world c.launch.new.self _ _ _ c.in_ok-launch.ensures.launched rest c.loop-future.invariant.1)

use Rattle.std.proofs.Common.{refl}
use Rattle.mono_wheel.specs.Hops.{HasNoTie}
use Rattle.mono_wheel.proofs.LeapLemmas.{up-to}
use Rattle.mono_wheel.proofs.leap.has_ties.Goals as goal

pub loop-place-preserved : goal.loop-place-preserved
loop-place-preserved c = up-to c.loop-place.place (HasNoTie c.args.goal c.args.near.now c.args.links.now.table) c.loop-place.invariant (c.if-is_tie.ensures refl)

use Rattle.std.proofs.Common.{◌≢◌, get_or, refl}
use Rattle.mono_wheel.specs.Lists.{entry_at}
use Rattle.mono_wheel.proofs.LeapLemmas.{up-to}
use Rattle.mono_wheel.proofs.leap.is_tied.Goals as goal

pub loop-other-preserved : goal.loop-other-preserved
loop-other-preserved c =
    up-to c.loop-other.other (λ o. get_or c.args.near.now o 0 ≢ get_or c.args.near.now c.args.place 0 → (entry_at c.args.links.now.table (get_or c.args.near.now o 0)).tick ≢ c.args.tick)
    c.loop-other.invariant (c.if-is_other.ensures refl)

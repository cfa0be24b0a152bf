use Rattle.std.proofs.Common.{arith}
use Rattle.mono_wheel.specs.Falls.{fall_of}
use Rattle.mono_wheel.proofs.StepsLemmas.{sum-more}
use Rattle.mono_wheel.proofs.steps.Steps.spare.Goals as goal

pub returns : goal.returns
returns g c =
    let more = sum-more c.self.inside.spared.entries c.told-self-inside.result.entries (fall_of c.args.numbers.now.entries) c.told-self-inside.ensures in
    let seen = c.self.view_is in
    omega (arith, more, seen)

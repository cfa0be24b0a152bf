use Rattle.std.proofs.Common.{arith}
use Rattle.mono_wheel.specs.Model.{timed_at}
use Rattle.mono_wheel.proofs.PollLemmas.{advanced-twice, tick-after}
use Rattle.mono_wheel.proofs.wheel.Wheel.move_on.Goals as goal

pub returns-clause-advanced : goal.returns-clause-advanced
returns-clause-advanced g c = advanced-twice c.args.self.now c.leap.new.self c.advance.new.self c.leap.ensures.advanced c.advance.ensures.advanced

pub returns-clause-passed : goal.returns-clause-passed
returns-clause-passed g c none =
    let passed = c.advance.ensures.passed none in (
      passed.0,
      λ key timed is.
          let leapt = tick-after c.args.self.now.elapsed c.leap.new.self.elapsed (timed_at c.args.self.now key) (timed_at c.leap.new.self key) timed (c.leap.ensures.advanced.ticks key) is in
          let later = passed.1 key leapt.0 leapt.1 in
          let same = leapt.2 in
          omega (arith, later, same),
    )

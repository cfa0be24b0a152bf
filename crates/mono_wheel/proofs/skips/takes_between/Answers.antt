use Rattle.std.proofs.Common.{arith, ◌≡◌}
use Rattle.mono_wheel.specs.Start.{start, top_level}
use Rattle.mono_wheel.proofs.StartLemmas.{start-above}
use Rattle.mono_wheel.proofs.SkipLemmas.{takes-next, takes-before}
use Rattle.mono_wheel.proofs.skips.takes_between.Goals as goal

pub returns-then-goal-next : goal.returns-then-goal-next
returns-then-goal-next c =
    let low = c.loop.invariant.low in
    let ne = c.if-at-goal.false in
    let within = c.requires.within in
    let next = c.slot_start-next.ensures in
    let over = c.if-goal-next.true in
    let same = takes-before c.loop.at c.args.goal c.args.tick low within (omega (arith, next, over)) (omega (arith, low, ne, within)) in
    let counted = c.loop.invariant.counted in
    omega (arith, counted, same)

pub loop-preserved : goal.loop-preserved
loop-preserved c =
    let passed = c.loop.invariant.passed in
    let low = c.loop.invariant.low in
    let few = c.loop.invariant.few in
    let ne = c.if-at-goal.false in
    let within = c.requires.within in
    let next : c.slot_start-next.result ≡ start top_level c.loop.at c.args.tick = c.slot_start-next.ensures in
    let over = c.if-goal-next.false in
    let up = start-above top_level c.loop.at c.args.tick in
    let fall = takes-next c.loop.at c.args.goal c.args.tick (omega (arith, low, ne)) within (omega (arith, next, over)) in
    let counted = c.loop.invariant.counted in
    record {
      passed = omega (arith, passed, up, next);
      low = omega (arith, over);
      few = omega (arith, few, up, next);
      counted = rw next (omega (arith, counted, fall));
    }

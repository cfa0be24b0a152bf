use Rattle.std.proofs.Common.{arith, refl, sym, subst}
use Rattle.mono_wheel.specs.Calls.{Stopped}
use Rattle.mono_wheel.proofs.RunLemmas.{all-then, stopped-at}
use Rattle.mono_wheel.proofs.laws.run_calls.Goals as goal

pub returns-then-not-run_call-clause-stopped : goal.returns-then-not-run_call-clause-stopped
returns-then-not-run_call-clause-stopped g c = λ _.
    let kept = c.if-not-run_call.ensures.refused refl in
    subst (λ w. Stopped c.args.wheel.now w c.args.calls.now.items c.args.steps.now c.run_call.new.steps) (sym kept.1)
    (subst (λ s. Stopped c.args.wheel.now c.loop-at.wheel c.args.calls.now.items c.args.steps.now s) (sym kept.2)
    (stopped-at c.args.wheel.now c.loop-at.wheel c.args.calls.now.items c.loop-at.at c.args.steps.now c.loop-at.steps c.index.result.now (omega (arith, c.loop-at-test.true, c.len.ensures)) c.index.ensures c.loop-at.invariant.1 kept.0))

pub loop-at-preserved : goal.loop-at-preserved
loop-at-preserved g c =
    let made = c.if-not-run_call.ensures.made refl in (
      omega (arith, c.loop-at-test.true, c.len.ensures),
      all-then c.args.wheel.now c.loop-at.wheel c.run_call.new.wheel c.args.calls.now.items c.loop-at.at c.args.steps.now c.loop-at.steps c.run_call.new.steps c.index.result.now (omega (arith, c.loop-at-test.true, c.len.ensures)) c.index.ensures
          c.loop-at.invariant.1 made.0 made.1 made.2 made.3 made.4,
    )

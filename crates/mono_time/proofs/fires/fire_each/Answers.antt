use Rattle.std.proofs.Common.{arith, ap, sym, subst}
use Rattle.mono_time.specs.Instants.{nanos_of}
use Rattle.mono_time.proofs.ClockStepLemmas.{so-far, one-more, all-fired}
use Rattle.mono_time.specs.Sleeps.{IsNoneArmedUpTo}
use Rattle.mono_time.proofs.ClockMoveLemmas.{Passed, none-passed, passed-some, passed-none, all-passed}
use Rattle.mono_time.proofs.fires.fire_each.Goals as goal

pub loop-one-init : goal.loop-one-init
loop-one-init g c = (
  so-far c.args.timers.now (nanos_of c.args.now) c.args.fired.now.items,
  c.requires.room,
  none-passed c.args.timers.now,
)

pub loop-one-preserved : goal.loop-one-preserved
loop-one-preserved g c = (
  one-more c.args.timers.now c.loop-one.timers c.clock.new.self (nanos_of c.args.now) c.args.fired.now.items c.loop-one.fired.items c.loop-one.invariant.0
      c.in-Some.one c.push_reserved.new.self.items c.push_reserved.ensures.items c.in-Some.ensures.some.0 c.in-Some.ensures.some.1 c.in-Some.ensures.stands,
  omega (arith, c.loop-one.invariant.1, c.push_reserved.ensures.len, c.push_reserved.ensures.capacity, c.in-Some.ensures.fewer),
  passed-some c.args.timers.now c.loop-one.timers c.clock.new.self c.loop-one.invariant.2 c.clock.ensures.later c.in-Some.one.0 c.in-Some.one.1 c.in-Some.ensures.reached
      (ap (λ t. t.table) c.in-Some.ensures.some.1) c.in-Some.ensures.gone c.clock.ensures.registered,
)

pub returns-clause-fires : goal.returns-clause-fires
returns-clause-fires g c =
    all-fired c.args.timers.now c.loop-one.timers c.clock.new.self (nanos_of c.args.now) c.args.fired.now.items c.loop-one.fired.items c.loop-one.invariant.0
    c.in_default.ensures.none.0 c.in_default.ensures.none.1 c.in_default.ensures.stands

pub returns-clause-registered : goal.returns-clause-registered
returns-clause-registered g c =
    let passed : Passed c.args.timers.now c.clock.new.self = passed-none c.args.timers.now c.loop-one.timers c.clock.new.self c.loop-one.invariant.2 c.clock.ensures.later (ap (λ t. t.table) c.in_default.ensures.none.1) c.clock.ensures.registered in
    all-passed c.args.timers.now c.clock.new.self passed (subst IsNoneArmedUpTo (sym c.in_default.ensures.none.1) c.in_default.ensures.none.0) c.in_default.ensures.elapsed

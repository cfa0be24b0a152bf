use Rattle.std.proofs.Common.{◌≡◌, subst, ap, arith, rules}
use Rattle.std.specs.Prelude.{max}
use Rattle.mono_model.specs.Ticks.{down}
use Rattle.mono_time.specs.Instants.{nanos_of}
use Rattle.mono_time.specs.Sleeps.{SleepTable}
use Rattle.mono_time.specs.Timers.{sleeps_of}
use Rattle.mono_limit.proofs.WaitEndLemmas.{EndsFirst, NoneEnds, waiting_count, fewer_wait, waiting-le-live}
use Rattle.mono_limit.proofs.ClockStepLemmas.{ends_first, ends_none, holds_on, none_yet, one_more, all_listed}
use Rattle.mono_limit.proofs.retries.Retries.clock.Goals as goal

pub loop-retry-init : goal.loop-retry-init
loop-retry-init g c =
    let t = c.args.self.now in
    record {
      holds = t.holds;
      room = omega (arith, c.requires.room, waiting-le-live t.rows.table);
      steps = search rules;
      greatest = search rules;
      most = search rules;
      listed = none_yet t.rows.table (max (sleeps_of t.timers).greatest (down (nanos_of c.args.now))) c.args.due.now.items;
    }

pub invariant_of-self : goal.invariant_of-self
invariant_of-self g c =
    let t = c.loop-retry.self in
    let some = c.in-Some.ensures.some in
    record { holds = holds_on t.rows.table (sleeps_of t.timers) (sleeps_of c.clock.new.self) t.live (nanos_of c.args.now) c.loop-retry.invariant.holds c.in-Some.retry c.in-Some.field-0-1 some.0 some.1 c.end_wait.new.rows.table c.end_wait.ensures }

pub push_reserved-requires : goal.push_reserved-requires
push_reserved-requires g c =
    let t = c.loop-retry.self in
    let first = ends_first t.rows.table (sleeps_of t.timers) t.live (nanos_of c.args.now) c.loop-retry.invariant.holds c.in-Some.retry c.in-Some.field-0-1 c.in-Some.ensures.some.0 in
    omega (arith, fewer_wait t.rows.table c.in-Some.retry first.tick first.waits, c.loop-retry.invariant.room)

pub loop-retry-preserved : goal.loop-retry-preserved
loop-retry-preserved g c =
    let t = c.loop-retry.self in
    let so_far = c.loop-retry.invariant in
    let n = nanos_of c.args.now in
    let r = c.in-Some.retry in
    let some = c.in-Some.ensures.some in
    let first = ends_first t.rows.table (sleeps_of t.timers) t.live n so_far.holds r c.in-Some.field-0-1 some.0 in
    let there = subst (λ x. EndsFirst t.rows.table x r) so_far.greatest first in
    let greatest : (sleeps_of c.clock.new.self).greatest ≡ max (sleeps_of t.timers).greatest (down n) = ap (λ (x : SleepTable). x.greatest) some.1 in
    record {
      holds = holds_on t.rows.table (sleeps_of t.timers) (sleeps_of c.clock.new.self) t.live n so_far.holds r c.in-Some.field-0-1 some.0 some.1 c.end_wait.new.rows.table c.end_wait.ensures;
      room = omega (arith, fewer_wait t.rows.table r first.tick first.waits, ap waiting_count c.end_wait.ensures, so_far.room, c.push_reserved.ensures.len, c.push_reserved.ensures.capacity);
      steps = omega (arith, c.in-Some.ensures.steps, so_far.steps);
      greatest = omega (arith, greatest, so_far.greatest);
      most = so_far.most;
      listed = one_more c.args.self.now.rows.table t.rows.table c.end_wait.new.rows.table (max (sleeps_of c.args.self.now.timers).greatest (down n)) r c.args.due.now.items c.loop-retry.due.items c.push_reserved.new.self.items so_far.listed there c.end_wait.ensures c.push_reserved.ensures.items;
    }

pub returns-clause-due : goal.returns-clause-due
returns-clause-due g c =
    let t = c.loop-retry.self in
    let n = nanos_of c.args.now in
    let none = ends_none t.rows.table (sleeps_of t.timers) t.live n c.loop-retry.invariant.holds c.in_default.ensures.none.0 in
    all_listed c.args.self.now.rows.table t.rows.table (max (sleeps_of c.args.self.now.timers).greatest (down n)) c.args.due.now.items c.loop-retry.due.items c.loop-retry.invariant.listed (subst (NoneEnds t.rows.table) c.loop-retry.invariant.greatest none)

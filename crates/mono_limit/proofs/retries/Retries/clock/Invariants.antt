use Rattle.std.proofs.Common.{◌≡◌, ◌≤◌, ◌+◌, vec_len, vec_capacity}
use Rattle.std.specs.Prelude.{max}
use Rattle.mono_model.specs.Ticks.{down}
use Rattle.mono_time.specs.Instants.{nanos_of}
use Rattle.mono_time.specs.Sleeps.{armed_count}
use Rattle.mono_time.specs.Timers.{sleeps_of, credit_left}
use Rattle.mono_limit.specs.RetryTable.{Holds}
use Rattle.mono_limit.proofs.WaitEndLemmas.{waiting_count}
use Rattle.mono_limit.proofs.ClockStepLemmas.{IsListed}
use Rattle.mono_limit.proofs.retries.Retries.clock.Given as goal

-- The retries that are due from here on follow those that are listed.
abbrev pub invariant-loop-retry : goal.invariant-loop-retry
invariant-loop-retry g l = record {
  holds : Holds l.self.rows.table (sleeps_of l.self.timers) l.self.live;
  room : vec_len l.due + waiting_count l.self.rows.table ≤ vec_capacity l.due;
  steps : l.steps + credit_left l.self.timers ≡ l.fn.steps + credit_left l.fn.self.timers;
  greatest : max (sleeps_of l.self.timers).greatest (down (nanos_of l.now)) ≡ max (sleeps_of l.fn.self.timers).greatest (down (nanos_of l.now));
  most : l.self.most ≡ l.fn.self.most;
  listed : IsListed l.fn.self.rows.table l.self.rows.table (max (sleeps_of l.fn.self.timers).greatest (down (nanos_of l.now))) l.fn.due.items l.due.items;
}

abbrev pub decreases-loop-retry : goal.decreases-loop-retry
decreases-loop-retry g l = armed_count (sleeps_of l.self.timers)

use Rattle.std.proofs.Common.{◌≡◌, ◌≤◌, ◌+◌, ◌++◌, ℕ, List}
use Rattle.std.specs.Prelude.{vec_len, vec_capacity}
use Rattle.mono_time.specs.Instants.{nanos_of}
use Rattle.mono_time.specs.Sleeps.{armed_count}
use Rattle.mono_time.specs.Timers.{sleeps_of}
use Rattle.mono_session.specs.Holders.{leaves}
use Rattle.mono_session.specs.Keeper.{Keeper, with_greatest}
use Rattle.mono_session.specs.Steps.{greatest_at, without_all}
use Rattle.mono_session.specs.Refinement.{Matches, StandsFor, open_count, entries_len, steps_left}
use Rattle.mono_session.proofs.CloseListLemmas.{CloseInTurn}
use Rattle.mono_session.proofs.keeper.Sessions.clock_leaving.Given as goal

-- There is room for the open sessions and the entries. The sessions closed in turn from here on follow those that were
-- closed, which have left their queues.
abbrev pub invariant-loop-session : goal.invariant-loop-session
invariant-loop-session g l = record {
  steps : l.steps + steps_left l.self ≤ l.fn.steps + steps_left l.fn.self;
  room : vec_len l.closed + open_count l.self ≤ vec_capacity l.closed;
  left_room : vec_len l.left + entries_len l.self ≤ vec_capacity l.left;
  capacity : vec_capacity l.left ≡ vec_capacity l.fn.left;
  turns : (k : Keeper) → StandsFor l.fn.self k → (due : List ℕ) × (before : Keeper) × Matches l.self before
      × (with_greatest before (greatest_at before (nanos_of l.now)) ≡ without_all (with_greatest k (greatest_at k (nanos_of l.now))) due)
      × (l.closed.items ≡ l.fn.closed.items ++ due)
      × (l.left.items ≡ l.fn.left.items ++ leaves (with_greatest k (greatest_at k (nanos_of l.now))) due)
      × ((more : List ℕ) → CloseInTurn (without_all (with_greatest k (greatest_at k (nanos_of l.now))) due).sessions (greatest_at k (nanos_of l.now)) more
      → CloseInTurn k.sessions (greatest_at k (nanos_of l.now)) (due ++ more));
}

abbrev pub decreases-loop-session : goal.decreases-loop-session
decreases-loop-session g l = armed_count (sleeps_of l.self.timers)

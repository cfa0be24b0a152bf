-- The refinement of a core's state by its services.
use Rattle.std.specs.Prelude.{◌≡◌, ℕ, not, ◌==◌, ◌++◌, filter, None}
use Rattle.mono_session.specs.Keeper.{Keeper, with_entries}
use Rattle.mono_session.specs.Entries.{keys_in}
use Rattle.mono_session.specs.Refinement.{StandsFor}
use Rattle.mono_limit.specs.Limits.{limits_of}
use Rattle.mono_actor.specs.Callers.{actors_of}
use Rattle.lease_core.specs.declared.cores.Core.{Core}
use Rattle.lease_core.specs.declared.requests.Call.{Call}
use Rattle.lease_core.specs.declared.requests.Outcome.TheVariants as outcome
use Rattle.lease_core.specs.Waits.{left_in, ended_by, still_by}
use Rattle.lease_core.specs.Waiting.{waits_of}
use Rattle.lease_core.specs.Cores.{CoreState}
use Rattle.lease_core.specs.Steps.{Handles, Advances, Finishes}

-- The services refine those of the state, the list of waits is the same, and the tick is that of the leases. No turn runs.
pub record Refines (core : Core) (state : CoreState) : Type 0 where
  pub leases : StandsFor core.sessions state.keeper
  pub limits : limits_of core.limiter ≡ state.limits
  pub actors : actors_of core.actors ≡ state.actors
  pub waiting : waits_of core.waiting ≡ state.waiting
  pub tick : core.tick ≡ state.keeper.greatest
  pub rests : (actors_of core.actors).turn ≡ None

-- The core performed the call of a request: for each state that it refined it replied as the state allows, and refines
-- the state after that.
abbrev pub Performs : Core → ℕ → ℕ → Call → Core → Type 0
Performs old number key call new = (s : CoreState) → Refines old s → (t : CoreState) × Handles s number key call new.replies.items t × Refines new t

-- The same of a clock step to n nanoseconds, and of the end of the input.
abbrev pub Clocks : Core → ℕ → Core → Type 0
Clocks old n new = (s : CoreState) → Refines old s → (t : CoreState) × Advances s n new.replies.items t × Refines new t

abbrev pub Ends : Core → Core → Type 0
Ends old new = (s : CoreState) → Refines old s → (t : CoreState) × Finishes s new.replies.items t × Refines new t

-- The session has left all queues, and is still open.
abbrev pub without_keys : Keeper → ℕ → Keeper
without_keys keeper s = with_entries keeper (filter (λ entry. not (entry.session == s)) keeper.entries)

-- The session left the queues of its keys, and the waits ended, key by key.
pub record LeavesQueues (old : Core) (keeper : Keeper) (s : ℕ) (new : Core) : Type 0 where
  pub leases : StandsFor new.sessions (without_keys keeper s)
  pub replies_are : new.replies.items ≡ old.replies.items ++ ended_by (left_in s outcome.Closed (without_keys keeper s)) old.tick (keys_in keeper.entries s) (waits_of old.waiting)
  pub waiting : waits_of new.waiting ≡ still_by (left_in s outcome.Closed (without_keys keeper s)) (keys_in keeper.entries s) (waits_of old.waiting)

-- The state of one core: its leases, its buckets, its mailboxes, and the acquires that wait.
use Rattle.std.specs.Prelude.{ℕ, List, []}
use Rattle.mono_session.specs.Keeper.{Keeper, no_sessions}
use Rattle.mono_limit.specs.Limiter.{Limits, no_limits}
use Rattle.mono_actor.specs.Actors.{Actors, no_actors}
use Rattle.lease_core.specs.declared.ends.Waiter.{Waiter}
use Rattle.lease_core.specs.declared.requests.Outcome.{Outcome}
use Rattle.lease_core.specs.declared.requests.Reply.{Reply}
use Rattle.lease_core.specs.declared.sizes.Sizes.{Sizes}

pub record CoreState : Type 0 where
  pub keeper : Keeper
  pub limits : Limits
  pub actors : Actors ℕ
  pub waiting : List Waiter

abbrev pub new_core : Sizes → CoreState
new_core sizes = record {
  keeper = no_sessions sizes.sessions sizes.entries;
  limits = no_limits sizes.buckets 0;
  actors = no_actors sizes.actors sizes.messages;
  waiting = [];
}

abbrev pub with_leases : CoreState → Keeper → List Waiter → CoreState
with_leases core keeper waiting = record { keeper = keeper; limits = core.limits; actors = core.actors; waiting = waiting }

abbrev pub with_limits : CoreState → Limits → CoreState
with_limits core limits = record { keeper = core.keeper; limits = limits; actors = core.actors; waiting = core.waiting }

abbrev pub with_actors : CoreState → Actors ℕ → CoreState
with_actors core actors = record { keeper = core.keeper; limits = core.limits; actors = actors; waiting = core.waiting }

-- The reply to a request that is answered as it comes.
abbrev pub at_once : CoreState → ℕ → Outcome → Reply
at_once core number outcome = record { number = number; arrived = core.keeper.greatest; tick = core.keeper.greatest; outcome = outcome }

-- Which machines the parts of a runtime refine.
use Rattle.std.specs.Prelude.{◌≡◌, ℕ, []}
use Rattle.mono_model.specs.Jobs.{Jobs}
use Rattle.mono_time.specs.Sleeps.{IsNoneArmedUpTo}
use Rattle.mono_time.specs.Refinement.{StandsForSleeps}
use Rattle.mono_time.specs.Timers.{sleeps_of, elapsed_tick}
use Rattle.mono_machine.specs.Machine.{Machine, IsValid}
use Rattle.mono_machine.specs.declared.events.Blocking.{Blocking}
use Rattle.mono_blocking.specs.JobSpawns.{Seen, strategy_of}
use Rattle.mono_rt.specs.Numbering.{numbered}
use Rattle.mono_rt.specs.declared.parts.state.Parts.{Parts}

-- The jobs whose handles are kept, and the strategy, as the machine has them.
pub record Hosting : Type 0 where
  pub jobs : Jobs
  pub strategy : Blocking

abbrev pub hosting_of : {P : Type 0} → Seen P → Hosting
hosting_of seen = record { jobs = seen.table.jobs; strategy = strategy_of seen.pool }

-- The parts are those of the machine, with the numbers of outputs in the place of outputs. The list under the lock of
-- the inbox is no part of it: the machine's inbox is empty except during a drain.
pub record Matches {O B : Type 0} (number : O → ℕ) (hosting : B → Hosting) (parts : Parts O B) (m : Machine) : Type 0 where
  pub tasks : numbered number parts.tasks.tasks ≡ m.tasks
  pub sleeps : StandsForSleeps parts.timers m.sleeps
  pub has_gone : elapsed_tick parts.timers ≡ (sleeps_of parts.timers).greatest
  -- no clock step is under way
  pub no_due : IsNoneArmedUpTo (sleeps_of parts.timers)
  pub enabled : (sleeps_of parts.timers).is_enabled ≡ parts.has_timers
  pub inbox : m.inbox ≡ []
  pub jobs : (hosting parts.blocking).jobs ≡ m.jobs
  pub strategy : (hosting parts.blocking).strategy ≡ m.strategy

-- Between two turns: the parts are those of the machine, and the machine is valid.
pub record MatchesValid {O B : Type 0} (number : O → ℕ) (hosting : B → Hosting) (parts : Parts O B) (m : Machine) : Type 0 where
  pub matches : Matches number hosting parts m
  pub valid : IsValid m

-- The result of spawning a job, by the pool and its count of refusals.
use Rattle.std.specs.Prelude.{◌≡◌, ◌≢◌, ℕ, ⊤, true, false, None, Result, Ok, Err}
use Rattle.mono_model.specs.Table.{next_number, is_full}
use Rattle.mono_model.specs.Jobs.{Jobs}
use Rattle.mono_model.specs.Jobs as model
use Rattle.mono_machine.specs.JobCalls.{with_next_job}
use Rattle.mono_machine.specs.declared.events.Blocking.{Blocking}
use Rattle.mono_machine.specs.declared.events.Blocking.TheVariants as blocking
use Rattle.mono_blocking.specs.Counts.{HasRisen}
use Rattle.mono_blocking.specs.declared.strategy.BlockingHandle.{BlockingHandle}
use Rattle.mono_blocking.specs.declared.strategy.BlockingHandle.TheVariants.{Attached, Empty}
use Rattle.mono_blocking.specs.declared.strategy.BlockingStrategy.TheVariants.{Panic, ExecuteLocal}
use Rattle.mono_blocking.specs.JobTable.{Seen as Table}
use Rattle.mono_blocking.specs.declared.jobs.handles.JobHandle.{JobHandle}
use Rattle.mono_blocking.specs.declared.jobs.refusals.SpawnError.{SpawnError}
use Rattle.mono_blocking.specs.declared.jobs.refusals.SpawnError.TheVariants as error

-- The table of jobs, and the pool that runs them or the strategy without one.
pub record Seen (P : Type 0) : Type 0 where
  pub table : Table
  pub pool : BlockingHandle P

-- The strategy: Attached if a pool is attached, and else the strategy that was set.
abbrev pub strategy_of : {P : Type 0} → BlockingHandle P → Blocking
strategy_of (Attached pool) = blocking.Attached
strategy_of (Empty Panic) = blocking.Panic
strategy_of (Empty ExecuteLocal) = blocking.ExecuteLocal

-- How often the pool refused a task.
abbrev pub refusals_of : {P : Type 0} → (P → ℕ) → BlockingHandle P → ℕ
refusals_of refusals (Attached pool) = refusals pool
refusals_of refusals (Empty s) = 0

-- Whether no pool is attached.
abbrev pub IsApart : {P : Type 0} → BlockingHandle P → Type 0
IsApart (Attached pool) = ⊥
IsApart (Empty s) = ⊤

-- Whether the jobs have one more, by the strategy.
abbrev pub Made : Blocking → ℕ → Jobs → Jobs → Type 0
Made blocking.Attached o old new = new ≡ with_next_job old (model.running o None)
Made blocking.ExecuteLocal o old new = new ≡ with_next_job old (model.ended_ok o)
Made blocking.Panic o old new = ⊥

-- The job gets the next number if there is a place for it and a strategy that runs it. Otherwise no job is made, and
-- the same job comes back or the pool counted a refusal. The numbers are those of the pool's refusals before and after.
abbrev pub Spawned : {J : Type 0} → (J → ℕ) → J → Result JobHandle (SpawnError J) → Blocking → ℕ → ℕ → Jobs → Jobs → Type 0
Spawned number job (Ok handle) strategy before now old new = (handle.job ≡ next_number old.table) × (is_full old.table old.limit ≡ false) × Made strategy (number job) old new
Spawned number job (Err (error.Memory back)) strategy before now old new = (back ≡ job) × (is_full old.table old.limit ≡ false) × (strategy ≢ blocking.Panic) × (new ≡ old)
Spawned number job (Err (error.AtCapacity back)) strategy before now old new = (back ≡ job) × (is_full old.table old.limit ≡ true) × (new ≡ old)
Spawned number job (Err (error.NoPool back)) strategy before now old new = (back ≡ job) × (is_full old.table old.limit ≡ false) × (strategy ≡ blocking.Panic) × (new ≡ old)
Spawned number job (Err error.PoolFault) strategy before now old new = (is_full old.table old.limit ≡ false) × (strategy ≡ blocking.Attached) × HasRisen before now × (new ≡ old)

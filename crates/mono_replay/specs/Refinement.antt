-- Which machines an executor refines.
use Rattle.std.specs.Prelude.{ℕ, Option}
use Rattle.mono_time.specs.Timers.{registered_of}
use Rattle.mono_machine.specs.Machine.{Machine, IsValid}
use Rattle.mono_replay.specs.PartRefinement.{Matches}
use Rattle.mono_replay.specs.declared.executor.Exec.{Exec}

-- a valid machine, whose parts are those of the executor
pub record Stands (exec : Exec) (m : Machine) : Type 0 where
  pub matches : Matches exec.parts m
  pub valid : IsValid m

-- the registered tick of a sleep in the executor's wheel, while it is armed
abbrev pub registered_in : Exec → ℕ → Option ℕ
registered_in exec s = registered_of exec.parts.timers s

-- Which futures have answered. Such a future may not be polled.
use Rattle.std.specs.Prelude.{Bool}
use Rattle.mono_serve.specs.declared.keepers.Keeper.{Keeper}
use Rattle.mono_serve.specs.declared.locks.Acquire.{Acquire}
use Rattle.mono_serve.specs.declared.receives.Receive.{Receive}
use Rattle.mono_serve.specs.declared.takes.Take.{Take}
use Rattle.mono_serve.specs.Keepers as keepers
use Rattle.mono_serve.specs.Takes as takes

module _ {W : Type 0} where
  abbrev pub take_spent : Take W → Bool
  take_spent f = takes.is_over f.stage

  abbrev pub acquire_spent : Acquire W → Bool
  acquire_spent f = f.has_answered

  abbrev pub keeper_spent : Keeper W → Bool
  keeper_spent f = keepers.is_over f.phase

abbrev pub receive_spent : {W M : Type 0} → Receive W M → Bool
receive_spent f = f.has_answered

-- What a spawn adds to the record of a turn, and the effect of a spawn outside of a turn on the machine, by its answer.
use Rattle.std.specs.Prelude.{◌≡◌, ℕ, Bool, true, Result, Ok, Err}
use Rattle.mono_machine.specs.Machine.{Machine}
use Rattle.mono_machine.specs.Acts.{act_outcome}
use Rattle.mono_machine.specs.declared.events.Act.TheVariants as act
use Rattle.mono_machine.specs.declared.events.Refusal.TheVariants as refusal
use Rattle.mono_machine.specs.declared.events.Reply.TheVariants as reply
use Rattle.mono_machine.specs.declared.events.TurnStep.TheVariants as step
use Rattle.mono_rt.specs.Record.{Record, noted}
use Rattle.mono_task.specs.declared.error.SpawnRefused.{SpawnRefused}
use Rattle.mono_task.specs.declared.error.SpawnRefused.TheVariants.{Memory, AtCapacity}

-- What a running task's spawn adds to the record of its turn: the act, made or refused. An allocation that fails is no
-- act, and sets a flag.
module _ {F : Type 0} where
  abbrev pub noted_spawn : Record → Result ℕ (SpawnRefused F) → Record
  noted_spawn acts (Ok t) = noted acts (step.Act act.Spawn) (reply.Task t)
  noted_spawn acts (Err (AtCapacity future)) = noted acts (step.Act act.Spawn) (reply.Refused refusal.AtCapacity)
  noted_spawn acts (Err (Memory future)) = acts

  abbrev pub lacks_spawn : Bool → Result ℕ (SpawnRefused F) → Bool
  lacks_spawn before (Ok t) = before
  lacks_spawn before (Err (AtCapacity future)) = before
  lacks_spawn before (Err (Memory future)) = true

-- The spawn is the machine's, with its reply, and the fact holds for the machine that it leaves. If memory ran out, the
-- fact holds for the machine before.
abbrev pub SpawnsTask : {F : Type 0} → Machine → Result ℕ (SpawnRefused F) → (Machine → Type 0) → Type 0
SpawnsTask m (Ok t) Left = ((act_outcome act.Spawn m).reply ≡ reply.Task t) × Left (act_outcome act.Spawn m).machine
SpawnsTask m (Err (AtCapacity f)) Left = ((act_outcome act.Spawn m).reply ≡ reply.Refused refusal.AtCapacity) × Left (act_outcome act.Spawn m).machine
SpawnsTask m (Err (Memory f)) Left = Left m

-- What a call on tasks or on sleeps adds to the record of the turn: the call as an act, with its reply. An allocation
-- that fails is no act, and sets a flag; a sleep without timers is no act either.
use Rattle.std.specs.Prelude.{ℕ, ⊤, Bool, true, Option, Result, Ok, Err}
use Rattle.mono_model.specs.Ticks.{up}
use Rattle.mono_model.specs.declared.Woke.{Woke}
use Rattle.mono_model.specs.declared.task_error.TaskError.{TaskError}
use Rattle.mono_model.specs.declared.poll.Poll.{Poll}
use Rattle.mono_model.specs.declared.error.Error.{Error}
use Rattle.mono_model.specs.declared.error.Error.TheVariants as timer
use Rattle.mono_model.specs.declared.error.SleepError.{SleepError}
use Rattle.mono_model.specs.declared.error.SleepError.TheVariants.{Memory, Timer}
use Rattle.mono_task.specs.declared.error.SpawnTask.{SpawnTask}
use Rattle.mono_task.specs.declared.error.SpawnTask.TheVariants as spawn
use Rattle.mono_machine.specs.JoinCalls.{wake_reply, join_reply, drop_reply}
use Rattle.mono_machine.specs.SleepCalls.{no_timer, poll_reply, gone_reply, reset_reply}
use Rattle.mono_machine.specs.declared.events.Act.TheVariants as act
use Rattle.mono_machine.specs.declared.events.Query.TheVariants as query
use Rattle.mono_machine.specs.declared.events.TurnStep.TheVariants as step
use Rattle.mono_machine.specs.declared.events.Reply.TheVariants as reply
use Rattle.mono_machine.specs.declared.events.Refusal.TheVariants as refusal
use Rattle.mono_rt.specs.Numbering.{join_numbered, drop_numbered}
use Rattle.mono_rt.specs.Record.{Record, noted}

abbrev pub noted_wake : Record → ℕ → Result Woke TaskError → Record
noted_wake acts t answer = noted acts (step.Act (act.Wake t)) (wake_reply answer)

module _ {O : Type 0} (number : O → ℕ) where
  abbrev pub noted_join : Record → ℕ → Result (Poll O) TaskError → Record
  noted_join acts t answer = noted acts (step.Query (query.Join t)) (join_reply (join_numbered number answer))

  abbrev pub noted_drop : Record → ℕ → Result (Option O) TaskError → Record
  noted_drop acts t answer = noted acts (step.Act (act.DropJoin t)) (drop_reply (drop_numbered number answer))

-- the record after a spawn, made or refused
abbrev pub noted_task : Record → Result ℕ SpawnTask → Record
noted_task acts (Ok t) = noted acts (step.Act act.Spawn) (reply.Task t)
noted_task acts (Err spawn.AtCapacity) = noted acts (step.Act act.Spawn) (reply.Refused refusal.AtCapacity)
noted_task acts (Err spawn.Memory) = acts

abbrev pub lacks_task : Bool → Result ℕ SpawnTask → Bool
lacks_task before (Ok t) = before
lacks_task before (Err spawn.AtCapacity) = before
lacks_task before (Err spawn.Memory) = true

-- the record after a sleep for this deadline, made or refused
abbrev pub noted_sleep : Record → ℕ → Result ℕ SleepError → Record
noted_sleep acts nanos (Ok s) = noted acts (step.Act (act.NewSleep nanos)) (reply.Sleep s)
noted_sleep acts nanos (Err (Timer timer.AtCapacity)) = noted acts (step.Act (act.NewSleep nanos)) (reply.Refused refusal.AtCapacity)
noted_sleep acts nanos (Err (Timer timer.Shutdown)) = acts
noted_sleep acts nanos (Err (Timer timer.Invalid)) = acts
noted_sleep acts nanos (Err Memory) = acts

abbrev pub lacks_sleep : Bool → Result ℕ SleepError → Bool
lacks_sleep before (Ok s) = before
lacks_sleep before (Err (Timer e)) = before
lacks_sleep before (Err Memory) = true

abbrev pub noted_poll : Record → ℕ → Result (Poll ⊤) Error → Record
noted_poll acts s answer = noted acts (step.Query (query.Sleep s)) (poll_reply answer)

abbrev pub noted_gone : Record → ℕ → Result ⊤ Error → Record
noted_gone acts s answer = noted acts (step.Act (act.DropSleep s)) (gone_reply answer)

-- the record after a reset, whose reply says whether the tick of its deadline has come
abbrev pub noted_reset : Record → ℕ → ℕ → ℕ → Result ⊤ Error → Record
noted_reset acts greatest s nanos (Ok x) = noted acts (step.Act (act.Reset s nanos)) (reset_reply greatest (up nanos))
noted_reset acts greatest s nanos (Err e) = noted acts (step.Act (act.Reset s nanos)) no_timer

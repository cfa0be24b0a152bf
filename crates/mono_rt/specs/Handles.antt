-- The calls on the handle of a task outside of a turn, and their effect on the machine.
use Rattle.std.specs.Prelude.{◌≡◌, ℕ, Option, Result, Ok, Err}
use Rattle.mono_model.specs.Tasks.{Tasks}
use Rattle.mono_model.specs.Joins.{joined}
use Rattle.mono_model.specs.declared.poll.Poll.{Poll}
use Rattle.mono_model.specs.declared.poll.Poll.TheVariants.{Ready, Pending}
use Rattle.mono_model.specs.declared.task_error.TaskError.{TaskError}
use Rattle.mono_machine.specs.Machine.{Machine}
use Rattle.mono_machine.specs.Acts.{act_outcome, query_outcome}
use Rattle.mono_machine.specs.JoinCalls.{drop_reply}
use Rattle.mono_machine.specs.declared.events.Act.TheVariants as act
use Rattle.mono_machine.specs.declared.events.Query.TheVariants as query
use Rattle.mono_machine.specs.declared.events.Reply.TheVariants as reply
use Rattle.mono_rt.specs.Numbering.{drop_numbered}

-- An output is taken, as by a poll of any task. Without an output the tasks stay as they are.
abbrev pub TakesOutput : {O : Type 0} → Tasks O → ℕ → Result (Poll O) TaskError → Tasks O → Type 0
TakesOutput old t (Ok (Ready output)) new = (by : ℕ) → new ≡ joined old t by
TakesOutput old t (Ok Pending) new = new ≡ old
TakesOutput old t (Err error) new = new ≡ old

module _ {O : Type 0} (number : O → ℕ) where
  -- The machine replies an output to a poll by any task, and the fact holds for the machine that this poll leaves.
  -- Without an output the fact holds for the machine before.
  abbrev pub PollsHandle : Machine → ℕ → Result (Poll O) TaskError → (Machine → Type 0) → Type 0
  PollsHandle m t (Ok (Ready output)) Left =
      (by : ℕ) → ((query_outcome by (query.Join t) m).reply ≡ reply.Output (number output)) × Left (query_outcome by (query.Join t) m).machine
  PollsHandle m t (Ok Pending) Left = Left m
  PollsHandle m t (Err error) Left = Left m

  -- The machine drops the handle with this reply, and the fact holds for the machine that the drop leaves.
  abbrev pub DropsHandle : Machine → ℕ → Result (Option O) TaskError → (Machine → Type 0) → Type 0
  DropsHandle m t answer Left =
      ((act_outcome (act.DropJoin t) m).reply ≡ drop_reply (drop_numbered number answer)) × Left (act_outcome (act.DropJoin t) m).machine

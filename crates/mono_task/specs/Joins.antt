-- What a handle may answer in the end.
use Rattle.std.specs.Prelude.{◌≡◌, ℕ, ⊤, Result, Ok, Err}
use Rattle.mono_model.specs.Tasks.{Tasks}
use Rattle.mono_model.specs.Joins.{join_answer}
use Rattle.mono_model.specs.Poll.{call_of}
use Rattle.mono_model.specs.declared.poll.Poll.TheVariants.{Ready}
use Rattle.mono_model.specs.declared.task_error.TaskError.{TaskError}
use Rattle.mono_model.specs.declared.task_error.TaskError.TheVariants.{Idle, NoTask, NoHandle, Taken}

-- An error is one of the three that a handle has.
abbrev pub IsOfHandle : {O : Type 0} → Result O TaskError → Type 0
IsOfHandle (Ok output) = ⊤
IsOfHandle (Err NoTask) = ⊤
IsOfHandle (Err NoHandle) = ⊤
IsOfHandle (Err Taken) = ⊤
IsOfHandle (Err Idle) = ⊥

-- The answer is that of a poll of the handle of t in some context.
pub record JoinGives {C O : Type 0} (tasks : C → Tasks O) (t : ℕ) (answer : Result O TaskError) : Type 0 where
  pub at : C
  pub is_answer : join_answer (tasks at) t ≡ call_of (Ready answer)
  pub of_handle : IsOfHandle answer

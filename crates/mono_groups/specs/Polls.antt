-- The answer and the effect of one poll of a future that asks the shared value for something.
use Rattle.std.specs.Prelude.{⊤, Bool, ◌≡◌, ◌⊎◌, ℕ, Option, Some, None, Result, Ok, Err}
use Rattle.std.specs.declared.alloc.AllocError.{AllocError}
use Rattle.mono_model.specs.Tasks.{Tasks}
use Rattle.mono_model.specs.declared.poll.Poll.{Poll}
use Rattle.mono_model.specs.declared.poll.Poll.TheVariants.{Ready, Pending}
use Rattle.mono_groups.specs.declared.asks.Asking.{Asking}
use Rattle.mono_groups.specs.declared.waiters.Asked.{Asked}
use Rattle.mono_groups.specs.declared.waiters.Asked.TheVariants as asked

-- Whether the future has answered. Such a future may not be polled.
abbrev pub ask_spent : {W K : Type 0} → Asking W K → Bool
ask_spent f = f.has_answered

module _ {W C : Type 0} where
  -- A future of the running task asks, and no task is woken.
  abbrev pub AsksIn : {G : Type 0} → (Option ℕ → ℕ → W → Asked G → W → Type 0) → (C → ℕ) → (C → W) → (C → Tasks ⊤) → Option ℕ → C → Asked G → C → Type 0
  AsksIn asks number shared work ticket c r d = asks ticket (number c) (shared c) r (shared d) × (work d ≡ work c)

  module _ {G : Type 0} (asks : Option ℕ → ℕ → W → Asked G → W → Type 0) (number : C → ℕ) (shared : C → W) (work : C → Tasks ⊤) where
    -- The value's answer is the future's. A pending future waits with its ticket.
    abbrev pub AskPolls : Option ℕ → C → Poll (Result G AllocError) → Option ℕ → C → Type 0
    AskPolls ticket c (Ready (Ok g)) left d = AsksIn asks number shared work ticket c (asked.Got g) d
    AskPolls ticket c (Ready (Err e)) left d = AsksIn asks number shared work ticket c asked.Memory d
    AskPolls ticket c Pending left d = ((left ≡ ticket) × AsksIn asks number shared work ticket c asked.Waits d) ⊎ ((t : ℕ) × ((left ≡ Some t) × AsksIn asks number shared work ticket c (asked.Joined t) d))

    -- The answer is that of a poll of such a future in some context.
    pub record AskGives (answer : Result G AllocError) : Type 0 where
      pub ticket : Option ℕ
      pub at : C
      pub after : C
      pub polled : AskPolls ticket at (Ready answer) None after

  -- The future leaves those that wait.
  abbrev pub AskCancels : (Option ℕ → ℕ → W → W → Type 0) → (C → ℕ) → (C → W) → (C → Tasks ⊤) → Option ℕ → C → C → Type 0
  AskCancels leaves number shared work ticket c d = leaves ticket (number c) (shared c) (shared d) × (work d ≡ work c)

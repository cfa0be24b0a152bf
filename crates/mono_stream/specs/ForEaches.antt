-- Items that are handled one after the other, at most 256 in one poll.
use Rattle.std.specs.Prelude.{◌≡◌, ◌<◌, ℕ, zero, suc, ⊤, Bool, true, false, Some, None, Result, Option}
use Rattle.mono_model.specs.declared.Woke.{Woke}
use Rattle.mono_model.specs.declared.task_error.TaskError.{TaskError}
use Rattle.mono_model.specs.declared.poll.Poll.{Poll}
use Rattle.mono_model.specs.declared.poll.Poll.TheVariants.{Ready, Pending}
use Rattle.mono_stream.specs.declared.for_each.Stop.{Stop}
use Rattle.mono_stream.specs.declared.for_each.Stop.TheVariants.{Ended, Waits, Many}

-- The greatest number of items that one poll handles.
abbrev pub most_items : ℕ
most_items = 256

-- The answer and the state after one poll of the handled items.
abbrev pub Polls : Type 0 → Type 0 → Type 1
Polls S C = S → C → Poll (Option ⊤) → S → C → Type 0

module _ {S C : Type 0} (polls : Polls S C) where
  -- The given number of items were handled in turn.
  abbrev pub Items : ℕ → S → C → S → C → Type 0
  Items zero s c t d = (t ≡ s) × (d ≡ c)
  Items (suc n) s c t d = (u : S) × (e : C) × polls s c (Ready (Some tt)) u e × Items n u e t d

  -- Why no more were handled: the stream ended, or waits, or the poll reached its limit.
  abbrev pub Last : Stop → ℕ → S → C → S → C → Type 0
  Last Ended n s c t d = (n < most_items) × polls s c (Ready None) t d
  Last Waits n s c t d = (n < most_items) × polls s c Pending t d
  Last Many n s c t d = (n ≡ most_items) × (t ≡ s) × (d ≡ c)

  pub record Handles (s : S) (c : C) (stop : Stop) (t : S) (d : C) : Type 0 where
    pub count : ℕ
    pub before : S
    pub middle : C
    pub items : Items count s c before middle
    pub last : Last stop count before middle t d

-- It is ready once the stream ended. If the poll reached its limit, the running task is woken.
abbrev pub AfterHandled : {C : Type 0} → (C → ℕ) → (C → ℕ → Result Woke TaskError → C → Type 0) → Stop → C → Poll ⊤ → Bool → C → Type 0
AfterHandled number wakes Ended c r ended d = (r ≡ Ready tt) × (ended ≡ true) × (d ≡ c)
AfterHandled number wakes Waits c r ended d = (r ≡ Pending) × (ended ≡ false) × (d ≡ c)
AfterHandled {C} number wakes Many c r ended d = (r ≡ Pending) × (ended ≡ false) × ((woke : Result Woke TaskError) × wakes c (number c) woke d)

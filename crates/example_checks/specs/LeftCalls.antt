-- What calls of block_on have left on a runtime.
use Rattle.std.specs.Prelude.{ℕ, List, [], ◌∷◌, ◌++◌, Result}
use Rattle.mono_machine.specs.Machine.{Machine, start_machine}
use Rattle.mono_machine.specs.declared.events.Limits.{Limits}
use Rattle.mono_machine.specs.declared.events.Blocking.{Blocking}
use Rattle.mono_rt.specs.Numbering.{answer_numbered}
use Rattle.mono_rt.specs.Views.{Refines, is_timed}
use Rattle.mono_rt.specs.declared.runtimes.Runtime.{Runtime}
use Rattle.mono_rt.specs.declared.parts.errors.RunError.{RunError}
use Rattle.mono_rt.specs.declared.parts.journals.Entry.{Entry}
use Rattle.example_checks.specs.WholeCalls.{Call, Calls, IsWholeJournal}

-- A call with this budget and this answer.
abbrev pub called : {O : Type 0} → (O → ℕ) → ℕ → Result O RunError → Call
called number turns answer = record { turns = turns; answer = answer_numbered number answer }

module _ {F O D P W U J A V : Type 0} where
  -- All entries of the runtime so far.
  abbrev pub history_of : Runtime F O D P W U J A V → List Entry
  history_of r = r.journal.history.entries

  -- The history is that of these calls on a new runtime with these limits and this strategy, which had timers if this one has
  -- them. The runtime refines the machine that they left.
  pub record Leaves (number : O → ℕ) (limits : Limits) (strategy : Blocking) (calls : List Call) (r : Runtime F O D P W U J A V) : Type 0 where
    pub machine : Machine
    pub entries : (rest : List Entry) → Calls (is_timed r) calls (start_machine limits strategy) (history_of r ++ rest) machine rest
    pub refines : Refines number r machine

  module _ (number : O → ℕ) (turns : ℕ) (answer : Result O RunError) (old new : Runtime F O D P W U J A V) where
    -- If some calls left the runtime, they and a call with this budget and this answer have left it since.
    abbrev pub LeavesOneMore : Type 0
    LeavesOneMore =
        (limits : Limits) (strategy : Blocking) (calls : List Call)
        → Leaves number limits strategy calls old → Leaves number limits strategy (calls ++ called number turns answer ∷ []) new

    -- Then the history is a whole journal.
    abbrev pub LeavesWhole : Type 0
    LeavesWhole =
        (limits : Limits) (strategy : Blocking) (calls : List Call)
        → Leaves number limits strategy calls old → IsWholeJournal (start_machine limits strategy) (calls ++ called number turns answer ∷ []) (history_of new)

-- The journal of calls of block_on on one runtime, one after the other, and what the check of a whole journal makes of it.
use Rattle.std.specs.Prelude.{⊤, ◌≡◌, ◌≤◌, ℕ, Bool, List, [], ◌∷◌, ◌++◌, map, Result, Ok, Err}
use Rattle.mono_model.specs.Ticks.{max_nanos}
use Rattle.mono_machine.specs.Machine.{Machine, start_machine}
use Rattle.mono_machine.specs.declared.events.Limits.{Limits}
use Rattle.mono_machine.specs.declared.events.Blocking.{Blocking}
use Rattle.mono_trace.specs.Order.{pair_mark, IsOrdered}
use Rattle.mono_trace.specs.Verdicts.{IsRun}
use Rattle.mono_trace.specs.declared.marks.Mark.{Mark}
use Rattle.mono_trace.specs.declared.marks.Mark.TheVariants as mark
use Rattle.mono_rt.specs.Journals.{events_in, reports_in}
use Rattle.mono_rt.specs.Rounds.{Blocked}
use Rattle.mono_rt.specs.declared.parts.errors.RunError.{RunError}
use Rattle.mono_rt.specs.declared.parts.journals.Entry.{Entry}
use Rattle.mono_rt.specs.declared.parts.journals.Entry.TheVariants.{Ran, Now, Park}

-- One call: its budget, and its answer, whose output has this number.
pub record Call : Type 0 where
  pub turns : ℕ
  pub answer : Result ℕ RunError

-- These calls were made, one after the other: the entries of each are those that `Blocked` specifies for its answer, from the
-- machine that the call before it left.
abbrev pub Calls : Bool → List Call → Machine → List Entry → Machine → List Entry → Type 0
Calls has_timers [] old part new rest = (part ≡ rest) × (new ≡ old)
Calls has_timers (call ∷ calls) old part new rest =
    (mid : Machine) × ((left : List Entry) × (Blocked has_timers call.turns call.answer old part mid left × Calls has_timers calls mid left new rest))

-- No reading before a turn or a park is above the greatest instant.
abbrev pub InRange : List Entry → Type 0
InRange [] = ⊤
InRange (Ran e r ∷ part) = InRange part
InRange (Now n ∷ part) = (n ≤ max_nanos) × InRange part
InRange (Park wait ∷ part) = InRange part

-- what an entry is for the order of the lines
abbrev pub mark_of : Entry → Mark
mark_of (Ran e r) = pair_mark e r
mark_of (Now n) = mark.Now n
mark_of (Park wait) = mark.Park wait

-- The line of the last call's output, which may stand at the end if it answered Ok.
abbrev pub output_mark : Result ℕ RunError → List Mark
output_mark (Ok output) = mark.Main output ∷ []
output_mark (Err e) = []

abbrev pub last_mark : List Call → List Mark
last_mark [] = []
last_mark (call ∷ []) = output_mark call.answer
last_mark (call ∷ next ∷ calls) = last_mark (next ∷ calls)

-- The pairs are those of a run from this machine, and the lines are in the order of whole calls, with and without the line of
-- the output at the end. Each reading before a turn or a park is an instant.
pub record IsWholeJournal (start : Machine) (calls : List Call) (part : List Entry) : Type 0 where
  pub run : IsRun start (events_in part) (reports_in part)
  pub ordered : IsOrdered (map mark_of part)
  pub ordered_with_output : IsOrdered (map mark_of part ++ last_mark calls)
  pub in_range : InRange part

-- Each journal that calls leave on a new runtime is whole.
abbrev pub WholeCallsPass : Type 0
WholeCallsPass =
    (limits : Limits) (strategy : Blocking) (has_timers : Bool) (calls : List Call) (part : List Entry) (new : Machine)
    → Calls has_timers calls (start_machine limits strategy) part new [] → IsWholeJournal (start_machine limits strategy) calls part

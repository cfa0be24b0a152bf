-- The result of a script's run.
use Rattle.std.specs.Prelude.{⊤, ◌≡◌, ℕ, zero, suc, true, false, List, [], ◌∷◌, ◌++◌, map, Option, Some, None, Result, Ok, Err, codes, decimal}
use Rattle.mono_machine.specs.Machine.{Machine, start_machine}
use Rattle.mono_machine.specs.declared.events.Limits.{Limits}
use Rattle.mono_machine.specs.declared.events.Blocking.TheVariants as strategy
use Rattle.mono_rt.specs.Rounds.{Blocked, output_in}
use Rattle.mono_rt.specs.Journals.{Registers}
use Rattle.mono_rt.specs.Readings.{readings_in, AreFirst, AreSums}
use Rattle.mono_rt.specs.DriverReadings.{Told, telling}
use Rattle.mono_rt.specs.declared.parts.errors.RunError.{RunError}
use Rattle.mono_rt.specs.declared.parts.errors.RunError.TheVariants as error
use Rattle.mono_rt.specs.declared.parts.journals.Entry.{Entry}
use Rattle.mono_rt.specs.declared.parts.journals.Entry.TheVariants as entry
use Rattle.mono_run.specs.ScriptTurns as script
use Rattle.mono_run.specs.ScriptTurns.{Driven}
use Rattle.mono_run.specs.Script.{Script}
use Rattle.mono_run.specs.Journal.{journal_text}
use Rattle.mono_run.specs.declared.runs.RunEnd.{RunEnd}
use Rattle.mono_run.specs.declared.runs.RunEnd.TheVariants as ran

-- an entry in the words of scripts
abbrev pub told : Entry → script.Entry
told (entry.Ran e r) = script.ran e r
told (entry.Now n) = script.now n
told (entry.Park m) = script.park m

-- the last line, if the main task has an output
abbrev pub main_text : Option ℕ → List ℕ
main_text None = []
main_text (Some o) = codes "main " ++ decimal o ++ 10 ∷ []

-- the answer of the runtime
abbrev pub answer_of : RunEnd → Result ℕ RunError
answer_of (ran.Output o) = Ok o
answer_of ran.Turns = Err error.Turns
answer_of ran.Capacity = Err error.AtCapacity

-- Each park with an end is until the wheel's next expiration. That is the least start of a slot over the registered
-- ticks at that moment, less the last reading in whole milliseconds. No sleep is registered at the start.
abbrev pub ParksSo : Machine → List Entry → Machine → Type 0
ParksSo old part new = (left : ℕ → Option ℕ) × Registers None old (λ s. None) part new left

-- A run with these limits and this budget ended so and wrote this: the lines of a journal of one call from the
-- machine's start. The line of the main task's output is there if and only if it gave one.
pub record Ran (limits : Limits) (turns : ℕ) (e : RunEnd) (output : List ℕ) : Type 0 where
  pub entries : List Entry
  pub last : Machine
  pub blocked : Blocked true turns (answer_of e) (start_machine limits strategy.Attached) entries last []
  pub parks : ParksSo (start_machine limits strategy.Attached) entries last
  pub text : output ≡ journal_text (map told entries) (output_in (answer_of e))

-- What the driver of a run exposes at its start: without workers the time 0, else the readings of its clock, if it
-- exposes them. It cannot fail.
abbrev pub told_first : ℕ → Option (List ℕ) → Told
told_first zero readings = telling None (Some 0) 0 0 0 false
told_first (suc n) readings = telling readings None 0 0 0 false

-- Without workers each reading is the sum of the milliseconds of the parks before it, at most the greatest instant.
-- With workers, if the clock exposes its readings, they are these in order, the last one repeated.
abbrev pub ReadsSo : ℕ → Option (List ℕ) → List Entry → Type 0
ReadsSo zero readings part = AreSums 0 0 part
ReadsSo (suc n) None part = ⊤
ReadsSo (suc n) (Some readings) part = AreFirst (readings_in part) readings

-- The same run, with this number of workers and a clock that exposes these readings.
pub record RanBy (workers : ℕ) (readings : Option (List ℕ)) (limits : Limits) (turns : ℕ) (e : RunEnd) (output : List ℕ) : Type 0 where
  pub ran : Ran limits turns e output
  pub reads : ReadsSo workers readings ran.entries

-- The same run, of a script: the turns in its journal are those that the script's lines give.
pub record RunsScript (workers : ℕ) (readings : Option (List ℕ)) (s : Script) (turns : ℕ) (e : RunEnd) (output : List ℕ) : Type 0 where
  pub run : RanBy workers readings s.limits turns e output
  pub driven : Driven s (map told run.ran.entries)

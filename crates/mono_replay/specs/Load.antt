-- The events of a load, and the summary of its reports.
use Rattle.std.specs.Prelude.{◌≡◌, ℕ, zero, suc, ◌+◌, ◌*◌, ◌%◌, ◌^◌, List, [], ◌∷◌, ◌++◌, length, flat_map}
use Rattle.mono_machine.specs.Machine.{Machine, start_machine}
use Rattle.mono_machine.specs.Steps.{Run, Step}
use Rattle.mono_replay.specs.Refinement.{Stands}
use Rattle.mono_replay.specs.declared.executor.Exec.{Exec}
use Rattle.mono_machine.specs.declared.events.Limits.{Limits}
use Rattle.mono_machine.specs.declared.events.Blocking.TheVariants as blocking
use Rattle.mono_machine.specs.declared.events.Act.TheVariants as act
use Rattle.mono_machine.specs.declared.events.Query.TheVariants as query
use Rattle.mono_machine.specs.declared.events.TurnStep.TheVariants as step
use Rattle.mono_machine.specs.declared.events.End.TheVariants as end
use Rattle.mono_machine.specs.declared.events.Event.{Event}
use Rattle.mono_machine.specs.declared.events.Event.TheVariants as event
use Rattle.mono_machine.specs.declared.events.Reply.{Reply}
use Rattle.mono_machine.specs.declared.events.Reply.TheVariants as reply
use Rattle.mono_machine.specs.declared.events.Report.{Report}
use Rattle.mono_machine.specs.declared.events.Report.TheVariants as report
use Rattle.mono_model.specs.Random.{seeded, drawn, after_draw}
use Rattle.mono_model.specs.declared.random.FastRand.{FastRand}
use Rattle.mono_replay.specs.declared.loads.Summary.{Summary}
use Rattle.mono_replay.specs.declared.tallies.Tally.{Tally}

-- ---- the events

abbrev pub load_limits : ℕ → Limits
load_limits count = record { tasks = count; jobs = 0; sleeps = count }

-- sleep k is made for this number of milliseconds, and polled
abbrev pub sleep_turn : ℕ → ℕ → Event
sleep_turn k millis = event.Turn (step.Act (act.NewSleep (millis * 1000000)) ∷ step.Query (query.Sleep k) ∷ []) end.Pending

-- a number of tasks from number k on, each with a sleep whose milliseconds the generator draws
abbrev pub sleepers : ℕ → ℕ → FastRand → List Event
sleepers k zero r = []
sleepers k (suc n) r = event.Act act.Spawn ∷ sleep_turn k (drawn r) ∷ sleepers (k + 1) n (after_draw r)

-- a number of clock steps from step j on, of 2 ^ 28 milliseconds each
abbrev pub clocks : ℕ → ℕ → List Event
clocks j zero = []
clocks j (suc n) = event.Clock (j * 268435456000000) ∷ clocks (j + 1) n

-- a number of turns that end at once
abbrev pub endings : ℕ → List Event
endings zero = []
endings (suc n) = event.Turn [] (end.Ready 0) ∷ endings n

abbrev pub load_events : ℕ → ℕ → List Event
load_events seed count = sleepers 0 count (seeded seed) ++ clocks 1 16 ++ endings count

-- ---- the summary

-- the sleeps that fired, in the order of the reports
abbrev pub fired_in : Report → List ℕ
fired_in (report.Reply r) = []
fired_in (report.Turn t replies e) = []
fired_in (report.Fired fired) = fired
fired_in report.Listed = []
fired_in report.Unlisted = []
fired_in (report.Drained tasks) = []

-- the sum of the values of all items
abbrev pub total_of : {A : Type 0} → (A → ℕ) → List A → ℕ
total_of f [] = 0
total_of f (x ∷ xs) = f x + total_of f xs

abbrev pub refusal_in : Reply → ℕ
refusal_in (reply.Refused r) = 1
refusal_in other = 0

abbrev pub refusals_in : Report → ℕ
refusals_in (report.Reply r) = refusal_in r
refusals_in (report.Turn t replies e) = total_of refusal_in replies
refusals_in (report.Fired fired) = 0
refusals_in report.Listed = 0
refusals_in report.Unlisted = 0
refusals_in (report.Drained tasks) = 0

-- a number that depends on the order in which they fired
abbrev pub order_from : ℕ → List ℕ → ℕ
order_from x [] = x
order_from x (s ∷ fired) = order_from ((x * 31 + s + 1) % 2 ^ 64) fired

-- The summary of the reports to all events of the load.
pub record IsSummary (seed count : ℕ) (s : Summary) : Type 0 where
  pub reports : List Report
  pub last : Machine
  pub run : Run (start_machine (load_limits count) blocking.Panic) (load_events seed count) reports last
  pub events : s.events ≡ 3 * count + 16
  pub fired : s.fired ≡ length (flat_map fired_in reports)
  pub refused : s.refused ≡ total_of refusals_in reports
  pub order : s.order ≡ order_from 0 (flat_map fired_in reports)

-- ---- for the running sum

-- The sum grew by the values of these reports.
pub record Adds (old : Tally) (fired : List ℕ) (refusals : ℕ) (new : Tally) : Type 0 where
  pub fired_now : new.fired ≡ old.fired + length fired
  pub refused_now : new.refused ≡ old.refused + refusals
  pub order_now : new.order ≡ order_from old.order fired

-- The executor took all of these events, and the sum grew by their reports.
abbrev pub Goes : Exec → Tally → List Event → Exec → Tally → Type 0
Goes exec tally events after new =
    (m : Machine) → Stands exec m
    → (reports : List Report) × (next : Machine) × Run m events reports next × Stands after next × Adds tally (flat_map fired_in reports) (total_of refusals_in reports) new

-- by one event
abbrev pub GoesOn : Exec → Tally → Event → Exec → Tally → Type 0
GoesOn exec tally e after new =
    (m : Machine) → Stands exec m → (r : Report) × (next : Machine) × Step m e r next × Stands after next × Adds tally (fired_in r) (refusals_in r) new

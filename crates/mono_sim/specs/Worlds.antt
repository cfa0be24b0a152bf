-- A world, its steps and its runs.
use Rattle.std.specs.Prelude.{⊤, ◌≡◌, ◌<◌, ◌≤◌, ℕ, ◌⊎◌, ◌+◌, ◌-◌, ◌*◌, ◌^◌, ◌==◌, zero, suc, min, max, Bool, true, false, not, List, [], ◌∷◌, ◌++◌, length, slice_get, slice_set, All, Option, Some, Result}
use Rattle.std.specs.List.{AllZip, list_all, list_any}
use Rattle.mono_task.specs.Members.{FutureOf, SharedOf}
use Rattle.mono_driver.specs.declared.clock.Clock
use Rattle.mono_rt.specs.Views.{Rests, CanRun, turns_begun}
use Rattle.mono_rt.specs.declared.contexts.Cx.{Cx}
use Rattle.mono_rt.specs.declared.runtimes.Runtime.{Runtime}
use Rattle.mono_rt.specs.declared.parts.errors.RunError.{RunError}
use Rattle.mono_sim.specs.declared.seats.Seat.{Seat}
use Rattle.mono_sim.specs.declared.nodes.Node.{Node}
use Rattle.mono_sim.specs.declared.worlds.World.{World}
use Rattle.mono_sim.specs.declared.steps.Step.{Step}
use Rattle.mono_sim.specs.declared.steps.Step.TheVariants as step
use Rattle.mono_sim.specs.declared.steps.End.{End}
use Rattle.mono_sim.specs.declared.steps.End.TheVariants as end
use Rattle.mono_rt.specs.declared.task_waits.TaskWait.{TaskWait}
use Rattle.mono_sim.specs.Waits.{ListsAll, IsBlocked, least_tick, is_queued}
use Rattle.mono_sim.specs.Plans.{added, draw_of, after_drawing, after_run, disturbed, is_over, next_round}
use Rattle.mono_sim.specs.Courses.{RunsOnce}
use Rattle.mono_sim.specs.Nodes.{has_finished, output_of, GoesOn}

module _ {F O D P W U J A V : Type 0} where
  -- The runtimes are as before.
  abbrev pub KeepsNodes : World F O D P W U J A V → World F O D P W U J A V → Type 0
  KeepsNodes old new = (new.nodes.items ≡ old.nodes.items) × (new.time ≡ old.time)

  -- This runtime was added, and is to have a step in this round.
  pub record Adds (seat : Seat) (runtime : Runtime F O D P W U J A V) (main : ℕ) (old new : World F O D P W U J A V) : Type 0 where
    pub nodes : new.nodes.items ≡ old.nodes.items ++ record { runtime = runtime; main = main; seat = seat } ∷ []
    pub plan : new.schedule ≡ added (length old.nodes.items) old.schedule
    pub time : new.time ≡ old.time

  -- The runtime with this number.
  abbrev pub IsRuntimeAt : ℕ → World F O D P W U J A V → Runtime F O D P W U J A V → Type 0
  IsRuntimeAt i world runtime = (node : Node F O D P W U J A V) × ((slice_get world.nodes.items i ≡ Some node) × (runtime ≡ node.runtime))

  -- The output of the main task of the runtime with this number.
  abbrev pub IsOutputAt : ℕ → World F O D P W U J A V → Option O → Type 0
  IsOutputAt i world output = (node : Node F O D P W U J A V) × ((slice_get world.nodes.items i ≡ Some node) × (output ≡ output_of node))

  -- Whether each main task has finished.
  abbrev pub all_finished : World F O D P W U J A V → Bool
  all_finished world = list_all has_finished world.nodes.items

  -- The time before the next step of a runtime.
  abbrev pub time_after : World F O D P W U J A V → ℕ
  time_after world = min (world.time + (draw_of world.schedule).jump) (2 ^ 64 - 1)

  -- Each runtime can go on by `run_until`, and the schedule has no number of another.
  pub record IsSound (future : FutureOf F (Cx F O P U W J A V) O) (world : World F O D P W U J A V) : Type 0 where
    pub rest : All (λ node. Rests node.runtime) world.nodes.items
    pub run : All (λ node. CanRun future node.runtime) world.nodes.items
    pub waiting : All (λ i. i < length world.nodes.items) world.schedule.waiting
    pub served : All (λ i. i < length world.nodes.items) world.schedule.served

  -- No runtime can go on: nothing happened in the last round, no task of an unfinished runtime is queued, and none waits
  -- for a sleep.
  pub record IsStuck (number : O → ℕ) (world : World F O D P W U J A V) : Type 0 where
    pub quiet : world.schedule.is_quiet ≡ true
    pub waits : List TaskWait
    pub lists : ListsAll number world.nodes.items waits
    pub blocked : IsBlocked waits

  -- Nothing happened in the last round, and the clock moved to the tick of the next sleep of an unfinished runtime, but not
  -- back.
  pub record IsMoved (number : O → ℕ) (old new : World F O D P W U J A V) : Type 0 where
    pub quiet : old.schedule.is_quiet ≡ true
    pub waits : List TaskWait
    pub lists : ListsAll number old.nodes.items waits
    pub tick : ℕ
    pub least : least_tick waits ≡ Some tick
    pub moved : new ≡ record old { time = max old.time (min (tick * 1000000) (2 ^ 64 - 1)); schedule = next_round old.schedule }

  abbrev pub IsAnyQueued : (O → ℕ) → World F O D P W U J A V → Type 0
  IsAnyQueued number world = (waits : List TaskWait) × (ListsAll number world.nodes.items waits × (list_any is_queued waits ≡ true))

  -- Something happened in the last round, or a task is queued.
  pub record GoesRound (number : O → ℕ) (old new : World F O D P W U J A V) : Type 0 where
    pub cause : (old.schedule.is_quiet ≡ false) ⊎ IsAnyQueued number old
    pub round : new ≡ record old { schedule = next_round old.schedule }

  -- A step after a round in which nothing happened.
  abbrev pub MovesClock : (O → ℕ) → Step → World F O D P W U J A V → World F O D P W U J A V → Type 0
  MovesClock number (step.Ran i answer) old new = ⊥
  MovesClock number (step.Stood i) old new = ⊥
  MovesClock number step.Over old new = ⊥
  MovesClock number step.Round old new = IsAnyQueued number old × (new ≡ record old { schedule = next_round old.schedule })
  MovesClock number step.Moved old new = old.schedule.is_quiet ≡ true → IsMoved number old new
  MovesClock number step.Stuck old new = (old.schedule.is_quiet ≡ true → IsStuck number old) × (new ≡ old)

  -- A step between two rounds.
  abbrev pub Begins : (O → ℕ) → Step → World F O D P W U J A V → World F O D P W U J A V → Type 0
  Begins number (step.Ran i answer) old new = ⊥
  Begins number (step.Stood i) old new = ⊥
  Begins number step.Over old new = (all_finished old ≡ true) × (new ≡ old)
  Begins number step.Round old new = (all_finished old ≡ false) × GoesRound number old new
  Begins number step.Moved old new = (all_finished old ≡ false) × IsMoved number old new
  Begins number step.Stuck old new = (all_finished old ≡ false) × IsStuck number old × (new ≡ old)

  -- The seed draws this runtime next, and whether it stands still.
  pub record IsDrawn (i : ℕ) (stands : Bool) (world : World F O D P W U J A V) : Type 0 where
    pub some : is_over world.schedule ≡ false
    pub number : i ≡ (draw_of world.schedule).number
    pub still : (draw_of world.schedule).stands ≡ stands

  -- How a run ends.
  abbrev pub EndsAt : (O → ℕ) → End → World F O D P W U J A V → Type 0
  EndsAt number end.Over world = all_finished world ≡ true
  EndsAt number end.Stuck world = (all_finished world ≡ false) × IsStuck number world
  EndsAt number end.Steps world = ⊤

  module _ (number : O → ℕ) (sharing : SharedOf W) (clock : Clock.Ghosts D) (future : FutureOf F (Cx F O P U W J A V) O) where
    -- This runtime ran with this budget, and nothing else changed; whether a turn was run.
    pub record RunsAt (i budget : ℕ) (answer : Result ⊤ RunError) (turned : Bool) (old new : World F O D P W U J A V) : Type 0 where
      pub before : Node F O D P W U J A V
      pub after : Node F O D P W U J A V
      pub found : slice_get old.nodes.items i ≡ Some before
      pub main : after.main ≡ before.main
      pub ran : RunsOnce number sharing clock future before.main budget answer before.runtime after.runtime
      pub turns : turned ≡ not (turns_begun after.runtime == turns_begun before.runtime)
      pub nodes : new.nodes.items ≡ slice_set old.nodes.items i after
      pub plan : new.schedule ≡ old.schedule
      pub time : new.time ≡ old.time

    -- The drawn runtime ran with the drawn budget, after the drawn jump of the clock.
    pub record RunsDrawn (i : ℕ) (answer : Result ⊤ RunError) (old new : World F O D P W U J A V) : Type 0 where
      pub turned : Bool
      pub left : World F O D P W U J A V
      pub ran : RunsAt i (draw_of old.schedule).turns answer turned (record old { time = time_after old; schedule = after_drawing old.schedule }) left
      pub noted : new ≡ record left { schedule = after_run answer turned left.schedule }

    -- A step.
    abbrev pub Steps : Step → World F O D P W U J A V → World F O D P W U J A V → Type 0
    Steps (step.Ran i answer) old new = IsDrawn i false old × RunsDrawn i answer old new
    Steps (step.Stood i) old new = IsDrawn i true old × (new ≡ record old { time = time_after old; schedule = disturbed (after_drawing old.schedule) })
    Steps step.Round old new = (is_over old.schedule ≡ true) × Begins number step.Round old new
    Steps step.Moved old new = (is_over old.schedule ≡ true) × Begins number step.Moved old new
    Steps step.Over old new = (is_over old.schedule ≡ true) × Begins number step.Over old new
    Steps step.Stuck old new = (is_over old.schedule ≡ true) × Begins number step.Stuck old new

    -- So many steps in sequence.
    abbrev pub Chain : ℕ → World F O D P W U J A V → World F O D P W U J A V → Type 0
    Chain zero old new = new ≡ old
    Chain (suc n) old new = (mid : World F O D P W U J A V) × ((did : Step) × (Chain n old mid × Steps did mid new))

    -- A run of so many steps at most, by its end.
    abbrev pub RunsFor : ℕ → End → World F O D P W U J A V → World F O D P W U J A V → Type 0
    RunsFor steps end.Over old new = (n : ℕ) × ((n < steps) × Chain n old new)
    RunsFor steps end.Stuck old new = (n : ℕ) × ((n < steps) × Chain n old new)
    RunsFor steps end.Steps old new = Chain steps old new

    -- Each runtime went on by calls of `run_until` on its main task, and by nothing else.
    abbrev pub EachGoesOn : World F O D P W U J A V → World F O D P W U J A V → Type 0
    EachGoesOn old new = AllZip (GoesOn number sharing clock future) old.nodes.items new.nodes.items

    -- A run made so many of its steps.
    pub record HasRun (n steps : ℕ) (old new : World F O D P W U J A V) : Type 0 where
      pub sound : IsSound future new
      pub chain : Chain n old new
      pub time : old.time ≤ new.time
      pub runs : EachGoesOn old new
      pub within : n ≤ steps

-- How long a runtime waits for its step, and what a plan depends on.
use Rattle.std.specs.Prelude.{⊤, ◌≡◌, ◌<◌, ◌≤◌, ◌⊎◌, ◌+◌, ◌*◌, ◌==◌, ℕ, zero, suc, Bool, false, List, [], ◌∷◌, ◌++◌, length, if◌then◌else◌, Ok, Err}
use Rattle.std.specs.List.{sum_by}
use Rattle.mono_task.specs.Members.{FutureOf, SharedOf}
use Rattle.mono_driver.specs.declared.clock.Clock
use Rattle.mono_rt.specs.declared.contexts.Cx.{Cx}
use Rattle.mono_sim.specs.declared.steps.Step.{Step}
use Rattle.mono_sim.specs.declared.steps.Step.TheVariants as step
use Rattle.mono_sim.specs.declared.worlds.World.{World}
use Rattle.mono_sim.specs.Plans.{Plan, after_drawing, after_run, disturbed, next_round}
use Rattle.mono_sim.specs.Worlds.{Steps, Chain}

-- How often a number stands in a list.
abbrev pub times : ℕ → List ℕ → ℕ
times i numbers = sum_by (λ n. if n == i then 1 else 0) numbers

-- How often a plan has a runtime, for this round or for the next.
abbrev pub times_in : ℕ → Plan → ℕ
times_in i plan = times i plan.waiting + times i plan.served

-- How many runtimes a plan has.
abbrev pub count_in : Plan → ℕ
count_in plan = length plan.waiting + length plan.served

-- A step of this runtime, or the end of the world.
abbrev pub IsVisit : ℕ → Step → Type 0
IsVisit i (step.Ran j answer) = j ≡ i
IsVisit i (step.Stood j) = j ≡ i
IsVisit i step.Round = ⊥
IsVisit i step.Moved = ⊥
IsVisit i step.Over = ⊤
IsVisit i step.Stuck = ⊤

-- A step in which the main task of this runtime finished.
abbrev pub IsLast : ℕ → Step → Type 0
IsLast i (step.Ran j (Ok x)) = j ≡ i
IsLast i (step.Ran j (Err e)) = ⊥
IsLast i (step.Stood j) = ⊥
IsLast i step.Round = ⊥
IsLast i step.Moved = ⊥
IsLast i step.Over = ⊥
IsLast i step.Stuck = ⊥

-- The plan after a step; whether a turn was run in it.
abbrev pub planned : Step → Bool → Plan → Plan
planned (step.Ran i answer) turned plan = after_run answer turned (after_drawing plan)
planned (step.Stood i) turned plan = disturbed (after_drawing plan)
planned step.Round turned plan = next_round plan
planned step.Moved turned plan = next_round plan
planned step.Over turned plan = plan
planned step.Stuck turned plan = plan

-- The plan after such steps in sequence.
abbrev pub planned_by : List (Step × Bool) → Plan → Plan
planned_by [] plan = plan
planned_by ((did, turned) ∷ acts) plan = planned_by acts (planned did turned plan)

-- What a step did, without the number of the runtime, which the plan draws.
abbrev pub unnumbered : Step → Step
unnumbered (step.Ran i answer) = step.Ran 0 answer
unnumbered (step.Stood i) = step.Stood 0
unnumbered step.Round = step.Round
unnumbered step.Moved = step.Moved
unnumbered step.Over = step.Over
unnumbered step.Stuck = step.Stuck

module _ {F O D P W U J A V : Type 0} (number : O → ℕ) (sharing : SharedOf W) (clock : Clock.Ghosts D) (future : FutureOf F (Cx F O P U W J A V) O) where
  -- One of these steps is one of this runtime, or the world ended in one.
  abbrev pub Visits : ℕ → (n : ℕ) (old new : World F O D P W U J A V) → Chain number sharing clock future n old new → Type 0
  Visits i zero old new same = ⊥
  Visits i (suc n) old new (mid, (did, (before, last))) = Visits i n old mid before ⊎ IsVisit i did

  -- Whether a turn was run in a step.
  abbrev pub turned_in : (did : Step) (old new : World F O D P W U J A V) → Steps number sharing clock future did old new → Bool
  turned_in (step.Ran i answer) old new (drawn, ran) = ran.turned
  turned_in (step.Stood i) old new s = false
  turned_in step.Round old new s = false
  turned_in step.Moved old new s = false
  turned_in step.Over old new s = false
  turned_in step.Stuck old new s = false

  -- What the steps did, which runtime aside, and in which of them a turn was run.
  abbrev pub acts_in : (n : ℕ) (old new : World F O D P W U J A V) → Chain number sharing clock future n old new → List (Step × Bool)
  acts_in zero old new same = []
  acts_in (suc n) old new (mid, (did, (before, last))) = acts_in n old mid before ++ (unnumbered did, turned_in did mid new last) ∷ []

  -- A runtime that a plan has has a step within twice as many steps as the plan has runtimes, unless the world ends before.
  abbrev pub IsFair : Type 0
  IsFair = (i n : ℕ) (old new : World F O D P W U J A V) (chain : Chain number sharing clock future n old new) → 0 < times_in i old.schedule → 2 * count_in old.schedule ≤ n → Visits i n old new chain

  -- A plan has each runtime as often as before, until its main task has finished.
  abbrev pub StaysPlanned : Type 0
  StaysPlanned = (i : ℕ) (did : Step) (old new : World F O D P W U J A V) → Steps number sharing clock future did old new → (times_in i new.schedule ≡ times_in i old.schedule) ⊎ IsLast i did

  -- The plan follows from the plan before, and from what the steps did.
  abbrev pub IsPlanned : Type 0
  IsPlanned = (n : ℕ) (old new : World F O D P W U J A V) (chain : Chain number sharing clock future n old new) → new.schedule ≡ planned_by (acts_in n old new chain) old.schedule

  -- Two worlds of equal plans have equal plans after steps that did the same, which runtimes aside.
  abbrev pub IsOneRun : Type 0
  IsOneRun = (n m : ℕ) (a b c d : World F O D P W U J A V) (one : Chain number sharing clock future n a b) (other : Chain number sharing clock future m c d)
      → a.schedule ≡ c.schedule → acts_in n a b one ≡ acts_in m c d other → b.schedule ≡ d.schedule

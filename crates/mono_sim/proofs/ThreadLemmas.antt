-- Runtimes in a world go on as on threads.
use Rattle.std.proofs.Common.{ℕ, zero, suc, Ok, refl, ap}
use Rattle.std.specs.Prelude.{⊤, Result}
use Rattle.mono_task.specs.Members.{FutureOf, SharedOf}
use Rattle.mono_driver.specs.declared.clock.Clock
use Rattle.mono_rt.specs.declared.contexts.Cx.{Cx}
use Rattle.mono_sim.specs.declared.steps.Step.{Step}
use Rattle.mono_sim.specs.declared.steps.Step.TheVariants as step
use Rattle.mono_sim.specs.declared.worlds.World.{World}
use Rattle.mono_sim.specs.Plans.{draw_of, after_drawing}
use Rattle.mono_sim.specs.Worlds.{Steps, EachGoesOn, time_after}
use Rattle.mono_sim.specs.Threads.{IsAsOnThreads}
use Rattle.mono_sim.proofs.WorldLemmas.{each_same, each_on, each_ran, each_begun, some_drawn}

module _ {F O D P W U J A V : Type 0} (number : O → ℕ) (sharing : SharedOf W) (clock : Clock.Ghosts D) (future : FutureOf F (Cx F O P U W J A V) O) where
  each_stepped : (did : Step) (old new : World F O D P W U J A V) → Steps number sharing clock future did old new → EachGoesOn number sharing clock future old new
  each_stepped (step.Ran i answer) old new (drawn, ran) =
      each_ran number sharing clock future (record old { time = time_after old; schedule = after_drawing old.schedule }) ran.left new i (draw_of old.schedule).turns answer ran.turned
      (some_drawn (draw_of old.schedule) old.schedule refl) (ap (λ w. w.nodes.items) ran.noted) ran.ran
  each_stepped (step.Stood i) old new (drawn, is) = each_same number sharing clock future old new (ap (λ w. w.nodes.items) is)
  each_stepped step.Round old new (over, begins) = let r : Result Step ⊤ = Ok step.Round in each_begun number sharing clock future r old new begins tt
  each_stepped step.Moved old new (over, begins) = let r : Result Step ⊤ = Ok step.Moved in each_begun number sharing clock future r old new begins tt
  each_stepped step.Over old new (over, begins) = let r : Result Step ⊤ = Ok step.Over in each_begun number sharing clock future r old new begins tt
  each_stepped step.Stuck old new (over, begins) = let r : Result Step ⊤ = Ok step.Stuck in each_begun number sharing clock future r old new begins tt

  pub as_on_threads : IsAsOnThreads number sharing clock future
  as_on_threads zero old new same = each_same number sharing clock future old new (ap (λ w. w.nodes.items) same)
  as_on_threads (suc n) old new (mid, (did, (before, last))) = each_on number sharing clock future old mid new (as_on_threads n old mid before) (each_stepped did mid new last)

-- The order in which the runtimes of a world have their steps.
use Rattle.std.specs.Prelude.{ℕ, ◌+◌, ◌-◌, ◌^◌, min, ⊤, Bool, true, false, not, ◌&&◌, List, [], ◌∷◌, ◌++◌, length, take, slice_index_or, Result, Ok, Err}
use Rattle.std.specs.List.{swap_remove}
use Rattle.mono_model.specs.declared.random.FastRand.{FastRand}
use Rattle.mono_model.specs.Random.{seeded, after_draw, drawn_below}
use Rattle.mono_rt.specs.declared.parts.errors.RunError.{RunError}
use Rattle.mono_rt.specs.declared.parts.errors.RunError.TheVariants as error
use Rattle.mono_sim.specs.declared.draws.Odds.{Odds}
use Rattle.mono_sim.specs.declared.schedules.Draw.{Draw}
use Rattle.mono_sim.specs.Draws.{hit, after_hit, jump_drawn, after_jump}

-- The odds, the generator, the numbers of the runtimes that are to have a step in this round, those that had it, and
-- whether nothing happened in this round.
pub record Plan : Type 0 where
  pub odds : Odds
  pub rand : FastRand
  pub waiting : List ℕ
  pub served : List ℕ
  pub is_quiet : Bool

abbrev pub start_plan : ℕ → Odds → Plan
start_plan seed odds = record { odds = odds; rand = seeded seed; waiting = []; served = []; is_quiet = true }

abbrev pub added : ℕ → Plan → Plan
added number plan = record plan { waiting = plan.waiting ++ number ∷ [] }

-- The plan after the generator of a driver was drawn.
abbrev pub after_driver : Plan → Plan
after_driver plan = record plan { rand = after_draw plan.rand }

-- Whether each unfinished runtime had its step in this round.
abbrev pub is_over_by : List ℕ → Bool
is_over_by [] = true
is_over_by (number ∷ waiting) = false

abbrev pub is_over : Plan → Bool
is_over plan = is_over_by plan.waiting

-- The place of the next runtime among those that wait, each as likely as another.
abbrev pub place_in : Plan → ℕ
place_in plan = drawn_below plan.rand (min (length plan.waiting) (2 ^ 32 - 1))

-- The generator after each of the draws of a step.
abbrev pub after_place : Plan → FastRand
after_place plan = after_draw plan.rand

abbrev pub after_turns : Plan → FastRand
after_turns plan = after_draw (after_place plan)

abbrev pub after_stands : Plan → FastRand
after_stands plan = after_hit (after_turns plan) plan.odds.stands

abbrev pub number_in : Plan → ℕ
number_in plan = slice_index_or plan.waiting (place_in plan) 0

-- The next step.
abbrev pub draw_of : Plan → Draw
draw_of plan = record {
  number = number_in plan;
  turns = drawn_below (after_place plan) plan.odds.turns + 1;
  stands = hit (after_turns plan) plan.odds.stands;
  jump = jump_drawn (after_stands plan) plan.odds;
}

-- The plan after it: the runtime had its step.
abbrev pub after_drawing : Plan → Plan
after_drawing plan = record plan {
  rand = after_jump (after_stands plan) plan.odds;
  waiting = swap_remove plan.waiting (place_in plan) 0;
  served = plan.served ++ number_in plan ∷ [];
}

abbrev pub disturbed : Plan → Plan
disturbed plan = record plan { is_quiet = false }

-- The plan without the runtime that had the last step.
abbrev pub finished : Plan → Plan
finished plan = record plan { served = take (length plan.served - 1) plan.served; is_quiet = false }

-- The plan after a run with this answer, by whether a turn was run.
abbrev pub after_run : Result ⊤ RunError → Bool → Plan → Plan
after_run (Ok x) turned plan = finished plan
after_run (Err error.Turns) turned plan = record plan { is_quiet = plan.is_quiet && not turned }
after_run (Err error.Driver) turned plan = disturbed plan
after_run (Err error.AtCapacity) turned plan = disturbed plan
after_run (Err error.Memory) turned plan = disturbed plan

abbrev pub next_round : Plan → Plan
next_round plan = record plan { waiting = plan.served; served = plan.waiting; is_quiet = true }

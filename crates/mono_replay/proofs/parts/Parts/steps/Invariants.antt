use Rattle.std.proofs.Common.{◌≡◌, ◌++◌, ℕ, Some, drop}
use Rattle.mono_time.specs.Timers.{registered_of}
use Rattle.mono_time.specs.Registrations.{registered_by_steps}
use Rattle.mono_machine.specs.Machine.{Machine, IsValidDuring}
use Rattle.mono_machine.specs.Turns.{replies_of, after_steps}
use Rattle.mono_replay.specs.PartRefinement.{Matches}
use Rattle.mono_replay.proofs.parts.Parts.steps.Given as goal

-- the replies so far and those to the remaining steps are those to all, from each machine that the executor refined
abbrev pub invariant-loop-step : goal.invariant-loop-step
invariant-loop-step l = (l.self.tasks.turn ≡ l.fn.self.tasks.turn) × ((m : Machine) → Matches l.fn.self m → (mid : Machine) × Matches l.self mid
    × (l.replies ++ replies_of l.me (drop l.step-index l.steps) mid ≡ replies_of l.me l.steps m)
    × (after_steps l.me (drop l.step-index l.steps) mid ≡ after_steps l.me l.steps m))
    × ((m : Machine) → Matches l.fn.self m → IsValidDuring (Some l.me) m → (mid : Machine) × Matches l.self mid × IsValidDuring (Some l.me) mid
    × ((s : ℕ) → registered_by_steps l.me (drop l.step-index l.steps) mid s (registered_of l.self.timers s) ≡ registered_by_steps l.me l.steps m s (registered_of l.fn.self.timers s)))

-- The effect of a pending poll on its task in the machine.
use Rattle.std.specs.Prelude.{◌≡◌, ◌⊎◌, ℕ, true, false, List, ◌++◌}
use Rattle.mono_model.specs.declared.Ended.{Ended}
use Rattle.mono_machine.specs.Machine.{Machine, IsValid}
use Rattle.mono_machine.specs.Turns.{after_steps}
use Rattle.mono_machine.specs.Steps.{Step}
use Rattle.mono_machine.specs.History.{begun_machine, is_awaiting}
use Rattle.mono_machine.specs.Watches.{Source, IsWatched, drops_in}
use Rattle.mono_machine.specs.declared.events.TurnStep.{TurnStep}
use Rattle.mono_machine.specs.declared.events.End.TheVariants as end
use Rattle.mono_machine.specs.declared.events.Event.TheVariants as event
use Rattle.mono_machine.specs.declared.events.Reply.{Reply}
use Rattle.mono_machine.specs.declared.events.Report.TheVariants as report

module _ {C : Type 0} (stands : C → Machine → Type 0) (number : C → ℕ) where
  -- From c to d a poll did these steps, some of them before it was registered at x and the others since. For all steps
  -- of the turn before and after the poll: if no step since drops x, the task waits for x or is awaiting once the turn
  -- has ended pending.
  pub record Registers (c d : C) (x : Source) : Type 0 where
    pub before : List TurnStep
    pub since : List TurnStep
    pub leads : (m : Machine) → stands c m → stands d (after_steps (number c) (before ++ since) m)
    pub stays : (old new : Machine) (first last : List TurnStep) (replies : List Reply) (told : Ended) → IsValid old
        → stands c (after_steps (number c) first (begun_machine old.tasks.queue old))
        → Step old (event.Turn ((first ++ before) ++ (since ++ last)) end.Pending) (report.Turn (number c) replies told) new
        → drops_in x (since ++ last) ≡ false → IsWatched new (number c) x ⊎ (is_awaiting (number c) new ≡ true)

-- The effect of a pending turn on its task.
use Rattle.std.specs.Prelude.{◌≡◌, ◌⊎◌, ℕ, true, false, List, ◌++◌, Option, Some}
use Rattle.mono_model.specs.Table.{value_at}
use Rattle.mono_model.specs.declared.Ended.{Ended}
use Rattle.mono_machine.specs.Machine.{Machine, IsValid}
use Rattle.mono_machine.specs.Turns.{after_steps}
use Rattle.mono_machine.specs.Steps.{Step}
use Rattle.mono_machine.specs.History.{begun_machine, is_awaiting}
use Rattle.mono_machine.specs.Watches.{Source, IsWatched, Hears, drops_in}
use Rattle.mono_machine.specs.declared.events.TurnStep.{TurnStep}
use Rattle.mono_machine.specs.declared.events.End.TheVariants as end
use Rattle.mono_machine.specs.declared.events.Event.TheVariants as event
use Rattle.mono_machine.specs.declared.events.Reply.{Reply}
use Rattle.mono_machine.specs.declared.events.Report.{Report}
use Rattle.mono_machine.specs.declared.events.Report.TheVariants as report

-- the machine's claim for a turn that registers
abbrev pub TurnRegisters : Type 0
TurnRegisters = (before after : List TurnStep) (replies : List Reply) (told : Ended) (old new : Machine) (t : ℕ) (x : Source) → IsValid old → Step old (event.Turn (before ++ after) end.Pending) (report.Turn t replies told) new
    → Hears (after_steps t before (begun_machine old.tasks.queue old)) t x → drops_in x after ≡ false → IsWatched new t x ⊎ (is_awaiting t new ≡ true)

-- The turn's acts are some before the task was registered at x and some since. If none since drops x, the task waits
-- for x or is awaiting after the turn.
pub record LeavesAt (m : Machine) (t : ℕ) (steps : List TurnStep) (answer : Report) (x : Source) : Type 0 where
  pub before : List TurnStep
  pub since : List TurnStep
  pub acts : steps ≡ before ++ since
  pub stays : (new : Machine) → Step m (event.Turn steps end.Pending) answer new → drops_in x since ≡ false → IsWatched new t x ⊎ (is_awaiting t new ≡ true)

-- A turn that ended pending, from the task's future f, leaves a future g, and the above holds for each source that g
-- needs.
pub record LeavesWaiting {F : Type 0} (is_spent : F → Type 0) (needs : F → Source → Type 0) (m : Machine) (futures left : List (Option F)) (steps : List TurnStep) (answer : Report) : Type 0 where
  pub task : ℕ
  pub replies : List Reply
  pub ended : Ended
  pub told : answer ≡ report.Turn task replies ended
  pub waits : (f : F) → value_at futures task ≡ Some f → is_spent f → (g : F) × (value_at left task ≡ Some g) × ((x : Source) → needs g x → LeavesAt m task steps answer x)

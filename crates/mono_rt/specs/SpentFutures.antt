-- What a turn of a future that is spent does.
use Rattle.std.specs.Prelude.{◌≡◌, ℕ, Bool, List, Some}
use Rattle.mono_model.specs.Table.{value_at}
use Rattle.mono_task.specs.Members.{FutureOf, SharedOf}
use Rattle.mono_machine.specs.Machine.{Machine}
use Rattle.mono_machine.specs.declared.events.TurnStep.{TurnStep}
use Rattle.mono_machine.specs.declared.events.End.{End}
use Rattle.mono_machine.specs.declared.events.End.TheVariants as end
use Rattle.mono_machine.specs.declared.events.Report.{Report}
use Rattle.mono_rt.specs.Stores.{Store}
use Rattle.mono_rt.specs.FuturePolls.{TellsTurnBy}
use Rattle.mono_rt.specs.Payments.{wakes_of}
use Rattle.mono_rt.specs.declared.contexts.Cx.{Cx}

-- Each turn of this future ends pending. Its acts are the wakes that the shared value owed before it.
abbrev pub RestsIfSpent : {F O P U W J A V : Type 0} → (O → ℕ) → SharedOf W → FutureOf F (Cx F O P U W J A V) O → F → Type 0
RestsIfSpent {F} {W = W} number sharing future f =
    (has_timers lasts : Bool) (m : Machine) (store left : Store F W) (reading : ℕ) (steps : List TurnStep) (e : End) (answer : Report) →
    (tells : TellsTurnBy number sharing future has_timers lasts m store reading steps e answer left) → value_at store.futures tells.task ≡ Some f →
    (e ≡ end.Pending) × (steps ≡ wakes_of (sharing.owes store.shared))

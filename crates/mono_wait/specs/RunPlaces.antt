-- What each park of a call of `block_on` finds of the tasks that wait in the shared value.
use Rattle.std.specs.Prelude.{◌≡◌, ℕ, true, List, ◌++◌}
use Rattle.mono_task.specs.Members.{FutureOf, SharedOf}
use Rattle.mono_machine.specs.Machine.{Machine}
use Rattle.mono_rt.specs.Views.{Refines, is_timed}
use Rattle.mono_rt.specs.Stores.{store_of}
use Rattle.mono_rt.specs.declared.contexts.Cx.{Cx}
use Rattle.mono_rt.specs.declared.runtimes.Runtime.{Runtime}
use Rattle.mono_rt.specs.declared.parts.journals.Entry.{Entry}
use Rattle.mono_wait.specs.JournalPlaces.{FoundInCall, ListsOwingNone}

module _ {F O D P W U J A V : Type 0} (number : O → ℕ) (sharing : SharedOf W) (future : FutureOf F (Cx F O P U W J A V) O) (waits_in : F → List ℕ → Type 0) where
  -- From each machine that the runtime refined, the history grew by the entries of a call. At each park among these, `found`
  -- holds of the shared value, each unfinished task, and each place at which its last turn left its future waiting.
  pub record ParksFind (found : W → List ℕ → ℕ → Type 0) (main : F) (old new : Runtime F O D P W U J A V) : Type 0 where
    pub finds : (m : Machine) → Refines number old m
        → (part : List Entry) × ((new.journal.history.entries ≡ old.journal.history.entries ++ part) × FoundInCall number sharing future waits_in (is_timed old) true found main (store_of old.cx) m part)

  -- The same: the shared value lists the task at the place, and owes no wake.
  abbrev pub ParksList : F → Runtime F O D P W U J A V → Runtime F O D P W U J A V → Type 0
  ParksList main old new = ParksFind (ListsOwingNone sharing) main old new

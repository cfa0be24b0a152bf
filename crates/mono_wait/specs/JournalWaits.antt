-- Along the entries of a journal: the sources for which a task waits since its last turn.
use Rattle.std.specs.Prelude.{⊤, ◌≡◌, ◌⊎◌, ℕ, Bool, true, false, List, [], ◌∷◌, Some}
use Rattle.mono_task.specs.Members.{FutureOf, SharedOf}
use Rattle.mono_model.specs.Table.{value_at}
use Rattle.mono_machine.specs.Machine.{Machine}
use Rattle.mono_machine.specs.Steps.{Step, has_finished}
use Rattle.mono_machine.specs.History.{is_turn_of, is_awaiting}
use Rattle.mono_machine.specs.Watches.{Source, IsWatched, is_taken, drops_in}
use Rattle.mono_machine.specs.declared.events.Event.{Event}
use Rattle.mono_machine.specs.declared.events.Event.TheVariants as event
use Rattle.mono_machine.specs.declared.events.TurnStep.{TurnStep}
use Rattle.mono_machine.specs.declared.events.End.{End}
use Rattle.mono_machine.specs.declared.events.End.TheVariants as end
use Rattle.mono_machine.specs.declared.events.Report.{Report}
use Rattle.mono_rt.specs.declared.parts.journals.Entry.{Entry}
use Rattle.mono_rt.specs.declared.parts.journals.Entry.TheVariants.{Ran, Now, Park}
use Rattle.mono_rt.specs.Stores.{Store}
use Rattle.mono_rt.specs.FuturePolls.{TellsTurn, MakesNoTask}
use Rattle.mono_rt.specs.declared.contexts.Cx.{Cx}

module _ {F O P U W J A V : Type 0} (number : O → ℕ) (sharing : SharedOf W) (future : FutureOf F (Cx F O P U W J A V) O) (needs : F → Source → Type 0) (has_timers : Bool) (t : ℕ) (x : Source) where
  -- the turn ended pending, the future that went back needs x, and no act of the turn dropped x
  pub record NeedsAfter (store left : Store F W) (steps : List TurnStep) (e : End) : Type 0 where
    pub is_pending : e ≡ end.Pending
    pub f : F
    pub before : value_at store.futures t ≡ Some f
    pub unspent : future.is_spent f ≡ false
    pub g : F
    pub after : value_at left.futures t ≡ Some g
    pub needed : needs g x
    pub kept : drops_in x steps ≡ false

  -- since its last turn no call took its wait
  abbrev pub Untaken : Type 0 → Event → Report → Type 0
  Untaken owed e answer = owed × (is_turn_of t answer ≡ false) × (is_taken t x e answer ≡ false)

  abbrev pub AfterTurn : Bool → Type 0 → Store F W → Store F W → List TurnStep → End → Report → Type 0
  AfterTurn true owed store left steps e answer = NeedsAfter store left steps e
  AfterTurn false owed store left steps e answer = Untaken owed (event.Turn steps e) answer

  -- At each park among these entries the task waits for x or is awaiting, if it has not finished, its future needed x
  -- after its last turn, and no call took its wait since.
  abbrev pub Waiting : Type 0 → Machine → Store F W → ℕ → List Entry → Type 0
  Waiting owed m store reading [] = ⊤
  Waiting owed m store reading (Now n ∷ part) = Waiting owed m store n part
  Waiting owed m store reading (Park wait ∷ part) =
      (owed → has_finished (value_at m.tasks.table t) ≡ false → IsWatched m t x ⊎ (is_awaiting t m ≡ true)) × Waiting owed m store reading part
  Waiting owed m store reading (Ran (event.Turn steps e) answer ∷ part) =
      (mid : Machine) × ((left : Store F W) × (Step m (event.Turn steps e) answer mid × TellsTurn number sharing future has_timers m store reading steps e answer left × Waiting (AfterTurn (is_turn_of t answer) owed store left steps e answer) mid left reading part))
  Waiting owed m store reading (Ran (event.Act a) answer ∷ part) = (mid : Machine) × (MakesNoTask a × Step m (event.Act a) answer mid × Waiting (Untaken owed (event.Act a) answer) mid store reading part)
  Waiting owed m store reading (Ran (event.Clock n) answer ∷ part) = (mid : Machine) × (Step m (event.Clock n) answer mid × Waiting (Untaken owed (event.Clock n) answer) mid store reading part)
  Waiting owed m store reading (Ran (event.Remote u) answer ∷ part) = (mid : Machine) × (Step m (event.Remote u) answer mid × Waiting (Untaken owed (event.Remote u) answer) mid store reading part)
  Waiting owed m store reading (Ran event.Drain answer ∷ part) = (mid : Machine) × (Step m event.Drain answer mid × Waiting (Untaken owed event.Drain answer) mid store reading part)

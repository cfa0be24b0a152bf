-- Along the entries of a history: what a park finds of a task that waits at a place of the shared value since its last turn.
use Rattle.std.specs.Prelude.{⊤, ◌≡◌, ℕ, Bool, true, false, List, [], ◌∷◌, Some}
use Rattle.mono_task.specs.Members.{FutureOf, SharedOf}
use Rattle.mono_model.specs.Table.{value_at}
use Rattle.mono_machine.specs.Machine.{Machine}
use Rattle.mono_machine.specs.Steps.{Step, has_finished}
use Rattle.mono_machine.specs.History.{is_turn_of}
use Rattle.mono_machine.specs.declared.events.Event.TheVariants as event
use Rattle.mono_machine.specs.declared.events.End.{End}
use Rattle.mono_machine.specs.declared.events.End.TheVariants as end
use Rattle.mono_rt.specs.Rounds.{IsSpawn}
use Rattle.mono_rt.specs.Stores.{Store, with_future}
use Rattle.mono_rt.specs.FuturePolls.{TellsTurnBy, MakesNoTask}
use Rattle.mono_rt.specs.declared.contexts.Cx.{Cx}
use Rattle.mono_rt.specs.declared.parts.journals.Entry.{Entry}
use Rattle.mono_rt.specs.declared.parts.journals.Entry.TheVariants.{Ran, Now, Park}

-- The shared value lists the task at the place, and owes no wake.
abbrev pub ListsOwingNone : {W : Type 0} → SharedOf W → W → List ℕ → ℕ → Type 0
ListsOwingNone sharing w p t = (sharing.lists w p t ≡ true) × (sharing.owes w ≡ [])

module _ {F O P U W J A V : Type 0} (number : O → ℕ) (sharing : SharedOf W) (future : FutureOf F (Cx F O P U W J A V) O) (waits_in : F → List ℕ → Type 0) (has_timers lasts : Bool) where
  module _ (t : ℕ) (p : List ℕ) where
    -- The turn ended pending, and the future that went back waits at p.
    pub record WaitsAfter (store left : Store F W) (e : End) : Type 0 where
      pub is_pending : e ≡ end.Pending
      pub f : F
      pub before : value_at store.futures t ≡ Some f
      pub unspent : future.is_spent f ≡ false
      pub g : F
      pub after : value_at left.futures t ≡ Some g
      pub waits : waits_in g p

    abbrev pub OwedAfter : Bool → Type 0 → Store F W → Store F W → End → Type 0
    OwedAfter true owed store left e = WaitsAfter store left e
    OwedAfter false owed store left e = owed

    module _ (found : W → List ℕ → ℕ → Type 0) where
      -- At each park among these entries, `found` holds of the shared value, p and the task, if the task has not finished,
      -- and its future waited at p after its last turn.
      abbrev pub StaysFound : Type 0 → Machine → Store F W → ℕ → List Entry → Type 0
      StaysFound owed m store reading [] = ⊤
      StaysFound owed m store reading (Now n ∷ part) = StaysFound owed m store n part
      StaysFound owed m store reading (Park wait ∷ part) = (owed → has_finished (value_at m.tasks.table t) ≡ false → found store.shared p t) × StaysFound owed m store reading part
      StaysFound owed m store reading (Ran (event.Turn steps e) answer ∷ part) =
          (mid : Machine) × ((left : Store F W) × (Step m (event.Turn steps e) answer mid × TellsTurnBy number sharing future has_timers lasts m store reading steps e answer left × StaysFound (OwedAfter (is_turn_of t answer) owed store left e) mid left reading part))
      StaysFound owed m store reading (Ran (event.Act a) answer ∷ part) = (mid : Machine) × (MakesNoTask a × Step m (event.Act a) answer mid × StaysFound owed mid store reading part)
      StaysFound owed m store reading (Ran (event.Clock n) answer ∷ part) = (mid : Machine) × (Step m (event.Clock n) answer mid × StaysFound owed mid store reading part)
      StaysFound owed m store reading (Ran (event.Remote u) answer ∷ part) = (mid : Machine) × (Step m (event.Remote u) answer mid × StaysFound owed mid store reading part)
      StaysFound owed m store reading (Ran event.Drain answer ∷ part) = (mid : Machine) × (Step m event.Drain answer mid × StaysFound owed mid store reading part)

  module _ (found : W → List ℕ → ℕ → Type 0) where
    -- The entries are the spawn of the main task, whose future comes last, and more. At each park among these, `found` holds
    -- of the shared value, each unfinished task, and each place at which its last turn left its future waiting.
    pub record FoundInCall (first : F) (store : Store F W) (old : Machine) (part : List Entry) : Type 0 where
      pub main : ℕ
      pub spawned : Machine
      pub more : List Entry
      pub spawn : IsSpawn main old part spawned more
      pub finds : (reading t : ℕ) (p : List ℕ) → StaysFound t p found ⊥ spawned (with_future store first) reading more

  -- At each park the shared value lists the task at p, and owes no wake.
  abbrev pub StaysListed : ℕ → List ℕ → Type 0 → Machine → Store F W → ℕ → List Entry → Type 0
  StaysListed t p owed m store reading part = StaysFound t p (ListsOwingNone sharing) owed m store reading part

  abbrev pub ListedInCall : F → Store F W → Machine → List Entry → Type 0
  ListedInCall first store old part = FoundInCall (ListsOwingNone sharing) first store old part

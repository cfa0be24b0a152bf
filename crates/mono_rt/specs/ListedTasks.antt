-- What each park of a call finds in the shared value: each task that waits there is listed still, and nothing is owed.
use Rattle.std.specs.Prelude.{⊤, ◌≡◌, ℕ, Bool, true, false, List, [], ◌∷◌, Option, Some, None}
use Rattle.mono_model.specs.Table.{value_at}
use Rattle.mono_model.specs.declared.Ended.{Ended}
use Rattle.mono_task.specs.Members.{FutureOf, SharedOf}
use Rattle.mono_machine.specs.Machine.{Machine}
use Rattle.mono_machine.specs.Steps.{Step, has_finished}
use Rattle.mono_machine.specs.History.{is_turn_of}
use Rattle.mono_machine.specs.declared.events.Event.TheVariants as event
use Rattle.mono_machine.specs.declared.events.TurnStep.{TurnStep}
use Rattle.mono_machine.specs.declared.events.End.{End}
use Rattle.mono_machine.specs.declared.events.End.TheVariants as end
use Rattle.mono_machine.specs.declared.events.Report.{Report}
use Rattle.mono_rt.specs.Rounds.{IsSpawn}
use Rattle.mono_rt.specs.Stores.{Store, with_future}
use Rattle.mono_rt.specs.Turns.{UnlessSpent, Runs}
use Rattle.mono_rt.specs.FuturePolls.{MakesNoTask, TellsTurnBy, PolledBy}
use Rattle.mono_rt.specs.declared.contexts.Cx.{Cx}
use Rattle.mono_rt.specs.declared.parts.journals.Entry.{Entry}
use Rattle.mono_rt.specs.declared.parts.journals.Entry.TheVariants.{Ran, Now, Park}

-- What is known after a turn: of its own task by this turn, and of each other task by what was known before.
abbrev pub KnownAfter : Bool → Type 0 → Type 0 → Type 0
KnownAfter true now before = now
KnownAfter false now before = before

module _ {F O P U W J A V : Type 0} (number : O → ℕ) (sharing : SharedOf W) (future : FutureOf F (Cx F O P U W J A V) O) where
  -- The context at the end of the poll. A future that is spent is not polled, and leaves the context as it was.
  abbrev pub left_unless_spent : (s : Bool) (t : ℕ) (f : F) (e : End) (ended : Ended) (c d : Cx F O P U W J A V) → UnlessSpent number sharing future s t f e ended c d → Cx F O P U W J A V
  left_unless_spent true t f e ended c d runs = c
  left_unless_spent false t f e ended c d runs = runs.middle

  abbrev pub left_by : (f : Option F) (t : ℕ) (e : End) (ended : Ended) (c d : Cx F O P U W J A V) → Runs number sharing future f t e ended c d → Cx F O P U W J A V
  left_by None t e ended c d runs = c
  left_by (Some f) t e ended c d runs = left_unless_spent (future.is_spent f) t f e ended c d runs

  module _ (has_timers lasts : Bool) where
    module _ (m : Machine) (store : Store F W) (reading : ℕ) (steps : List TurnStep) (e : End) (answer : Report) (left : Store F W) where
      -- The turn ended pending, and at the end of the poll the shared value listed the task at this place.
      abbrev pub LeavesListed : TellsTurnBy number sharing future has_timers lasts m store reading steps e answer left → List ℕ → ℕ → Type 0
      LeavesListed tells p t =
          (e ≡ end.Pending) × (sharing.lists (left_by (value_at tells.before.futures.items tells.task) tells.task e tells.ended tells.turn.begun tells.after tells.turn.runs).shared p t ≡ true)

    -- At each park among these entries, the shared value lists each unfinished task at each place where the task's last
    -- turn here left it listed. If there was a turn, nothing is owed. The first argument says where each task was left
    -- listed so far, and the second whether there was a turn.
    abbrev pub FindsListed : (List ℕ → ℕ → Type 0) → Type 0 → Machine → Store F W → ℕ → List Entry → Type 0
    FindsListed known paid m store reading [] = ⊤
    FindsListed known paid m store reading (Now n ∷ part) = FindsListed known paid m store n part
    FindsListed known paid m store reading (Park wait ∷ part) =
        ((p : List ℕ) (t : ℕ) → known p t → has_finished (value_at m.tasks.table t) ≡ false → sharing.lists store.shared p t ≡ true) × ((paid → sharing.owes store.shared ≡ []) × FindsListed known paid m store reading part)
    FindsListed known paid m store reading (Ran (event.Turn steps e) answer ∷ part) =
        (mid : Machine) × ((left : Store F W) × ((step : Step m (event.Turn steps e) answer mid) × ((tells : TellsTurnBy number sharing future has_timers lasts m store reading steps e answer left)
        × FindsListed (λ p t. KnownAfter (is_turn_of t answer) (LeavesListed m store reading steps e answer left tells p t) (known p t)) ⊤ mid left reading part)))
    FindsListed known paid m store reading (Ran (event.Act a) answer ∷ part) = (mid : Machine) × (MakesNoTask a × (Step m (event.Act a) answer mid × FindsListed known paid mid store reading part))
    FindsListed known paid m store reading (Ran (event.Clock n) answer ∷ part) = (mid : Machine) × (Step m (event.Clock n) answer mid × FindsListed known paid mid store reading part)
    FindsListed known paid m store reading (Ran (event.Remote t) answer ∷ part) = (mid : Machine) × (Step m (event.Remote t) answer mid × FindsListed known paid mid store reading part)
    FindsListed known paid m store reading (Ran event.Drain answer ∷ part) = (mid : Machine) × (Step m event.Drain answer mid × FindsListed known paid mid store reading part)

    -- The same for a part of a history that leaves this store, if all turns after it are polls. Of no task is it known
    -- first that it is listed.
    abbrev pub ParksListed : Store F W → Store F W → Machine → List Entry → Machine → List Entry → Type 0
    ParksListed store left old part new rest =
        ((reading : ℕ) → PolledBy number sharing future has_timers lasts new left reading rest) → (reading : ℕ) → FindsListed (λ p t. ⊥) ⊥ old store reading part

    -- The same after the main task was made with its future last.
    abbrev pub ParksListedMain : F → Store F W → Store F W → Machine → List Entry → Machine → List Entry → Type 0
    ParksListedMain main store left old part new rest =
        (t : ℕ) × ((mid : Machine) × ((more : List Entry) × (IsSpawn t old part mid more × ParksListed (with_future store main) left mid more new rest)))

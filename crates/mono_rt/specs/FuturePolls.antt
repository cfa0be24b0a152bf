-- How the futures and the shared value change along the entries of a history. Each turn is one poll of its task's own
-- future, at the reading before it, from the futures and the shared value that the turns before it left.
use Rattle.std.specs.Prelude.{⊤, ◌≡◌, ◌⊎◌, ℕ, Bool, true, false, List, [], ◌∷◌, Result, Ok, Err}
use Rattle.mono_task.specs.Members.{FutureOf, SharedOf}
use Rattle.mono_time.specs.declared.instant.Instant.{Instant}
use Rattle.mono_time.specs.Instants.{nanos_of}
use Rattle.mono_machine.specs.Machine.{Machine}
use Rattle.mono_machine.specs.Steps.{Step}
use Rattle.mono_machine.specs.declared.events.Act.{Act}
use Rattle.mono_machine.specs.declared.events.Act.TheVariants as act
use Rattle.mono_machine.specs.declared.events.Event.TheVariants as event
use Rattle.mono_machine.specs.declared.events.TurnStep.{TurnStep}
use Rattle.mono_machine.specs.declared.events.End.{End}
use Rattle.mono_machine.specs.declared.events.Report.{Report}
use Rattle.mono_machine.specs.declared.events.Report.TheVariants as report
use Rattle.mono_model.specs.declared.Ended.{Ended}
use Rattle.mono_rt.specs.Record.{no_acts}
use Rattle.mono_rt.specs.Journals.{Stays}
use Rattle.mono_rt.specs.Rounds.{IsSpawn}
use Rattle.mono_rt.specs.Refinement.{hosting_of, MatchesValid}
use Rattle.mono_rt.specs.Stores.{Store, with_future}
use Rattle.mono_rt.specs.Turns.{Turn}
use Rattle.mono_rt.specs.declared.contexts.Cx.{Cx}
use Rattle.mono_rt.specs.declared.parts.errors.RunError.{RunError}
use Rattle.mono_rt.specs.declared.parts.errors.RunError.TheVariants as error
use Rattle.mono_rt.specs.declared.parts.journals.Entry.{Entry}
use Rattle.mono_rt.specs.declared.parts.journals.Entry.TheVariants.{Ran, Now, Park}

-- the act makes no task
abbrev pub MakesNoTask : Act → Type 0
MakesNoTask act.Spawn = ⊥
MakesNoTask other = ⊤

-- No task is queued, and no wake waits in the inbox.
abbrev pub IsAtRest : Machine → Type 0
IsAtRest m = (m.tasks.queue ≡ []) × (m.inbox ≡ [])

-- A turn in which memory lasted, or any turn.
abbrev pub HasLasted : Bool → Bool → Type 0
HasLasted true has_run_out = has_run_out ≡ false
HasLasted false has_run_out = ⊤

module _ {F O P U W J A V : Type 0} (number : O → ℕ) (sharing : SharedOf W) (future : FutureOf F (Cx F O P U W J A V) O) (has_timers : Bool) where
  module _ (lasts : Bool) where
    -- A turn of the history, at this reading of the clock. The context before it refines the machine, which is valid, and has
    -- these futures and this shared value; the context after it has those that are left. The entry has each act of the turn. If
    -- `lasts` is true, no call of it ran out of memory.
    pub record TellsTurnBy (m : Machine) (store : Store F W) (reading : ℕ) (steps : List TurnStep) (e : End) (answer : Report) (left : Store F W) : Type 0 where
      pub task : ℕ
      pub now : Instant
      pub ended : Ended
      pub before : Cx F O P U W J A V
      pub after : Cx F O P U W J A V
      pub is_unread : Bool
      pub turn : Turn number sharing future task now (no_acts is_unread) e ended before after
      pub reads : nanos_of now ≡ reading
      pub stands : MatchesValid number hosting_of before.parts m
      pub timers : before.parts.has_timers ≡ has_timers
      pub had : before.futures.items ≡ store.futures
      pub has : after.futures.items ≡ left.futures
      pub found : before.shared ≡ store.shared
      pub leaves : after.shared ≡ left.shared
      pub memory : HasLasted lasts after.parts.is_out_of_memory
      pub acts : after.parts.acts.steps ≡ steps
      pub told : answer ≡ report.Turn task after.parts.acts.replies ended

    -- Each turn among these entries is one poll of its task's own future, from this store and this reading on. All other
    -- entries leave the store, and make no task. The driver is parked only while no task is queued and no wake waits in
    -- the inbox.
    abbrev pub PolledBy : Machine → Store F W → ℕ → List Entry → Type 0
    PolledBy m store reading [] = ⊤
    PolledBy m store reading (Now n ∷ part) = PolledBy m store n part
    PolledBy m store reading (Park wait ∷ part) = IsAtRest m × PolledBy m store reading part
    PolledBy m store reading (Ran (event.Turn steps e) answer ∷ part) =
        (mid : Machine) × ((left : Store F W) × (Step m (event.Turn steps e) answer mid × TellsTurnBy m store reading steps e answer left × PolledBy mid left reading part))
    PolledBy m store reading (Ran (event.Act a) answer ∷ part) = (mid : Machine) × (MakesNoTask a × Step m (event.Act a) answer mid × PolledBy mid store reading part)
    PolledBy m store reading (Ran (event.Clock n) answer ∷ part) = (mid : Machine) × (Step m (event.Clock n) answer mid × PolledBy mid store reading part)
    PolledBy m store reading (Ran (event.Remote t) answer ∷ part) = (mid : Machine) × (Step m (event.Remote t) answer mid × PolledBy mid store reading part)
    PolledBy m store reading (Ran event.Drain answer ∷ part) = (mid : Machine) × (Step m event.Drain answer mid × PolledBy mid store reading part)

    -- The same for a part of a history that leaves this store: if all turns after it are polls, so are all turns of
    -- the whole.
    abbrev pub PollingBy : Store F W → Store F W → Machine → List Entry → Machine → List Entry → Type 0
    PollingBy store left old part new rest = ((reading : ℕ) → PolledBy new left reading rest) → (reading : ℕ) → PolledBy old store reading part

    -- the main task is made with its future last; the entries after it leave this store
    abbrev pub PollsMainBy : F → Store F W → Store F W → Machine → List Entry → Machine → List Entry → Type 0
    PollsMainBy main store left old part new rest =
        (t : ℕ) × ((mid : Machine) × ((more : List Entry) × (IsSpawn t old part mid more × PollingBy (with_future store main) left mid more new rest)))

  -- The same, where no call of a turn ran out of memory.
  abbrev pub TellsTurn : Machine → Store F W → ℕ → List TurnStep → End → Report → Store F W → Type 0
  TellsTurn m store reading steps e answer left = TellsTurnBy true m store reading steps e answer left

  abbrev pub Polled : Machine → Store F W → ℕ → List Entry → Type 0
  Polled m store reading part = PolledBy true m store reading part

  abbrev pub Polling : Store F W → Store F W → Machine → List Entry → Machine → List Entry → Type 0
  Polling store left old part new rest = PollingBy true store left old part new rest

  abbrev pub PollsMain : F → Store F W → Store F W → Machine → List Entry → Machine → List Entry → Type 0
  PollsMain main store left old part new rest = PollsMainBy true main store left old part new rest

  -- Nothing was done, or the main task was made, and each turn is one poll, also one in which memory ran out.
  abbrev pub StillPollsMain : F → Store F W → Store F W → Machine → List Entry → Machine → List Entry → Type 0
  StillPollsMain main store left old part new rest = Stays old part new rest ⊎ PollsMainBy false main store left old part new rest

-- By the answer: a fact about a call that made its main task, unless it ran out of memory.
abbrev pub OnMain : {A : Type 0} → Result A RunError → Type 0 → Type 0
OnMain (Ok x) P = P
OnMain (Err error.Turns) P = P
OnMain (Err error.Driver) P = P
OnMain (Err error.AtCapacity) P = ⊤
OnMain (Err error.Memory) P = ⊤

-- Memory lasted, by the answer.
abbrev pub LastsBy : RunError → Type 0
LastsBy error.Memory = ⊥
LastsBy error.Turns = ⊤
LastsBy error.Driver = ⊤
LastsBy error.AtCapacity = ⊤

abbrev pub Lasts : {A : Type 0} → Result A RunError → Type 0
Lasts (Ok x) = ⊤
Lasts (Err e) = LastsBy e

-- By the answer: a fact about a call that ran out of memory.
abbrev pub OnLack : {A : Type 0} → Result A RunError → Type 0 → Type 0
OnLack (Ok x) P = ⊤
OnLack (Err error.Memory) P = P
OnLack (Err error.Turns) P = ⊤
OnLack (Err error.Driver) P = ⊤
OnLack (Err error.AtCapacity) P = ⊤

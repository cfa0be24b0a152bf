-- What each part of the loop keeps of a runtime. The parts are the turns, the rounds, the pauses between them, and the
-- whole of these.
use Rattle.std.specs.Prelude.{⊤, ◌≡◌, ◌⊎◌, ◌+◌, ◌++◌, ◌∷◌, [], ℕ, Bool, true, false, Some, None, Result, Ok, Err}
use Rattle.mono_model.specs.Table.{next_number}
use Rattle.mono_model.specs.Tasks.{spawned}
use Rattle.mono_task.specs.Members.{FutureOf, SharedOf}
use Rattle.mono_driver.specs.declared.clock.Clock
use Rattle.mono_rt.specs.Faults.{FaultsBy}
use Rattle.mono_rt.specs.FuturePolls.{Lasts}
use Rattle.mono_rt.specs.Outputs.{AddsNone}
use Rattle.mono_rt.specs.SpawnErrors.{HasPlace, OnCapacity, OnMemory}
use Rattle.mono_rt.specs.Journals.{Stays}
use Rattle.mono_rt.specs.Rounds.{IsSpawn, IsRefused}
use Rattle.mono_rt.specs.Views.{tasks_of, futures_of, turn_of, turns_begun, is_timed, shared_of, Rests, Grows, RaisesTurns, GivesNoMore, CanRun, LeadsShared, PollsItsFuturesBy, FillsJournal, HoldsSamePlaces, TellsDriver, ended_tasks, ClosesEnded}
use Rattle.mono_rt.specs.declared.contexts.Cx.{Cx}
use Rattle.mono_rt.specs.declared.runtimes.Runtime.{Runtime}
use Rattle.mono_rt.specs.declared.parts.errors.RunError.{RunError}
use Rattle.mono_rt.specs.declared.parts.errors.RunError.TheVariants as error

-- The answer of a part, without its value.
abbrev pub ending : {A : Type 0} → Result A RunError → Result ⊤ RunError
ending (Ok x) = Ok tt
ending (Err e) = Err e

-- The same of a part that fails only if memory runs out.
abbrev pub lasting : {A : Type 0} → Result A RunError → Result ⊤ RunError
lasting (Ok x) = Ok tt
lasting (Err e) = Err error.Memory

-- The answer of a turn, by whether memory ran out in it.
abbrev pub turn_answer : Bool → Result ⊤ RunError
turn_answer true = Err error.Memory
turn_answer false = Ok tt

module _ {F O D P W U J A V : Type 0} where
  -- No turn ran. The futures, the outputs and the shared value are as before.
  pub record Idles (old new : Runtime F O D P W U J A V) : Type 0 where
    pub has_timers : is_timed new ≡ is_timed old
    pub turn : turn_of new ≡ turn_of old
    pub turns : turns_begun new ≡ turns_begun old
    pub adds : AddsNone (tasks_of old) (tasks_of new)
    pub futures : new.cx.futures ≡ old.cx.futures
    pub shared : shared_of new ≡ shared_of old
    pub full : new.journal.is_full ≡ old.journal.is_full
    pub held : HoldsSamePlaces old new
    pub closes : ended_tasks new ≡ ended_tasks old

  -- The main task was made of this future, with this number. Room is held for the entry of its handle's drop.
  pub record MakesMain (number : O → ℕ) (future : F) (t : ℕ) (old new : Runtime F O D P W U J A V) : Type 0 where
    pub spawn : Grows number (IsSpawn t) old new
    pub is_next : t ≡ next_number (tasks_of old).table
    pub tasks : tasks_of new ≡ spawned (tasks_of old)
    pub futures : futures_of new ≡ futures_of old ++ Some future ∷ []
    pub held : new.journal.entries.held ≡ old.journal.entries.held + 1

  -- No main task was made, by the error. No future is reserved afterwards that was not before.
  pub record MakesNone (number : O → ℕ) (cause : RunError) (old new : Runtime F O D P W U J A V) : Type 0 where
    pub refused : OnCapacity cause (Grows number IsRefused old new)
    pub stays : OnMemory cause (Grows number Stays old new)
    pub tasks : tasks_of new ≡ tasks_of old
    pub futures : futures_of new ≡ futures_of old
    pub unkept : (new.cx.futures.reserved ≡ old.cx.futures.reserved) ⊎ (new.cx.futures.reserved ≡ None)
    pub held : HoldsSamePlaces old new

  module _ (number : O → ℕ) (sharing : SharedOf W) (clock : Clock.Ghosts D) (future : FutureOf F (Cx F O P U W J A V) O) where
    -- A part of the loop with this answer.
    pub record Proceeds (answer : Result ⊤ RunError) (old new : Runtime F O D P W U J A V) : Type 0 where
      pub has_timers : is_timed new ≡ is_timed old
      pub rests : Rests old → Rests new
      pub turns : RaisesTurns number old new
      pub answers : GivesNoMore future.gives old new
      pub callable : CanRun future old → CanRun future new
      pub shared : LeadsShared sharing.leads old new
      pub polled : (lasts : Bool) → (lasts ≡ true → Lasts answer) → PollsItsFuturesBy number sharing future lasts old new
      pub faults : FaultsBy answer (clock.faults old.driver) (clock.faults new.driver)
      pub told : TellsDriver answer clock old new
      pub full : FillsJournal number sharing future old new
      pub held : HoldsSamePlaces old new
      pub placed : HasPlace answer false
      pub closes : ClosesEnded number old new

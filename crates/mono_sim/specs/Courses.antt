-- How a runtime goes on in a world: by calls of `run_until` on its main task, and by nothing else.
use Rattle.std.specs.Prelude.{⊤, ◌≡◌, ◌<◌, ℕ, zero, suc, false, Result, OnOk}
use Rattle.mono_task.specs.Members.{FutureOf, SharedOf}
use Rattle.mono_task.specs.Work.{GivesOutput}
use Rattle.mono_driver.specs.declared.clock.Clock
use Rattle.mono_rt.specs.Rounds.{Ends}
use Rattle.mono_rt.specs.Faults.{FaultsBy}
use Rattle.mono_rt.specs.FuturePolls.{OnMain}
use Rattle.mono_rt.specs.Remains.{KeepsStrategy, HasRetired}
use Rattle.mono_rt.specs.Views.{tasks_of, is_timed, RaisesTurns, Grows, HoldsSamePlaces, LeadsShared, TellsDriver, PollsItsFutures, PollsItsFuturesBy, FindsTasksListed, FillsJournal, GivesNoMore}
use Rattle.mono_rt.specs.declared.contexts.Cx.{Cx}
use Rattle.mono_rt.specs.declared.runtimes.Runtime.{Runtime}
use Rattle.mono_rt.specs.declared.parts.errors.RunError.{RunError}

module _ {F O D P W U J A V : Type 0} (number : O → ℕ) (sharing : SharedOf W) (clock : Clock.Ghosts D) (future : FutureOf F (Cx F O P U W J A V) O) where
  -- One call of `run_until` on the main task, with this budget and this answer: each clause of it.
  pub record RunsOnce (main budget : ℕ) (answer : Result ⊤ RunError) (old new : Runtime F O D P W U J A V) : Type 0 where
    pub ends : Grows number (Ends (is_timed old) main budget answer) old new
    pub given : OnOk answer (GivesOutput (tasks_of new) main)
    pub answers : GivesNoMore future.gives old new
    pub shared : LeadsShared sharing.leads old new
    pub turns : RaisesTurns number old new
    pub polled : OnMain answer (PollsItsFutures number sharing future old new)
    pub still_polled : PollsItsFuturesBy number sharing future false old new
    pub listed : FindsTasksListed number sharing future false old new
    pub faults : FaultsBy answer (clock.faults old.driver) (clock.faults new.driver)
    pub told : TellsDriver answer clock old new
    pub full : FillsJournal number sharing future old new
    pub held : HoldsSamePlaces old new
    pub retired : HasRetired number old new
    pub strategy : KeepsStrategy number old new
    pub timers : is_timed new ≡ is_timed old

  -- The last of several such calls.
  pub record RunsLast (main : ℕ) (old new : Runtime F O D P W U J A V) : Type 0 where
    pub budget : ℕ
    pub some : 0 < budget
    pub answer : Result ⊤ RunError
    pub once : RunsOnce main budget answer old new

  -- So many such calls in sequence.
  abbrev pub Runs : ℕ → ℕ → Runtime F O D P W U J A V → Runtime F O D P W U J A V → Type 0
  Runs main zero old new = new ≡ old
  Runs main (suc n) old new = (mid : Runtime F O D P W U J A V) × (Runs main n old mid × RunsLast main mid new)

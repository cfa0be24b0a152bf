-- A turn of a task, as the parts see it.
use Rattle.std.specs.Prelude.{◌≡◌, ℕ, false, nat_lt, List, length, Ok}
use Rattle.mono_model.specs.declared.Ended.{Ended}
use Rattle.mono_model.specs.declared.poll.Poll.{Poll}
use Rattle.mono_task.specs.Schedule as schedule
use Rattle.mono_time.specs.declared.instant.Instant.{Instant}
use Rattle.mono_machine.specs.Machine.{Machine}
use Rattle.mono_machine.specs.Turns.{turn_report, after_turn}
use Rattle.mono_machine.specs.declared.events.TurnStep.{TurnStep}
use Rattle.mono_machine.specs.declared.events.End.{End}
use Rattle.mono_machine.specs.declared.events.Report.TheVariants as report
use Rattle.mono_time.specs.Timers.{registered_of}
use Rattle.mono_time.specs.Registrations.{registered_by_turn}
use Rattle.mono_blocking.specs.JobSpawns.{Seen}
use Rattle.mono_rt.specs.Record.{Record, room}
use Rattle.mono_rt.specs.Refinement.{hosting_of, Matches}
use Rattle.mono_rt.specs.declared.parts.state.Parts.{Parts}

module _ {O B : Type 0} where
  -- the task at the queue's front runs, at this reading of the clock, and its acts are kept in this record
  pub record BeginsParts (t : ℕ) (now : Instant) (acts : Record) (c d : Parts O B) : Type 0 where
    pub front : schedule.begin_answer c.tasks ≡ Ok t
    pub tasks : d.tasks ≡ schedule.after_begin c.tasks
    pub timers : d.timers ≡ c.timers
    pub has_timers : d.has_timers ≡ c.has_timers
    pub blocking : d.blocking ≡ c.blocking
    pub acts_are : d.acts ≡ acts
    pub me : d.me ≡ t
    pub now_is : d.now ≡ now

  -- the turn ends with this answer of its future
  pub record EndsParts (answer : Poll O) (ended : Ended) (c d : Parts O B) : Type 0 where
    pub told : ended ≡ schedule.end_answer c.tasks answer
    pub tasks : d.tasks ≡ schedule.after_end c.tasks answer
    pub timers : d.timers ≡ c.timers
    pub has_timers : d.has_timers ≡ c.has_timers
    pub blocking : d.blocking ≡ c.blocking
    pub acts : d.acts ≡ c.acts
    pub memory : d.is_out_of_memory ≡ c.is_out_of_memory

-- A turn of t is one of the machine, by the acts in its record, whose replies are the machine's. If the record began unfull,
-- it is full if and only if these are more than it has room for.
pub record IsTurnOf {O P : Type 0} (number : O → ℕ) (t : ℕ) (e : End) (ended : Ended) (c d : Parts O (Seen P)) (m : Machine) : Type 0 where
  pub steps : List TurnStep
  pub matches : Matches number hosting_of d (after_turn steps e m)
  pub registered : (s : ℕ) → registered_of d.timers s ≡ registered_by_turn m.tasks.queue steps m s (registered_of c.timers s)
  pub kept : (d.acts.steps ≡ steps) × (turn_report steps e m ≡ report.Turn t d.acts.replies ended)
  pub full : c.acts.is_full ≡ false → d.acts.is_full ≡ nat_lt room (length steps)

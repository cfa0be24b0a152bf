-- What the clauses of public calls read of a runtime and of a context.
use Rattle.std.specs.Prelude.{⊤, ◌≡◌, ◌^◌, ℕ, Bool, true, not, List, [], map, Option, None, Result}
use Rattle.mono_model.specs.Tasks.{Tasks, woken}
use Rattle.mono_model.specs.Table.{is_full}
use Rattle.mono_model.specs.declared.Woke.{Woke}
use Rattle.mono_model.specs.declared.task_error.TaskError.{TaskError}
use Rattle.mono_model.specs.declared.poll.Poll.{Poll}
use Rattle.mono_model.specs.declared.error.Error.{Error}
use Rattle.mono_model.specs.declared.error.SleepError.{SleepError}
use Rattle.mono_task.specs.Members.{FutureOf, SharedOf}
use Rattle.mono_task.specs.Work.{without_outputs}
use Rattle.mono_time.specs.Sleeps.{SleepTable}
use Rattle.mono_time.specs.Timers.{sleeps_of, registered_of}
use Rattle.mono_time.specs.Instants.{nanos_of}
use Rattle.mono_time.specs.declared.instant.Instant.{Instant}
use Rattle.mono_machine.specs.Machine.{Machine, start_machine}
use Rattle.mono_machine.specs.Steps.{Run}
use Rattle.mono_machine.specs.declared.events.Limits.{Limits}
use Rattle.mono_machine.specs.declared.events.Blocking.{Blocking}
use Rattle.mono_machine.specs.declared.events.Blocking.TheVariants as strategy
use Rattle.mono_blocking.specs.JobSpawns.{Seen}
use Rattle.mono_driver.specs.declared.clock.Clock
use Rattle.mono_rt.specs.CallActs.{noted_wake, noted_join, noted_drop, noted_sleep, lacks_sleep, noted_poll, noted_gone, noted_reset}
use Rattle.mono_rt.specs.Spawns.{noted_spawn, lacks_spawn, SpawnsTask}
use Rattle.mono_rt.specs.Handles.{PollsHandle, DropsHandle}
use Rattle.mono_rt.specs.TaskWaits.{row_of, task_waits}
use Rattle.mono_rt.specs.Rounds.{Blocked}
use Rattle.mono_rt.specs.TurnCounts.{CountsTurns}
use Rattle.mono_rt.specs.Numbering.{answer_numbered}
use Rattle.mono_rt.specs.declared.task_waits.TaskWait.{TaskWait}
use Rattle.mono_rt.specs.Refinement.{hosting_of, MatchesValid}
use Rattle.mono_rt.specs.Journals.{Does, Registers, events_in, reports_in}
use Rattle.mono_rt.specs.JournalRoom.{Fills}
use Rattle.mono_rt.specs.Stores.{Store, first_store, store_of}
use Rattle.mono_rt.specs.FuturePolls.{Polling, PollingBy, PollsMain, StillPollsMain, OnMain, OnLack}
use Rattle.mono_rt.specs.ListedTasks.{ParksListed, ParksListedMain}
use Rattle.mono_rt.specs.PossibleAnswers.{AnswersNoMore}
use Rattle.mono_rt.specs.Pollable.{CanTurn}
use Rattle.mono_rt.specs.DriverReadings.{Told, telling, TellingSo}
use Rattle.mono_rt.specs.EndedTasks.{closed_in, ListsEnded}
use Rattle.mono_rt.specs.Reaches.{IsAligned}
use Rattle.mono_rt.specs.declared.contexts.Cx.{Cx}
use Rattle.mono_rt.specs.declared.runtimes.Runtime.{Runtime}
use Rattle.mono_rt.specs.declared.parts.errors.RunError.{RunError}
use Rattle.mono_rt.specs.declared.parts.state.Parts.{Parts}
use Rattle.mono_rt.specs.declared.parts.journals.Entry.{Entry}
use Rattle.mono_rt.specs.declared.parts.journals.Journal.{Journal}
use Rattle.mono_task.specs.declared.error.SpawnRefused.{SpawnRefused}

-- What a driver exposes: its members, of one value.
abbrev pub exposed : {D : Type 0} → Clock.Ghosts D → D → Told
exposed clock d = telling (clock.readings d) (clock.time d) (clock.parks d) (clock.submits d) (clock.faults d) (clock.can_fail d)

-- The machine from which a runtime with the defaults starts.
abbrev pub default_start : Machine
default_start = start_machine (record { tasks = 2 ^ 20; jobs = 2 ^ 20; sleeps = 2 ^ 20 }) strategy.Panic

-- The whole history of a run from this machine, with this answer, is one that `Blocked` specifies.
abbrev pub BlocksFrom : {O : Type 0} → (O → ℕ) → ℕ → Machine → Result O RunError × Journal → Type 0
BlocksFrom number turns old done = (new : Machine) × Blocked true turns (answer_numbered number done.0) old done.1.history.entries new []

-- The whole history is a run of the machine.
abbrev pub IsRunFrom : Machine → Journal → Type 0
IsRunFrom old journal = (new : Machine) × Run old (events_in journal.history.entries) (reports_in journal.history.entries) new

-- Each park of the whole history is until the next expiration over the registered ticks, of which there are none first.
abbrev pub ParksFrom : Machine → Journal → Type 0
ParksFrom old journal = (new : Machine) × ((left : ℕ → Option ℕ) × Registers None old (λ s. None) journal.history.entries new left)

-- Each turn of the whole history of a run from this machine and this shared value, with this answer, is one poll of its
-- task's own future, after the main task was made with its future last. If memory ran out, nothing is said here.
abbrev pub PollsFrom : {F O P U W J A V : Type 0} → (O → ℕ) → SharedOf W → FutureOf F (Cx F O P U W J A V) O → F → Machine → W → Result O RunError × Journal → Type 0
PollsFrom {F} {W = W} number sharing future main old shared done =
    OnMain done.0 ((new : Machine) × ((left : Store F W) × PollsMain number sharing future true main (first_store shared) left old done.1.history.entries new []))

-- The same of a run that ended since memory ran out, also of the turn in which it did.
abbrev pub StillPollsFrom : {F O P U W J A V : Type 0} → (O → ℕ) → SharedOf W → FutureOf F (Cx F O P U W J A V) O → F → Machine → W → Result O RunError × Journal → Type 0
StillPollsFrom {F} {W = W} number sharing future main old shared done =
    OnLack done.0 ((new : Machine) × ((left : Store F W) × StillPollsMain number sharing future true main (first_store shared) left old done.1.history.entries new []))

module _ {F O D P W U J A V : Type 0} where
  -- The tasks of a runtime, with their queue.
  abbrev pub tasks_of : Runtime F O D P W U J A V → Tasks O
  tasks_of r = r.cx.parts.tasks.tasks

  -- The future of each task, by its number.
  abbrev pub futures_of : Runtime F O D P W U J A V → List (Option F)
  futures_of r = r.cx.futures.items

  -- The value that the tasks share.
  abbrev pub shared_of : Runtime F O D P W U J A V → W
  shared_of r = r.cx.shared

  -- The jobs, with their pool or strategy.
  abbrev pub jobs_of : Runtime F O D P W U J A V → Seen P
  jobs_of r = r.cx.parts.blocking

  -- Whether the runtime has timers.
  abbrev pub is_timed : Runtime F O D P W U J A V → Bool
  is_timed r = r.cx.parts.has_timers

  -- The registered tick of each sleep.
  abbrev pub registered_in : Runtime F O D P W U J A V → ℕ → Option ℕ
  registered_in r = registered_of r.cx.parts.timers

  -- The context, between two calls.
  abbrev pub context_of : Runtime F O D P W U J A V → Cx F O P U W J A V
  context_of r = r.cx

  -- The task whose turn runs, if one does.
  abbrev pub turn_of : Runtime F O D P W U J A V → Option ℕ
  turn_of r = r.cx.parts.tasks.turn

  -- How many turns have begun, at most 2^64 - 1.
  abbrev pub turns_begun : Runtime F O D P W U J A V → ℕ
  turns_begun r = r.cx.parts.tasks.turns

  -- No task's turn runs.
  abbrev pub Rests : Runtime F O D P W U J A V → Type 0
  Rests r = r.cx.parts.tasks.turn ≡ None

  -- The clock's last reading is 0, and no task had a turn.
  abbrev pub IsAtZero : Runtime F O D P W U J A V → Type 0
  IsAtZero r = (r.cx.parts.me ≡ 0) × (nanos_of r.cx.parts.now ≡ 0)

  -- The clock's last reading is this one, and no task had a turn.
  abbrev pub IsFirstAt : Instant → Runtime F O D P W U J A V → Type 0
  IsFirstAt start r = (r.cx.parts.me ≡ 0) × (r.cx.parts.now ≡ start)

  -- Each task's future stands under the task's number.
  abbrev pub HasOwnFutures : Runtime F O D P W U J A V → Type 0
  HasOwnFutures r = IsAligned r.cx

  -- Whether a spawn is refused: the tasks are as many as the limit, or the numbers are used up.
  abbrev pub is_at_limit : Runtime F O D P W U J A V → Bool
  is_at_limit r = is_full r.cx.parts.tasks.tasks.table r.cx.parts.tasks.tasks.limit

  -- The runtime refines this machine, which is valid.
  abbrev pub Refines : (O → ℕ) → Runtime F O D P W U J A V → Machine → Type 0
  Refines number r m = MatchesValid number hosting_of r.cx.parts m

  -- The history grew by entries in this relation, from each machine that the runtime refined.
  abbrev pub Grows : (O → ℕ) → (Machine → List Entry → Machine → List Entry → Type 0) → Runtime F O D P W U J A V → Runtime F O D P W U J A V → Type 0
  Grows number R old new = Does number R old.cx.parts new.cx.parts old.journal new.journal

  -- The count of turns rose by the turns by which the history grew.
  abbrev pub RaisesTurns : (O → ℕ) → Runtime F O D P W U J A V → Runtime F O D P W U J A V → Type 0
  RaisesTurns number old new = Grows number (CountsTurns (turns_begun old) (turns_begun new)) old new

  -- The tasks that ended, in order: those that were made unknown to the inbox, and those that wait for it.
  abbrev pub ended_tasks : Runtime F O D P W U J A V → List ℕ
  ended_tasks r = closed_in r.cx.wakers.retired.entries r.cx.wakers.ended.items

  -- The tasks that ended grew by those whose turns ended ready among the entries by which the history grew.
  abbrev pub ClosesEnded : (O → ℕ) → Runtime F O D P W U J A V → Runtime F O D P W U J A V → Type 0
  ClosesEnded number old new = Grows number (ListsEnded (ended_tasks old) (ended_tasks new)) old new

  -- The history grew by what `Blocked` specifies for this answer, and the answer's number is that of its output.
  abbrev pub Blocks : (O → ℕ) → ℕ → Result O RunError → Runtime F O D P W U J A V → Runtime F O D P W U J A V → Type 0
  Blocks number turns answer old new = Grows number (Blocked (is_timed old) turns (answer_numbered number answer)) old new

  -- The runtime refines the start machine with these limits and this strategy.
  abbrev pub RefinesStart : (O → ℕ) → Limits → Blocking → Runtime F O D P W U J A V → Type 0
  RefinesStart number limits strategy r = Refines number r (start_machine limits strategy)

  -- The journal has no entry, and is full from the start unless it is kept.
  abbrev pub HasNewJournal : Bool → Runtime F O D P W U J A V → Type 0
  HasNewJournal is_kept r = (r.journal.entries.items ≡ []) × (r.journal.is_full ≡ not is_kept)

  -- For each machine that the runtime refined, the call is the machine's, and the runtime refines the machine after it.
  abbrev pub PollsHandleOf : (O → ℕ) → ℕ → Result (Poll O) TaskError → Runtime F O D P W U J A V → Runtime F O D P W U J A V → Type 0
  PollsHandleOf number t answer old new = (m : Machine) → Refines number old m → PollsHandle number m t answer (Refines number new)

  abbrev pub DropsHandleOf : (O → ℕ) → ℕ → Result (Option O) TaskError → Runtime F O D P W U J A V → Runtime F O D P W U J A V → Type 0
  DropsHandleOf number t answer old new = (m : Machine) → Refines number old m → DropsHandle number m t answer (Refines number new)

  abbrev pub SpawnsOne : (O → ℕ) → Result ℕ (SpawnRefused F) → Runtime F O D P W U J A V → Runtime F O D P W U J A V → Type 0
  SpawnsOne number answer old new = (m : Machine) → Refines number old m → SpawnsTask m answer (Refines number new)

  -- The rows are those of each machine that the runtime refines.
  abbrev pub ListsWaits : (O → ℕ) → List TaskWait → Runtime F O D P W U J A V → Type 0
  ListsWaits number rows r = (m : Machine) → Refines number r m → map row_of rows ≡ task_waits m

  -- Nothing but the tasks changed.
  abbrev pub ChangesTasks : Runtime F O D P W U J A V → Runtime F O D P W U J A V → Type 0
  ChangesTasks old new = new ≡ record old { cx = record old.cx { parts = record old.cx.parts { tasks = record old.cx.parts.tasks { tasks = new.cx.parts.tasks.tasks } } } }

  -- The tasks, the sleeps, the jobs and the futures are as before.
  abbrev pub KeepsTasks : Runtime F O D P W U J A V → Runtime F O D P W U J A V → Type 0
  KeepsTasks old new = (new.cx.parts ≡ old.cx.parts) × (new.cx.futures.items ≡ old.cx.futures.items)

  -- The journal holds as many places for entries to come as before.
  abbrev pub HoldsSamePlaces : Runtime F O D P W U J A V → Runtime F O D P W U J A V → Type 0
  HoldsSamePlaces old new = new.journal.entries.held ≡ old.journal.entries.held

  -- No task may answer more than before.
  abbrev pub GivesNoMore : (F → O → Type 0) → Runtime F O D P W U J A V → Runtime F O D P W U J A V → Type 0
  GivesNoMore gives old new = AnswersNoMore gives old.cx new.cx

  -- Each future of the runtime can be polled, and so can each that its turns spawn.
  abbrev pub CanRun : FutureOf F (Cx F O P U W J A V) O → Runtime F O D P W U J A V → Type 0
  CanRun future r = CanTurn future r.cx

  -- The shared value was led.
  abbrev pub LeadsShared : (W → W → Type 0) → Runtime F O D P W U J A V → Runtime F O D P W U J A V → Type 0
  LeadsShared leads old new = leads old.cx.shared new.cx.shared

  -- The readings, parks and submits by which the history grew are the driver's, in a call with this answer.
  abbrev pub TellsDriver : {X : Type 0} → Result X RunError → Clock.Ghosts D → Runtime F O D P W U J A V → Runtime F O D P W U J A V → Type 0
  TellsDriver answer clock old new = TellingSo answer (exposed clock old.driver) old.journal new.journal (exposed clock new.driver)

  module _ (number : O → ℕ) (sharing : SharedOf W) (future : FutureOf F (Cx F O P U W J A V) O) where
    -- Each turn by which the history grew is one poll of its task's own future.
    abbrev pub PollsItsFutures : Runtime F O D P W U J A V → Runtime F O D P W U J A V → Type 0
    PollsItsFutures old new = Grows number (Polling number sharing future (is_timed old) (store_of old.cx) (store_of new.cx)) old new

    -- The same, and whether no call of a turn ran out of memory.
    abbrev pub PollsItsFuturesBy : Bool → Runtime F O D P W U J A V → Runtime F O D P W U J A V → Type 0
    PollsItsFuturesBy lasts old new = Grows number (PollingBy number sharing future (is_timed old) lasts (store_of old.cx) (store_of new.cx)) old new

    -- The same, after the main task was made with its future last.
    abbrev pub PollsMainTask : F → Runtime F O D P W U J A V → Runtime F O D P W U J A V → Type 0
    PollsMainTask main old new = Grows number (PollsMain number sharing future (is_timed old) main (store_of old.cx) (store_of new.cx)) old new

    -- The same of a call that ended since memory ran out, also of the turn in which it did.
    abbrev pub StillPollsMainTask : F → Runtime F O D P W U J A V → Runtime F O D P W U J A V → Type 0
    StillPollsMainTask main old new = Grows number (StillPollsMain number sharing future (is_timed old) main (store_of old.cx) (store_of new.cx)) old new

    -- At each park of the call, the shared value lists each unfinished task where the task's last turn of the call left
    -- it listed, and owes nothing if there was a turn. If `lasts` is true, no call of a turn ran out of memory.
    abbrev pub FindsTasksListed : Bool → Runtime F O D P W U J A V → Runtime F O D P W U J A V → Type 0
    FindsTasksListed lasts old new = Grows number (ParksListed number sharing future (is_timed old) lasts (store_of old.cx) (store_of new.cx)) old new

    -- The same, after the main task was made with its future last.
    abbrev pub FindsTasksListedMain : F → Runtime F O D P W U J A V → Runtime F O D P W U J A V → Type 0
    FindsTasksListedMain main old new = Grows number (ParksListedMain number sharing future (is_timed old) true main (store_of old.cx) (store_of new.cx)) old new

    -- The journal is full only if it was before, or a turn made more acts than its record has room for. A full one stays
    -- full.
    abbrev pub FillsJournal : Runtime F O D P W U J A V → Runtime F O D P W U J A V → Type 0
    FillsJournal old new = Fills number sharing future old.cx old.journal new.journal

module _ {F O P U W J A V : Type 0} where
  -- The tasks of a context, with their queue.
  abbrev pub tasks_in : Cx F O P U W J A V → Tasks O
  tasks_in c = c.parts.tasks.tasks

  -- The tasks and the queue, without the outputs.
  abbrev pub work_in : Cx F O P U W J A V → Tasks ⊤
  work_in c = without_outputs c.parts.tasks.tasks

  abbrev pub sleeps_in : Cx F O P U W J A V → SleepTable
  sleeps_in c = sleeps_of c.parts.timers

  -- The future of each task, by its number.
  abbrev pub futures_in : Cx F O P U W J A V → List (Option F)
  futures_in c = c.futures.items

  -- The task whose turn runs.
  abbrev pub running_in : Cx F O P U W J A V → ℕ
  running_in c = c.parts.me

  -- An allocation of the turn failed.
  abbrev pub LacksMemory : Cx F O P U W J A V → Type 0
  LacksMemory c = c.parts.is_out_of_memory ≡ true

  -- The task is woken, and the sleeps and the shared value are as before.
  abbrev pub WakesAlone : ℕ → Cx F O P U W J A V → Cx F O P U W J A V → Type 0
  WakesAlone t c d = (d.parts.tasks.tasks ≡ woken c.parts.tasks.tasks t) × (d.parts.timers ≡ c.parts.timers) × (d.shared ≡ c.shared)

  -- The relation holds of all but the futures, the wakers and the shared value, which are as before.
  abbrev pub OnParts : (Parts O (Seen P) → Parts O (Seen P) → Type 0) → Cx F O P U W J A V → Cx F O P U W J A V → Type 0
  OnParts R c d = R c.parts d.parts

  abbrev pub ChangesParts : Cx F O P U W J A V → Cx F O P U W J A V → Type 0
  ChangesParts c d = d ≡ record c { parts = d.parts }

  -- The tasks are as before.
  abbrev pub KeepsWork : Cx F O P U W J A V → Cx F O P U W J A V → Type 0
  KeepsWork c d = d.parts.tasks ≡ c.parts.tasks

  -- Nothing but the tasks and the record of the turn changed, which has this call now; the flag of an allocation that
  -- failed is set if this one failed.
  abbrev pub NotesSpawn : Result ℕ (SpawnRefused F) → Cx F O P U W J A V → Cx F O P U W J A V → Type 0
  NotesSpawn answer c d = d.parts ≡ record c.parts { tasks = d.parts.tasks; acts = noted_spawn c.parts.acts answer; is_out_of_memory = lacks_spawn c.parts.is_out_of_memory answer }

  abbrev pub NotesWake : ℕ → Result Woke TaskError → Cx F O P U W J A V → Cx F O P U W J A V → Type 0
  NotesWake t answer c d = d ≡ record c { parts = record c.parts { tasks = d.parts.tasks; acts = noted_wake c.parts.acts t answer } }

  abbrev pub NotesJoin : (O → ℕ) → ℕ → Result (Poll O) TaskError → Cx F O P U W J A V → Cx F O P U W J A V → Type 0
  NotesJoin number t answer c d = d ≡ record c { parts = record c.parts { tasks = d.parts.tasks; acts = noted_join number c.parts.acts t answer } }

  abbrev pub NotesDrop : (O → ℕ) → ℕ → Result (Option O) TaskError → Cx F O P U W J A V → Cx F O P U W J A V → Type 0
  NotesDrop number t answer c d = d ≡ record c { parts = record c.parts { tasks = d.parts.tasks; acts = noted_drop number c.parts.acts t answer } }

  -- Nothing but the sleeps and the record of the turn changed, which has this call now.
  abbrev pub NotesSleep : ℕ → Result ℕ SleepError → Cx F O P U W J A V → Cx F O P U W J A V → Type 0
  NotesSleep nanos answer c d = d ≡ record c { parts = record c.parts { timers = d.parts.timers; acts = noted_sleep c.parts.acts nanos answer; is_out_of_memory = lacks_sleep c.parts.is_out_of_memory answer } }

  abbrev pub NotesPoll : ℕ → Result (Poll ⊤) Error → Cx F O P U W J A V → Cx F O P U W J A V → Type 0
  NotesPoll s answer c d = d ≡ record c { parts = record c.parts { timers = d.parts.timers; acts = noted_poll c.parts.acts s answer } }

  abbrev pub NotesGone : ℕ → Result ⊤ Error → Cx F O P U W J A V → Cx F O P U W J A V → Type 0
  NotesGone s answer c d = d ≡ record c { parts = record c.parts { timers = d.parts.timers; acts = noted_gone c.parts.acts s answer } }

  -- A reset may wake a task, too.
  abbrev pub NotesReset : ℕ → ℕ → Result ⊤ Error → Cx F O P U W J A V → Cx F O P U W J A V → Type 0
  NotesReset s nanos answer c d = d ≡ record c { parts = record c.parts { tasks = d.parts.tasks; timers = d.parts.timers; acts = noted_reset c.parts.acts (sleeps_of c.parts.timers).greatest s nanos answer } }

-- The tasks that were taken under the lock of the inbox: one wake from outside for each, and the drain.
use Rattle.std.specs.Prelude.{◌≡◌, ◌≤◌, ℕ, ◌+◌, Bool, true, false, List, [], ◌∷◌, ◌++◌, Result, Ok, Err, length, vec_len, vec_capacity}
use Rattle.mono_inbox.specs.State.{HasNoDoubles}
use Rattle.mono_model.specs.Tasks.{Tasks}
use Rattle.mono_model.specs.declared.task_error.TaskError.{TaskError}
use Rattle.mono_task.specs.Work.{over_answer}
use Rattle.mono_machine.specs.declared.events.Event.TheVariants as event
use Rattle.mono_machine.specs.declared.events.Refusal.TheVariants as refusal
use Rattle.mono_machine.specs.declared.events.Reply.TheVariants as reply
use Rattle.mono_machine.specs.declared.events.Report.{Report}
use Rattle.mono_machine.specs.declared.events.Report.TheVariants as report
use Rattle.mono_machine.specs.Machine.{Machine}
use Rattle.mono_blocking.specs.JobSpawns.{Seen}
use Rattle.mono_rt.specs.Journals.{Does, HasPlaces}
use Rattle.mono_rt.specs.Rounds.{Drained}
use Rattle.mono_rt.specs.declared.parts.state.Parts.{Parts}
use Rattle.mono_rt.specs.declared.parts.takes.Taken.{Taken}
use Rattle.mono_rt.specs.declared.parts.journals.Journal.{Journal}
use Rattle.mono_rt.specs.declared.parts.journals.Entry.{Entry}
use Rattle.mono_rt.specs.declared.parts.journals.Entry.TheVariants.{Ran}

-- the report of the wake, by whether the task has finished
abbrev pub told_by : Result Bool TaskError → Report
told_by (Ok true) = report.Unlisted
told_by (Ok false) = report.Listed
told_by (Err e) = report.Reply (reply.Refused refusal.NoTask)

-- the task, if it was given out and is unfinished
abbrev pub listed_by : Result Bool TaskError → ℕ → List ℕ
listed_by (Ok true) t = []
listed_by (Ok false) t = t ∷ []
listed_by (Err e) t = []

abbrev pub remotes : {O : Type 0} → Tasks O → List ℕ → List Entry
remotes tasks [] = []
remotes tasks (t ∷ ts) = Ran (event.Remote t) (told_by (over_answer tasks t)) ∷ remotes tasks ts

-- the listed tasks, in order
abbrev pub listed : {O : Type 0} → Tasks O → List ℕ → List ℕ
listed tasks [] = []
listed tasks (t ∷ ts) = listed_by (over_answer tasks t) t ++ listed tasks ts

-- the entry of the drain itself
abbrev pub drain_of : List ℕ → Entry
drain_of ts = Ran event.Drain (report.Drained ts)

-- The tasks that were taken stand once each, and there is room for their wakes, and for an entry for each and one more.
pub record IsReady (taken : Taken) (journal : Journal) : Type 0 where
  pub distinct : HasNoDoubles taken.tasks.items
  pub places : HasPlaces journal (length taken.tasks.items + 1)
  pub room : vec_len taken.woken + length taken.tasks.items ≤ vec_capacity taken.woken
  pub empty : taken.woken.items ≡ []

-- the inbox is drained, and exactly these tasks are taken
abbrev pub DrainsAll : List ℕ → Machine → List Entry → Machine → List Entry → Type 0
DrainsAll ts old part new rest = (is : Drained old part new rest) × (is.taken ≡ ts)

-- One more list was taken from the inbox, and exactly its tasks were woken, in order.
abbrev pub WakesTaken : {O P : Type 0} → (O → ℕ) → Parts O (Seen P) → Parts O (Seen P) → Journal → Journal → List (List ℕ) → List (List ℕ) → Type 0
WakesTaken number c d j k before after = (ts : List ℕ) × ((after ≡ before ++ ts ∷ []) × Does number (DrainsAll ts) c d j k)

-- The parts match a machine with other tasks or another inbox.
use Rattle.std.proofs.Common.{◌≡◌, ◌<◌, inl, inr, ℕ, ◌+◌, true, false, Bool, cond, List, [], ◌∷◌, length, get_or, drop, Some, None, refl, ap, sym, subst, ◌∙◌}
use Rattle.std.specs.Prelude.{not, ◌==◌, ◌&&◌, ◌||◌, Result, Ok}
use Rattle.std.proofs.lemmas.Bool.{cases_lt, lt-ltb}
use Rattle.std.proofs.lemmas.List.{get_or_past}
use Rattle.mono_model.specs.Table.{Table, value_at, next_number, is_issued}
use Rattle.mono_model.specs.Tasks.{Tasks, Task, spawned, completed_value, paused_value, begun, woken, all_woken}
use Rattle.mono_model.specs.Inbox.{is_waiting, with_waiting}
use Rattle.mono_model.specs.declared.poll.Poll.TheVariants.{Ready, Pending}
use Rattle.mono_model.specs.declared.task_error.TaskError.{TaskError}
use Rattle.mono_replay.specs.TaskInbox.{TaskList, is_unlisted, after_put, with_list, AlsoKnows, Forgets}
use Rattle.mono_task.specs.Schedule.{Schedule}
use Rattle.mono_task.specs.Schedule as schedule
use Rattle.mono_machine.specs.Machine.{Machine, with_tasks, with_inbox, IsValid}
use Rattle.mono_machine.specs.Turns.{after_begin, turn_report, after_turn}
use Rattle.mono_machine.specs.Steps.{has_finished, remote_report, after_remote, after_drain, ClockStep, Step}
use Rattle.mono_machine.specs.Acts.{act_outcome}
use Rattle.mono_replay.specs.PartRefinement.{Matches}
use Rattle.mono_replay.specs.Refinement.{Stands}
use Rattle.mono_replay.specs.declared.parts.Parts.{Parts}
use Rattle.mono_replay.specs.declared.executor.Exec.{Exec}
use Rattle.mono_machine.specs.declared.events.Act.{Act}
use Rattle.mono_machine.specs.declared.events.TurnStep.{TurnStep}
use Rattle.mono_machine.specs.declared.events.End.{End}
use Rattle.mono_machine.specs.declared.events.Event.TheVariants as event
use Rattle.mono_machine.specs.declared.events.Report.{Report}
use Rattle.mono_machine.specs.declared.events.Report.TheVariants as report
use Rattle.mono_machine.proofs.ValidStepLemmas.{step_is_valid}
use Rattle.mono_machine.proofs.FinishedSetLemmas.{Alike, alike_begun, finished-spawned, finished-completed}
use Rattle.mono_machine.proofs.RunLemmas.{first_and_rest}

abbrev pub with_schedule : Parts → Schedule ℕ → Parts
with_schedule parts s = record { tasks = s; timers = parts.timers; jobs = parts.jobs; inbox = parts.inbox; blocking = parts.blocking }

abbrev pub with_both : Parts → Schedule ℕ → TaskList → Parts
with_both parts s inbox = record { tasks = s; timers = parts.timers; jobs = parts.jobs; inbox = inbox; blocking = parts.blocking }

-- the same tasks have finished
pub other_tasks : (parts : Parts) (m : Machine) (s : Schedule ℕ) (tasks : Tasks ℕ) → Matches parts m → s.tasks ≡ tasks → Alike tasks m.tasks → Matches (with_schedule parts s) (with_tasks m tasks)
other_tasks parts m s tasks st is alike = record {
  tasks = is;
  sleeps = st.sleeps;
  jobs = st.jobs;
  inbox = st.inbox;
  known = λ t. st.known t ∙ ap not (sym (alike t));
  strategy = st.strategy;
}

-- the tasks are changed by f
pub changed : (parts : Parts) (m : Machine) (s : Schedule ℕ) (f : Tasks ℕ → Tasks ℕ) → Matches parts m → s ≡ schedule.with_tasks parts.tasks (f parts.tasks.tasks) → Alike (f m.tasks) m.tasks → Matches (with_schedule parts s) (with_tasks m (f m.tasks))
changed parts m s f st is alike = other_tasks parts m s (f m.tasks) st (ap (λ x. x.tasks) is ∙ ap f st.tasks) alike

also_unfinished : (b f : Bool) → (b || not f) ≡ not (not b && f)
also_unfinished true f = refl
also_unfinished false f = refl

-- one more task, which the inbox knows
pub spawned_and_known : (parts : Parts) (m : Machine) (s : Schedule ℕ) (inbox : TaskList) (t : ℕ) → Matches parts m → s.tasks ≡ spawned m.tasks → t ≡ next_number m.tasks.table → AlsoKnows parts.inbox inbox t → Matches (with_both parts s inbox) (with_tasks m (spawned m.tasks))
spawned_and_known parts m s inbox t st is at knows = record {
  tasks = is;
  sleeps = st.sleeps;
  jobs = st.jobs;
  inbox = knows.waiting ∙ st.inbox;
  known = λ q. knows.known q ∙ ap (λ b. (q == t) || b) (st.known q) ∙ ap (λ n. (q == n) || not (has_finished (value_at m.tasks.table q))) at
      ∙ also_unfinished (q == next_number m.tasks.table) (has_finished (value_at m.tasks.table q)) ∙ ap not (sym (finished-spawned m.tasks q));
  strategy = st.strategy;
}

but_unfinished : (b f : Bool) → (not b && not f) ≡ not (b || f)
but_unfinished true f = refl
but_unfinished false f = refl

-- the task has finished, and the inbox forgets it
pub completed_and_forgotten : (parts : Parts) (m : Machine) (s : Schedule ℕ) (inbox : TaskList) (me output : ℕ) → Matches parts m → s.tasks ≡ completed_value (value_at m.tasks.table me) m.tasks me output → Forgets parts.inbox inbox me
    → Matches (with_both parts s inbox) (with_tasks m (completed_value (value_at m.tasks.table me) m.tasks me output))
completed_and_forgotten parts m s inbox me output st is forgets = record {
  tasks = is;
  sleeps = st.sleeps;
  jobs = st.jobs;
  inbox = forgets.waiting ∙ st.inbox;
  known = λ q. forgets.known q ∙ ap (λ b. not (q == me) && b) (st.known q) ∙ but_unfinished (q == me) (has_finished (value_at m.tasks.table q)) ∙ ap not (sym (finished-completed me m.tasks output q));
  strategy = st.strategy;
}

-- the tasks that are left at the end of a turn
pub ended-ready : (s : Schedule ℕ) (me output : ℕ) → s.turn ≡ Some me → (schedule.after_end s (Ready output)).tasks ≡ completed_value (value_at s.tasks.table me) s.tasks me output
ended-ready s me output is = ap (λ turn. (schedule.ended_by turn s (Ready output)).tasks) is

pub ended-pending : (s : Schedule ℕ) (me : ℕ) → s.turn ≡ Some me → (schedule.after_end s Pending).tasks ≡ paused_value (value_at s.tasks.table me) s.tasks me
ended-pending s me is = ap (λ turn. (schedule.ended_by turn s Pending).tasks) is

-- another inbox
abbrev pub with_state : Parts → TaskList → Parts
with_state parts inbox = record { tasks = parts.tasks; timers = parts.timers; jobs = parts.jobs; inbox = inbox; blocking = parts.blocking }

never_there : (table : Table (Task ℕ)) (t : ℕ) → is_issued table t ≡ false → value_at table t ≡ None
never_there table t is = elim (cases_lt t (length table)) [
  | inl inside ↦ absurd (true-false (sym (lt-ltb t (length table) inside) ∙ is))
  | inr past ↦ get_or_past table t None past
]
  where
    true-false : true ≡ false → ⊥
    true-false e = cc

-- a wake that is not listed changes nothing, even if the task was never given out
abbrev put : Bool → Machine → ℕ → Machine
put b m t = cond b m (with_inbox m (with_waiting m.inbox t))

remote-put : (m : Machine) (t : ℕ) → after_remote m t ≡ put (has_finished (value_at m.tasks.table t) || is_waiting m.inbox t) m t
remote-put m t = by_test (is_issued m.tasks.table t) refl
  where
    by_test : (b : Bool) → is_issued m.tasks.table t ≡ b → cond b (put (has_finished (value_at m.tasks.table t) || is_waiting m.inbox t) m t) m ≡ put (has_finished (value_at m.tasks.table t) || is_waiting m.inbox t) m t
    by_test true is = refl
    by_test false is = sym (ap (λ v. put (has_finished v || is_waiting m.inbox t) m t) (never_there m.tasks.table t is))

not_not : (b : Bool) → not (not b) ≡ b
not_not true = refl
not_not false = refl

pub unlisted : (parts : Parts) (m : Machine) (t : ℕ) → Matches parts m → is_unlisted parts.inbox t ≡ (has_finished (value_at m.tasks.table t) || is_waiting m.inbox t)
unlisted parts m t st = ap (λ b. not b || is_waiting parts.inbox.waiting t) (st.known t) ∙ ap (λ b. b || is_waiting parts.inbox.waiting t) (not_not (has_finished (value_at m.tasks.table t)))
    ∙ ap (λ w. has_finished (value_at m.tasks.table t) || is_waiting w t) st.inbox

listed_by : (b : Bool) (parts : Parts) (m : Machine) (t : ℕ) → Matches parts m → Matches (with_state parts (cond b parts.inbox (with_list parts.inbox (with_waiting parts.inbox.waiting t)))) (put b m t)
listed_by true parts m t st = record {
  tasks = st.tasks;
  sleeps = st.sleeps;
  jobs = st.jobs;
  inbox = st.inbox;
  known = st.known;
  strategy = st.strategy;
}
listed_by false parts m t st = record {
  tasks = st.tasks;
  sleeps = st.sleeps;
  jobs = st.jobs;
  inbox = ap (λ w. with_waiting w t) st.inbox;
  known = st.known;
  strategy = st.strategy;
}

pub remote_put : (parts : Parts) (m : Machine) (t : ℕ) (inbox : TaskList) → Matches parts m → inbox ≡ after_put parts.inbox t → Matches (with_state parts inbox) (after_remote m t)
remote_put parts m t inbox st is =
    subst (λ x. Matches (with_state parts x) (after_remote m t)) (sym is)
    (subst (Matches (with_state parts (after_put parts.inbox t))) (sym (remote-put m t))
    (subst (λ b. Matches (with_state parts (after_put parts.inbox t)) (put b m t)) (unlisted parts m t st) (listed_by (is_unlisted parts.inbox t) parts m t st)))

-- a turn begins
pub begun_matches : (parts : Parts) (m : Machine) (s : Schedule ℕ) (me : ℕ) (rest : List ℕ) → Matches parts m → IsValid m → m.tasks.queue ≡ me ∷ rest → s ≡ schedule.after_begin parts.tasks → Matches (with_schedule parts s) (after_begin me rest m)
begun_matches parts m s me rest st valid queue is =
    let begins : s.tasks ≡ begun parts.tasks.tasks me rest = ap (λ x. x.tasks) is ∙ ap (λ q. (schedule.begun_by q parts.tasks).tasks) (ap (λ x. x.queue) st.tasks ∙ queue) in
    other_tasks parts m s (begun m.tasks me rest) st (begins ∙ ap (λ x. begun x me rest) st.tasks) (alike_begun m.tasks me rest queue valid.tasks)

-- the executor refines the machine that a step leaves
pub act_done : (exec : Exec) (m : Machine) (a : Act) (answer : Report) → IsValid m → answer ≡ report.Reply (act_outcome a m).reply → Matches exec.parts (act_outcome a m).machine → (left : Machine) × Step m (event.Act a) answer left × Stands exec left
act_done exec m a answer valid is st = (_, (is, refl), record { matches = st; valid = step_is_valid m (event.Act a) answer _ valid (is, refl) })

pub turn_done : (exec : Exec) (m : Machine) (steps : List TurnStep) (end : End) (answer : Report) → IsValid m → answer ≡ turn_report steps end m → Matches exec.parts (after_turn steps end m) → (left : Machine) × Step m (event.Turn steps end) answer left × Stands exec left
turn_done exec m steps end answer valid is st = (_, (is, refl), record { matches = st; valid = step_is_valid m (event.Turn steps end) answer _ valid (is, refl) })

pub clock_done : (exec : Exec) (m : Machine) (n : ℕ) (answer : Report) → IsValid m → (left : Machine) × ClockStep m n answer left × Matches exec.parts left → (left : Machine) × Step m (event.Clock n) answer left × Stands exec left
clock_done exec m n answer valid (left, step, st) = (left, step, record { matches = st; valid = step_is_valid m (event.Clock n) answer left valid step })

pub remote_done : (exec : Exec) (m : Machine) (t : ℕ) (answer : Report) → IsValid m → answer ≡ remote_report m t → Matches exec.parts (after_remote m t) → (left : Machine) × Step m (event.Remote t) answer left × Stands exec left
remote_done exec m t answer valid is st = (_, (is, refl), record { matches = st; valid = step_is_valid m (event.Remote t) answer _ valid (is, refl) })

pub drain_done : (exec : Exec) (m : Machine) (answer : Report) → IsValid m → answer ≡ report.Drained m.inbox → Matches exec.parts (after_drain m) → (left : Machine) × Step m event.Drain answer left × Stands exec left
drain_done exec m answer valid is st = (_, (is, refl), record { matches = st; valid = step_is_valid m event.Drain answer _ valid (is, refl) })

-- From old, the machine may answer the event with this report and become new.
use Rattle.std.specs.Prelude.{◌≡◌, ◌<◌, ◌≤◌, ℕ, max, Bool, true, if◌then◌else◌, ◌||◌, List, [], ◌∷◌, Option, Some, None}
use Rattle.mono_model.specs.Ticks.{max_nanos, down}
use Rattle.mono_model.specs.Table.{value_at, is_issued}
use Rattle.mono_model.specs.Tasks.{Task, is_finished, woken_if_any, all_woken}
use Rattle.mono_model.specs.Sleeps.{Sleeps, MayFire}
use Rattle.mono_model.specs.SleepActs as sleep
use Rattle.mono_model.specs.Inbox.{is_waiting, with_waiting}
use Rattle.mono_machine.specs.Machine.{Machine, with_tasks, with_sleeps, with_inbox}
use Rattle.mono_machine.specs.Acts.{act_outcome}
use Rattle.mono_machine.specs.Turns.{turn_report, after_turn}
use Rattle.mono_machine.specs.declared.events.Event.{Event}
use Rattle.mono_machine.specs.declared.events.Event.TheVariants as event
use Rattle.mono_machine.specs.declared.events.Reply.TheVariants as reply
use Rattle.mono_machine.specs.declared.events.Refusal.TheVariants as refusal
use Rattle.mono_machine.specs.declared.events.Report.{Report}
use Rattle.mono_machine.specs.declared.events.Report.TheVariants as report

-- The machine after one sleep fires: it has elapsed, and its waker is woken.
abbrev pub after_fire : Machine → ℕ → Machine
after_fire m s = with_tasks (with_sleeps m (sleep.fired m.sleeps s)) (woken_if_any m.tasks (sleep.waker_at m.sleeps s))

abbrev pub after_fires : Machine → List ℕ → Machine
after_fires m [] = m
after_fires m (s ∷ fired) = after_fires (after_fire m s) fired

-- The sleeps alone after several have fired.
abbrev pub all_fired : Sleeps → List ℕ → Sleeps
all_fired sleeps [] = sleeps
all_fired sleeps (s ∷ fired) = all_fired (sleep.fired sleeps s) fired

-- A waker, if there is one, before others.
abbrev pub with_first : Option ℕ → List ℕ → List ℕ
with_first None wakers = wakers
with_first (Some t) wakers = t ∷ wakers

-- The wakers of sleeps that fire one after another, each as it is when its sleep fires.
abbrev pub wakers_of : Sleeps → List ℕ → List ℕ
wakers_of sleeps [] = []
wakers_of sleeps (s ∷ fired) = with_first (sleep.waker_at sleeps s) (wakers_of (sleep.fired sleeps s) fired)

-- The greatest tick once the clock shows n.
abbrev pub greatest_at : Machine → ℕ → ℕ
greatest_at m n = max m.sleeps.greatest (down n)

abbrev pub at_clock : Machine → ℕ → Machine
at_clock m n = with_sleeps m (sleep.at_clock m.sleeps n)

-- A clock step lists the sleeps that are due, in any order that is allowed.
abbrev pub ClockStep : Machine → ℕ → Report → Machine → Type 0
ClockStep old n (report.Fired fired) new =
    (n ≤ max_nanos) × MayFire old.sleeps.table (greatest_at old n) fired × (new ≡ after_fires (at_clock old n) fired)
ClockStep old n (report.Reply r) new = (max_nanos < n) × (r ≡ reply.Refused refusal.Invalid) × (new ≡ old)
ClockStep old n (report.Turn t replies ended) new = ⊥
ClockStep old n report.Listed new = ⊥
ClockStep old n report.Unlisted new = ⊥
ClockStep old n (report.Drained tasks) new = ⊥

-- Whether a task that was given out has finished. A task that is not there has finished.
abbrev pub has_finished : Option (Task ℕ) → Bool
has_finished None = true
has_finished (Some task) = is_finished task.phase

abbrev pub remote_report : Machine → ℕ → Report
remote_report m t =
    if is_issued m.tasks.table t
    then (if has_finished (value_at m.tasks.table t) || is_waiting m.inbox t then report.Unlisted else report.Listed)
    else report.Reply (reply.Refused refusal.NoTask)

abbrev pub after_remote : Machine → ℕ → Machine
after_remote m t =
    if is_issued m.tasks.table t
    then (if has_finished (value_at m.tasks.table t) || is_waiting m.inbox t then m else with_inbox m (with_waiting m.inbox t))
    else m

abbrev pub after_drain : Machine → Machine
after_drain m = with_inbox (with_tasks m (all_woken m.tasks m.inbox)) []

abbrev pub Step : Machine → Event → Report → Machine → Type 0
Step old (event.Act a) answer new = (answer ≡ report.Reply (act_outcome a old).reply) × (new ≡ (act_outcome a old).machine)
Step old (event.Turn steps e) answer new = (answer ≡ turn_report steps e old) × (new ≡ after_turn steps e old)
Step old (event.Clock n) answer new = ClockStep old n answer new
Step old (event.Remote t) answer new = (answer ≡ remote_report old t) × (new ≡ after_remote old t)
Step old event.Drain answer new = (answer ≡ report.Drained old.inbox) × (new ≡ after_drain old)

-- A run: one step after another, with one report for each event.
abbrev pub Run : Machine → List Event → List Report → Machine → Type 0
Run old [] [] new = new ≡ old
Run old (event ∷ events) (answer ∷ answers) new = (mid : Machine) × Step old event answer mid × Run mid events answers new
Run old [] (answer ∷ answers) new = ⊥
Run old (event ∷ events) [] new = ⊥

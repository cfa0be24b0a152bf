-- The causes of a task's turn: a spawn, a wake that queued or noted it, a drain.
use Rattle.std.specs.Prelude.{◌≡◌, ℕ, Bool, false, ◌==◌, ◌||◌, List, [], ◌∷◌}
use Rattle.mono_machine.specs.Machine.{Machine}
use Rattle.mono_machine.specs.Steps.{Step}
use Rattle.mono_machine.specs.History.{act_tells, turn_tells, clock_tells, drain_tells, is_waker, begun_machine, woken_by_turn}
use Rattle.mono_machine.specs.declared.events.Event.{Event}
use Rattle.mono_machine.specs.declared.events.Event.TheVariants as event
use Rattle.mono_machine.specs.declared.events.Reply.{Reply}
use Rattle.mono_machine.specs.declared.events.Reply.TheVariants as reply
use Rattle.mono_machine.specs.declared.events.Report.{Report}
use Rattle.mono_machine.specs.declared.events.Report.TheVariants as report

-- Whether the reply says that t was made.
abbrev pub is_made : ℕ → Reply → Bool
is_made t (reply.Task n) = n == t
is_made t (reply.Woke w) = false
is_made t (reply.Sleep s) = false
is_made t reply.Armed = false
is_made t reply.Elapsed = false
is_made t (reply.Dropped output) = false
is_made t (reply.Job j) = false
is_made t reply.Yes = false
is_made t reply.No = false
is_made t (reply.Ended waiter) = false
is_made t reply.Pending = false
is_made t reply.Ready = false
is_made t (reply.Output output) = false
is_made t reply.Canceled = false
is_made t (reply.Refused r) = false

abbrev pub is_made_in : ℕ → List Reply → Bool
is_made_in t [] = false
is_made_in t (r ∷ replies) = is_made t r || is_made_in t replies

abbrev pub tells_spawn : ℕ → Report → Bool
tells_spawn t (report.Reply r) = is_made t r
tells_spawn t (report.Turn me replies ended) = is_made_in t replies
tells_spawn t (report.Fired fired) = false
tells_spawn t report.Listed = false
tells_spawn t report.Unlisted = false
tells_spawn t (report.Drained tasks) = false

-- Whether the event is a cause of a turn of t. It made t, drained it, or woke it so that it was queued or noted: by a
-- wake, a reset, a sleep that fired or a task that finished. Listing another thread's wake is no cause yet.
abbrev pub is_cause : ℕ → Machine → Event → Report → Bool
is_cause t old (event.Act a) answer = act_tells t old a answer || tells_spawn t answer
is_cause t old (event.Turn steps e) answer = (turn_tells t (begun_machine old.tasks.queue old) steps answer || is_waker (woken_by_turn old.tasks.queue steps e old) t) || tells_spawn t answer
is_cause t old (event.Clock n) answer = clock_tells t old.sleeps.table answer
is_cause t old (event.Remote u) answer = false
is_cause t old event.Drain answer = drain_tells t answer

-- A run in which no event is a cause of a turn of t.
abbrev pub RunWithoutCause : ℕ → Machine → List Event → List Report → Machine → Type 0
RunWithoutCause t old [] [] new = new ≡ old
RunWithoutCause t old (e ∷ events) (answer ∷ answers) new = (mid : Machine) × Step old e answer mid × (is_cause t old e answer ≡ false) × RunWithoutCause t mid events answers new
RunWithoutCause t old [] (answer ∷ answers) new = ⊥
RunWithoutCause t old (e ∷ events) [] new = ⊥

-- A task that has finished has no turn any more.
use Rattle.std.proofs.Common.{◌≡◌, ◌<◌, ℕ, true, false, Bool, cond, List, [], ◌∷◌, Some, None, Option, refl, ap, sym, subst, ◌∙◌, arith, ne_eqb}
use Rattle.std.specs.Prelude.{not, ◌==◌, ◌&&◌, ◌||◌, nat_lt}
use Rattle.mono_model.specs.Ticks.{max_nanos}
use Rattle.std.proofs.lemmas.List.{length-append}
use Rattle.mono_model.specs.Table.{value_at, next_number, is_full, is_issued}
use Rattle.mono_model.specs.Tasks.{Tasks, Task, spawned, woken, woken_if_any, all_woken, begun, completed_value}
use Rattle.mono_model.specs.Joins.{join_dropped, joined}
use Rattle.mono_model.specs.Inbox.{is_waiting, with_waiting}
use Rattle.mono_model.specs.Sleeps.{Sleep}
use Rattle.mono_model.specs.Valid.{of_task, is_queued}
use Rattle.mono_model.proofs.ValidTaskLemmas.{next_number-woken, next_number-woken_if_any, next_number-all_woken, next_number-begun, next_number-paused, next_number-completed}
use Rattle.mono_machine.specs.Machine.{Machine, with_inbox, IsValid, IsValidDuring}
use Rattle.mono_machine.specs.Acts.{Outcome, for_sleep, act_outcome, query_outcome, step_outcome, block}
use Rattle.mono_machine.specs.Turns.{after_steps, after_end, after_begin, turn_report_for, after_turn_for}
use Rattle.mono_machine.specs.Steps.{Step, ClockStep, Run, has_finished, after_fires, after_fire, at_clock, after_remote, remote_report}
use Rattle.mono_model.specs.SleepActs as sleep
use Rattle.mono_model.specs.SleepAnswers.{waker_in}
use Rattle.mono_machine.specs.History.{is_turn_of, has_turn_of}
use Rattle.mono_machine.specs.declared.events.Act.{Act}
use Rattle.mono_machine.specs.declared.events.Act.TheVariants as act
use Rattle.mono_machine.specs.declared.events.Query.{Query}
use Rattle.mono_machine.specs.declared.events.Query.TheVariants as query
use Rattle.mono_machine.specs.declared.events.TurnStep.{TurnStep}
use Rattle.mono_machine.specs.declared.events.TurnStep.TheVariants as step
use Rattle.mono_machine.specs.declared.events.End.{End}
use Rattle.mono_machine.specs.declared.events.End.TheVariants as end
use Rattle.mono_machine.specs.declared.events.Event.{Event}
use Rattle.mono_machine.specs.declared.events.Event.TheVariants as event
use Rattle.mono_machine.specs.declared.events.Reply.TheVariants as reply
use Rattle.mono_machine.specs.declared.events.Refusal.TheVariants as refusal
use Rattle.mono_machine.specs.declared.events.Report.{Report}
use Rattle.mono_machine.specs.declared.events.Report.TheVariants as report
use Rattle.mono_machine.specs.declared.events.Blocking.{Blocking}
use Rattle.mono_machine.specs.declared.events.Blocking.TheVariants as blocking
use Rattle.mono_machine.proofs.FinishedSetLemmas.{Alike, alike_woken, alike_dropped, alike_joined, alike_woken_if_any, alike_all_woken, alike_paused, alike_begun, finished-spawned, finished-completed, front_is_queued, queued_phase}
use Rattle.mono_machine.proofs.ValidJoinLemmas.{next_number-join_dropped, next_number-joined}
use Rattle.mono_machine.proofs.ValidStepLemmas.{begin_valid, steps_valid, step_is_valid}

-- t was given out, and has finished
pub record IsOver (t : ℕ) (tasks : Tasks ℕ) : Type 0 where
  pub given : t < next_number tasks.table
  pub finished : has_finished (value_at tasks.table t) ≡ true

alike_over : (t : ℕ) (old new : Tasks ℕ) → Alike new old → next_number new.table ≡ next_number old.table → IsOver t old → IsOver t new
alike_over t old new alike next over = record { given = omega (arith, next, over.given); finished = alike t ∙ over.finished }

spawned_over : (t : ℕ) (tasks : Tasks ℕ) → IsOver t tasks → IsOver t (spawned tasks)
spawned_over t tasks over = record {
  given = rw length-append (omega (arith, over.given));
  finished = finished-spawned tasks t ∙ ap (λ b. not b && has_finished (value_at tasks.table t)) (ne_eqb t (next_number tasks.table) (λ same. omega (arith, same, over.given))) ∙ over.finished;
}

or_true : (b : Bool) → (b || true) ≡ true
or_true true = refl
or_true false = refl

completed_over : (t me output : ℕ) (tasks : Tasks ℕ) → IsOver t tasks → IsOver t (completed_value (value_at tasks.table me) tasks me output)
completed_over t me output tasks over = record {
  given = omega (arith, over.given, next_number-completed (value_at tasks.table me) tasks me output);
  finished = finished-completed me tasks output t ∙ ap (λ b. (t == me) || b) over.finished ∙ or_true (t == me);
}

by_test : (t : ℕ) (b : Bool) (x y : Outcome) → IsOver t x.machine.tasks → IsOver t y.machine.tasks → IsOver t (cond b x y).machine.tasks
by_test t true x y at_true at_false = at_true
by_test t false x y at_true at_false = at_false

module _ (t : ℕ) (m : Machine) (over : IsOver t m.tasks) where
  of_sleep : (v : Option Sleep) (outcome : Outcome) → IsOver t outcome.machine.tasks → IsOver t (for_sleep v m outcome).machine.tasks
  of_sleep None outcome is = over
  of_sleep (Some value) outcome is = is

  woken_over : (w : Option ℕ) → IsOver t (woken_if_any m.tasks w)
  woken_over None = over
  woken_over (Some u) = alike_over t m.tasks (woken m.tasks u) (alike_woken m.tasks u) (next_number-woken m.tasks u) over

  block_over : (b : Blocking) (output : ℕ) → IsOver t (block b output m).machine.tasks
  block_over blocking.Attached output = over
  block_over blocking.ExecuteLocal output = over
  block_over blocking.Panic output = over

  act_over : (a : Act) → IsOver t (act_outcome a m).machine.tasks
  act_over act.Spawn = by_test t (is_full m.tasks.table m.tasks.limit) _ _ over (spawned_over t m.tasks over)
  act_over (act.Wake u) = alike_over t m.tasks (woken m.tasks u) (alike_woken m.tasks u) (next_number-woken m.tasks u) over
  act_over (act.NewSleep n) = by_test t (is_full m.sleeps.table m.sleeps.limit) _ _ over (by_test t _ _ _ over over)
  act_over (act.Reset s n) = of_sleep (value_at m.sleeps.table s) _ (by_test t (nat_lt max_nanos n) _ _ over (woken_over (waker_in (sleep.reset_answer m.sleeps s n))))
  act_over (act.DropSleep s) = over
  act_over (act.SleepElapsed s) = over
  act_over (act.DropJoin u) = alike_over t m.tasks (join_dropped m.tasks u) (alike_dropped m.tasks u) (next_number-join_dropped m.tasks u) over
  act_over (act.Block output) = by_test t (is_full m.jobs.table m.jobs.limit) _ _ over (block_over m.strategy output)
  act_over (act.DropJob j) = over
  act_over (act.Finished u) = over
  act_over (act.JobFinished j) = over
  act_over (act.JobEnd j h) = over

  query_over : (me : ℕ) (q : Query) → IsOver t (query_outcome me q m).machine.tasks
  query_over me (query.Sleep s) = over
  query_over me (query.Join u) = alike_over t m.tasks (joined m.tasks u me) (alike_joined m.tasks u me) (next_number-joined m.tasks u me) over
  query_over me (query.Job j) = over

  one_step_over : (me : ℕ) (s : TurnStep) → IsOver t (step_outcome me s m).machine.tasks
  one_step_over me (step.Act a) = act_over a
  one_step_over me (step.Query q) = query_over me q

steps_over : (t me : ℕ) (steps : List TurnStep) (m : Machine) → IsOver t m.tasks → IsOver t (after_steps me steps m).tasks
steps_over t me [] m over = over
steps_over t me (s ∷ steps) m over = steps_over t me steps (step_outcome me s m).machine (one_step_over t m over me s)

end_over : (t me : ℕ) (e : End) (m : Machine) → IsValidDuring (Some me) m → IsOver t m.tasks → IsOver t (after_end e me m).tasks
end_over t me end.Pending m valid over = alike_over t m.tasks _ (alike_paused me m.tasks valid.tasks) (next_number-paused (value_at m.tasks.table me) m.tasks me) over
end_over t me (end.Ready output) m valid over = completed_over t me output m.tasks over

fires_over : (t : ℕ) (fired : List ℕ) (m : Machine) → IsOver t m.tasks → IsOver t (after_fires m fired).tasks
fires_over t [] m over = over
fires_over t (s ∷ fired) m over =
    let waker = sleep.waker_at m.sleeps s in
    fires_over t fired (after_fire m s) (alike_over t m.tasks (woken_if_any m.tasks waker) (alike_woken_if_any m.tasks waker) (next_number-woken_if_any m.tasks waker) over)

true-false : true ≡ false → ⊥
true-false e = cc

-- the front of the queue has not finished
front_apart : (t : ℕ) (m : Machine) (front : ℕ) (rest : List ℕ) → m.tasks.queue ≡ front ∷ rest → IsValid m → IsOver t m.tasks → (front == t) ≡ false
front_apart t m front rest queue valid over = ne_eqb front t (λ same. true-false (sym (over.finished) ∙ ap (λ x. has_finished (value_at m.tasks.table x)) (sym same) ∙ unfinished (value_at m.tasks.table front) (front_is_queued m.tasks front rest queue valid.tasks)))
  where
    false-true : false ≡ true → ⊥
    false-true e = cc

    unfinished : (v : Option (Task ℕ)) → of_task is_queued v ≡ true → has_finished v ≡ false
    unfinished None is = absurd (false-true is)
    unfinished (Some task) is = queued_phase task.phase is

pub record StaysOver (t : ℕ) (answer : Report) (new : Machine) : Type 0 where
  pub no_turn : is_turn_of t answer ≡ false
  pub over : IsOver t new.tasks

turn_over : (t : ℕ) (steps : List TurnStep) (e : End) (m : Machine) → IsValid m → IsOver t m.tasks → (queue : List ℕ) → m.tasks.queue ≡ queue → StaysOver t (turn_report_for queue steps e m) (after_turn_for queue steps e m)
turn_over t steps e m valid over [] is = record { no_turn = refl; over = over }
turn_over t steps e m valid over (front ∷ rest) is =
    let begins = begin_valid m front rest is valid in
    let began : IsOver t (after_begin front rest m).tasks = alike_over t m.tasks (begun m.tasks front rest) (alike_begun m.tasks front rest is valid.tasks) (next_number-begun m.tasks front rest) over in
    record {
      no_turn = front_apart t m front rest is valid over;
      over = end_over t front e _ (steps_valid front steps (after_begin front rest m) begins) (steps_over t front steps (after_begin front rest m) began);
    }

clock_over : (t : ℕ) (m : Machine) (n : ℕ) (answer : Report) (new : Machine) → IsOver t m.tasks → ClockStep m n answer new → StaysOver t answer new
clock_over t m n (report.Fired fired) new over is = record { no_turn = refl; over = subst (λ x. IsOver t x.tasks) (sym is.2) (fires_over t fired (at_clock m n) over) }
clock_over t m n (report.Reply r) new over is = record { no_turn = refl; over = subst (λ x. IsOver t x.tasks) (sym is.2) over }
clock_over t m n (report.Turn me replies ended) new over is = absurd is
clock_over t m n report.Listed new over is = absurd is
clock_over t m n report.Unlisted new over is = absurd is
clock_over t m n (report.Drained tasks) new over is = absurd is

remote_over : (t u : ℕ) (m : Machine) → IsOver t m.tasks → StaysOver t (remote_report m u) (after_remote m u)
remote_over t u m over = by_issued (is_issued m.tasks.table u) (has_finished (value_at m.tasks.table u) || is_waiting m.inbox u)
  where
    by_issued : (b d : Bool) → StaysOver t (cond b (cond d report.Unlisted report.Listed) (report.Reply (reply.Refused refusal.NoTask))) (cond b (cond d m (with_inbox m (with_waiting m.inbox u))) m)
    by_issued true true = record { no_turn = refl; over = over }
    by_issued true false = record { no_turn = refl; over = over }
    by_issued false d = record { no_turn = refl; over = over }

event_over : (t : ℕ) (old : Machine) (e : Event) (answer : Report) (new : Machine) → IsValid old → IsOver t old.tasks → Step old e answer new → StaysOver t answer new
event_over t old (event.Act a) answer new valid over is = rw (is.0, is.1) (record { no_turn = refl; over = act_over t old over a })
event_over t old (event.Turn steps e) answer new valid over is = rw (is.0, is.1) (turn_over t steps e old valid over old.tasks.queue refl)
event_over t old (event.Clock n) answer new valid over is = clock_over t old n answer new over is
event_over t old (event.Remote u) answer new valid over is = rw (is.0, is.1) (remote_over t u old over)
event_over t old event.Drain answer new valid over is = rw (is.0, is.1) (record { no_turn = refl; over = alike_over t old.tasks (all_woken old.tasks old.inbox) (alike_all_woken old.tasks old.inbox) (next_number-all_woken old.tasks old.inbox) over })

pub over_runs : (t : ℕ) (events : List Event) (answers : List Report) (old new : Machine) → IsValid old → IsOver t old.tasks → Run old events answers new → has_turn_of t answers ≡ false
over_runs t [] [] old new valid over run = refl
over_runs t [] (answer ∷ answers) old new valid over run = absurd run
over_runs t (e ∷ events) [] old new valid over run = absurd run
over_runs t (e ∷ events) (answer ∷ answers) old new valid over (mid, is, run) =
    let stays = event_over t old e answer mid valid over is in
    ap (λ b. b || has_turn_of t answers) stays.no_turn ∙ over_runs t events answers mid new (step_is_valid old e answer mid valid is) stays.over run

-- Who waits for a source waits for it until it fires or the wait is ended, event by event and along a run.
use Rattle.std.proofs.Common.{◌≡◌, ◌≢◌, ◌<◌, ◌⊎◌, inl, inr, ℕ, true, false, Bool, cond, List, [], ◌∷◌, ◌++◌, Some, None, Option, refl, ap, sym, subst, ◌∙◌, arith, eq-eqb}
use Rattle.std.specs.Prelude.{IfSome, not, ◌==◌, ◌&&◌, ◌||◌, nat_lt, nat_le}
use Rattle.mono_model.specs.Ticks.{max_nanos, up}
use Rattle.std.proofs.lemmas.Bool.{cases_eq}
use Rattle.std.proofs.lemmas.Bool.Decides.{eqb_tells}
use Rattle.mono_model.specs.Table.{value_at, next_number, is_full, is_issued}
use Rattle.mono_model.specs.Tasks.{Task, Phase, idle, queued, running, done, taken, is_finished, is_noted, pause_answer, complete_answer}
use Rattle.mono_model.specs.Inbox.{is_waiting, with_waiting}
use Rattle.mono_model.specs.Sleeps.{Sleep, waker_of}
use Rattle.mono_model.specs.SleepActs as sleep
use Rattle.mono_model.specs.SleepAnswers.{waker_in}
use Rattle.mono_model.specs.Valid.{IsValidTask, is_unfinished, is_running, is_queued, once_if, times}
use Rattle.mono_model.specs.Valid as phases
use Rattle.mono_model.specs.declared.Ended.{Ended}
use Rattle.mono_model.specs.declared.Ended.TheVariants as ended
use Rattle.mono_machine.specs.Machine.{Machine, with_inbox, IsValid, IsValidDuring}
use Rattle.mono_machine.specs.Acts.{Outcome, for_sleep, reset, answered, refused, act_outcome, query_outcome, step_outcome, block}
use Rattle.mono_machine.specs.Turns.{replies_of, after_steps, after_end, end_answer, after_begin, turn_report_for, after_turn_for}
use Rattle.mono_machine.specs.Steps.{Step, ClockStep, Run, has_finished, after_fires, after_fire, at_clock, after_remote, after_drain}
use Rattle.mono_machine.specs.History.{waiter_at, has_turn_of, is_turn_of, is_awaiting, is_waker, wakes_by_fires, begun_machine}
use Rattle.mono_machine.specs.Watches.{Source, of_sleep, of_task, of_job, is_sleep, is_task, IsWatched, drops, polls, takes, says_elapsed, fires_by, fires_step, fires_in, takes_in, is_done, is_fired, fires, is_taken, is_taken_in, is_untouched, Hears, IsHeld, is_stirred, is_stirred_in, drops_step, drops_in}
use Rattle.mono_machine.specs.declared.events.Act.{Act}
use Rattle.mono_machine.specs.declared.events.Act.TheVariants as act
use Rattle.mono_machine.specs.declared.events.Query.{Query}
use Rattle.mono_machine.specs.declared.events.Query.TheVariants as query
use Rattle.mono_machine.specs.declared.events.TurnStep.{TurnStep}
use Rattle.mono_machine.specs.declared.events.TurnStep.TheVariants as step
use Rattle.mono_machine.specs.declared.events.End.{End}
use Rattle.mono_machine.specs.declared.events.End.TheVariants as end
use Rattle.mono_machine.specs.declared.events.Event.{Event}
use Rattle.mono_machine.specs.declared.events.Event.TheVariants as event
use Rattle.mono_machine.specs.declared.events.Reply.{Reply}
use Rattle.mono_machine.specs.declared.events.Reply.TheVariants as reply
use Rattle.mono_machine.specs.declared.events.Refusal.TheVariants as refusal
use Rattle.mono_machine.specs.declared.events.Report.{Report}
use Rattle.mono_machine.specs.declared.events.Report.TheVariants as report
use Rattle.mono_machine.specs.declared.events.Blocking.{Blocking}
use Rattle.mono_machine.specs.declared.events.Blocking.TheVariants as blocking
use Rattle.mono_machine.proofs.FinishedSetLemmas.{alike_paused}
use Rattle.mono_machine.proofs.ValidActLemmas.{step_valid}
use Rattle.mono_machine.proofs.ValidStepLemmas.{begin_valid, steps_valid, step_is_valid}
use Rattle.mono_machine.proofs.WakeLemmas.{IsKept, settled, settled_phase, waits, settled_kept, act_wakes, steps_kept, end_kept, fires_wake, ready_wakes, kept_runs, none_lost, event_kept, awaiting_kept, false-true, or_false_left, or_false_right}
use Rattle.mono_machine.proofs.WatchTableLemmas.{none-some, true-false, woken_waits, waker_waits, all_woken_waits, spawned_waits, begun_waits, paused_waits, completed_waits, dropped_waits, joined_waits, again_waits, added_waits, fired_waits, removed_waits, reset_waits, polled_waits, made_waits, job_dropped_waits, job_ended_waits, job_polled_waits}

apart_of : (r s : ℕ) → (r == s) ≡ false → s ≢ r
apart_of r s is = λ same. true-false (sym (eq-eqb r s (sym same)) ∙ is)

either_way : (P : Machine → Type 0) (b : Bool) (x y : Outcome) → P x.machine → P y.machine → P (cond b x y).machine
either_way P true x y at_true at_false = at_true
either_way P false x y at_true at_false = at_false

and_false : (a b : Bool) → b ≡ false → (a && b) ≡ false
and_false true b is = is
and_false false b is = refl

same_of : (r s : ℕ) → (r == s) ≡ true → r ≡ s
same_of r s is = elim (eqb_tells r s) [ inl here ↦ here.1 | inr apart ↦ absurd (true-false (sym is ∙ apart.0)) ]

not_elapsed : (b c : Bool) → (b && says_elapsed (cond c reply.Elapsed reply.Armed)) ≡ false → b ≡ true → c ≡ false
not_elapsed true true is here = absurd (true-false is)
not_elapsed true false is here = refl
not_elapsed false c is here = absurd (false-true here)

module _ (t : ℕ) (m : Machine) where
  module _ (s : ℕ) (is : IsWatched m t (of_sleep s)) where
    At_sleep : Machine → Type 0
    At_sleep x = IsWatched x t (of_sleep s)

    sleep_reset : (r n : ℕ) (v : Option Sleep) (b : Bool) → ((r == s) && says_elapsed (for_sleep v m (cond b (refused refusal.Invalid m) (reset r n m))).reply) ≡ false → IsWatched (for_sleep v m (cond b (refused refusal.Invalid m) (reset r n m))).machine t (of_sleep s)
    sleep_reset r n None b late = is
    sleep_reset r n (Some v) true late = is
    sleep_reset r n (Some v) false late = reset_waits t s m.sleeps r n (λ same. not_elapsed (r == s) (nat_le (up n) m.sleeps.greatest) late (eq-eqb r s (sym same))) is

    sleep_block : (b : Blocking) (output : ℕ) → IsWatched (block b output m).machine t (of_sleep s)
    sleep_block blocking.Attached output = is
    sleep_block blocking.ExecuteLocal output = is
    sleep_block blocking.Panic output = is

    sleep_act : (a : Act) → drops (of_sleep s) a ≡ false → fires_by (of_sleep s) a (act_outcome a m).reply ≡ false → IsWatched (act_outcome a m).machine t (of_sleep s)
    sleep_act act.Spawn d f = either_way (λ x. IsWatched x t (of_sleep s)) (is_full m.tasks.table m.tasks.limit) _ _ is is
    sleep_act (act.Wake u) d f = is
    sleep_act (act.NewSleep n) d f = either_way (λ x. IsWatched x t (of_sleep s)) (is_full m.sleeps.table m.sleeps.limit) _ _ is (either_way (λ x. IsWatched x t (of_sleep s)) (nat_lt max_nanos n) _ _ is (added_waits t s m.sleeps n is))
    sleep_act (act.Reset r n) d f = sleep_reset r n (value_at m.sleeps.table r) (nat_lt max_nanos n) f
    sleep_act (act.DropSleep r) d f = removed_waits t s m.sleeps r (apart_of r s d) is
    sleep_act (act.SleepElapsed r) d f = is
    sleep_act (act.DropJoin u) d f = is
    sleep_act (act.Block output) d f = either_way (λ x. IsWatched x t (of_sleep s)) (is_full m.jobs.table m.jobs.limit) _ _ is (sleep_block m.strategy output)
    sleep_act (act.DropJob j) d f = is
    sleep_act (act.Finished u) d f = is
    sleep_act (act.JobFinished j) d f = is
    sleep_act (act.JobEnd j h) d f = is

  module _ (u : ℕ) (is : IsWatched m t (of_task u)) where
    task_reset : (r n : ℕ) (v : Option Sleep) (b : Bool) → IsWatched (for_sleep v m (cond b (refused refusal.Invalid m) (reset r n m))).machine t (of_task u)
    task_reset r n None b = is
    task_reset r n (Some v) true = is
    task_reset r n (Some v) false = waker_waits t u m.tasks (waker_in (sleep.reset_answer m.sleeps r n)) is

    task_block : (b : Blocking) (output : ℕ) → IsWatched (block b output m).machine t (of_task u)
    task_block blocking.Attached output = is
    task_block blocking.ExecuteLocal output = is
    task_block blocking.Panic output = is

    task_act : (a : Act) → drops (of_task u) a ≡ false → IsWatched (act_outcome a m).machine t (of_task u)
    task_act act.Spawn d = either_way (λ x. IsWatched x t (of_task u)) (is_full m.tasks.table m.tasks.limit) _ _ is (spawned_waits t u m.tasks is)
    task_act (act.Wake v) d = woken_waits t u m.tasks v is
    task_act (act.NewSleep n) d = either_way (λ x. IsWatched x t (of_task u)) (is_full m.sleeps.table m.sleeps.limit) _ _ is (either_way (λ x. IsWatched x t (of_task u)) (nat_lt max_nanos n) _ _ is is)
    task_act (act.Reset r n) d = task_reset r n (value_at m.sleeps.table r) (nat_lt max_nanos n)
    task_act (act.DropSleep r) d = is
    task_act (act.SleepElapsed r) d = is
    task_act (act.DropJoin v) d = dropped_waits t u m.tasks v (apart_of v u d) is
    task_act (act.Block output) d = either_way (λ x. IsWatched x t (of_task u)) (is_full m.jobs.table m.jobs.limit) _ _ is (task_block m.strategy output)
    task_act (act.DropJob j) d = is
    task_act (act.Finished v) d = is
    task_act (act.JobFinished j) d = is
    task_act (act.JobEnd j h) d = is

  module _ (j : ℕ) (is : IsWatched m t (of_job j)) where
    job_reset : (r n : ℕ) (v : Option Sleep) (b : Bool) → IsWatched (for_sleep v m (cond b (refused refusal.Invalid m) (reset r n m))).machine t (of_job j)
    job_reset r n None b = is
    job_reset r n (Some v) true = is
    job_reset r n (Some v) false = is

    job_block : (b : Blocking) (output : ℕ) → IsWatched (block b output m).machine t (of_job j)
    job_block blocking.Attached output = made_waits t j m.jobs _ is
    job_block blocking.ExecuteLocal output = made_waits t j m.jobs _ is
    job_block blocking.Panic output = is

    job_act : (a : Act) → drops (of_job j) a ≡ false → IsWatched (act_outcome a m).machine t (of_job j)
    job_act act.Spawn d = either_way (λ x. IsWatched x t (of_job j)) (is_full m.tasks.table m.tasks.limit) _ _ is is
    job_act (act.Wake v) d = is
    job_act (act.NewSleep n) d = either_way (λ x. IsWatched x t (of_job j)) (is_full m.sleeps.table m.sleeps.limit) _ _ is (either_way (λ x. IsWatched x t (of_job j)) (nat_lt max_nanos n) _ _ is is)
    job_act (act.Reset r n) d = job_reset r n (value_at m.sleeps.table r) (nat_lt max_nanos n)
    job_act (act.DropSleep r) d = is
    job_act (act.SleepElapsed r) d = is
    job_act (act.DropJoin v) d = is
    job_act (act.Block output) d = either_way (λ x. IsWatched x t (of_job j)) (is_full m.jobs.table m.jobs.limit) _ _ is (job_block m.strategy output)
    job_act (act.DropJob k) d = job_dropped_waits t j m.jobs k (apart_of k j d) is
    job_act (act.Finished v) d = is
    job_act (act.JobFinished k) d = is
    job_act (act.JobEnd k h) d = job_ended_waits t j m.jobs k h (apart_of k j d) is

  act_watch : (x : Source) → IsWatched m t x → (a : Act) → drops x a ≡ false → fires_by x a (act_outcome a m).reply ≡ false → IsWatched (act_outcome a m).machine t x
  act_watch (of_sleep s) is a d f = sleep_act s is a d f
  act_watch (of_task u) is a d f = task_act u is a d
  act_watch (of_job j) is a d f = job_act j is a d

  -- a poll of another source, or by t itself
  own : (me a b : ℕ) → (not (me == t) && (a == b)) ≡ false → b ≡ a → me ≡ t
  own me a b is same = elim (eqb_tells me t) [
    | inl here ↦ here.1
    | inr apart ↦ absurd (true-false (sym (eq-eqb a b (sym same)) ∙ ap (λ c. not c && (a == b)) (sym apart.0) ∙ is))
  ]

  join_own : (me u v : ℕ) → IsValidDuring (Some me) m → IsWatched m t (of_task u) → (not (me == t) && (v == u)) ≡ false → IsWatched (query_outcome me (query.Join v) m).machine t (of_task u)
  join_own me u v valid is keeps = elim (cases_eq u v) [
    | inl here ↦ subst (λ x. IsWatched (query_outcome x (query.Join v) m).machine t (of_task u)) (sym (own me v u keeps here))
        (subst (λ x. IsWatched (query_outcome t (query.Join v) m).machine t (of_task x)) (sym here) (again_waits t v m.tasks (valid.tasks.each v) (subst (λ x. IsWatched m t (of_task x)) here is)))
    | inr apart ↦ joined_waits t u m.tasks v me apart is
  ]

  query_watch : (me : ℕ) → IsValidDuring (Some me) m → (x : Source) → IsWatched m t x → (q : Query) → (not (me == t) && polls x q) ≡ false → IsWatched (query_outcome me q m).machine t x
  query_watch me valid (of_sleep s) is (query.Sleep r) keeps = polled_waits t s m.sleeps r me (own me r s keeps) is
  query_watch me valid (of_sleep s) is (query.Join v) keeps = is
  query_watch me valid (of_sleep s) is (query.Job k) keeps = is
  query_watch me valid (of_task u) is (query.Sleep r) keeps = is
  query_watch me valid (of_task u) is (query.Join v) keeps = join_own me u v valid is keeps
  query_watch me valid (of_task u) is (query.Job k) keeps = is
  query_watch me valid (of_job j) is (query.Sleep r) keeps = is
  query_watch me valid (of_job j) is (query.Join v) keeps = is
  query_watch me valid (of_job j) is (query.Job k) keeps = job_polled_waits t j m.jobs k me (own me k j keeps) is

  step_watch : (me : ℕ) → IsValidDuring (Some me) m → (x : Source) → IsWatched m t x → (s : TurnStep) → takes t me x s ≡ false → fires_step x s (step_outcome me s m).reply ≡ false → IsWatched (step_outcome me s m).machine t x
  step_watch me valid x is (step.Act a) d f = act_watch x is a d f
  step_watch me valid x is (step.Query q) d f = query_watch me valid x is q d

  -- A reset that fires wakes the waiting task.
  elapsed_wakes : (v : Option Sleep) (b c : Bool) (after : Machine) → sleep.waker_in v ≡ Some t → says_elapsed (for_sleep v m (cond b (refused refusal.Invalid m) (answered (cond c reply.Elapsed reply.Armed) after))).reply ≡ true
      → (not b && is_waker (waker_in (sleep.of_live v (λ value. cond c (waker_of value) None))) t) ≡ true
  elapsed_wakes None b c after is told = absurd (none-some t is)
  elapsed_wakes (Some v) true c after is told = absurd (false-true told)
  elapsed_wakes (Some v) false true after is told = ap (λ w. is_waker w t) is ∙ eq-eqb t t refl
  elapsed_wakes (Some v) false false after is told = absurd (false-true told)

  reset_fires : (s r n : ℕ) → IsWatched m t (of_sleep s) → ((r == s) && says_elapsed (act_outcome (act.Reset r n) m).reply) ≡ true → IsKept t (act_outcome (act.Reset r n) m).machine
  reset_fires s r n is told = elim (eqb_tells r s) [
    | inl here ↦ act_wakes t m (act.Reset r n) (act_outcome (act.Reset r n) m).reply
        (elapsed_wakes (value_at m.sleeps.table r) (nat_lt max_nanos n) (nat_le (up n) m.sleeps.greatest) _ (subst (λ x. IsWatched m t (of_sleep x)) (sym here.1) is) (sym (ap (λ b. b && says_elapsed (act_outcome (act.Reset r n) m).reply) here.0) ∙ told))
    | inr apart ↦ absurd (false-true (sym (ap (λ b. b && says_elapsed (act_outcome (act.Reset r n) m).reply) apart.0) ∙ told))
  ]

  act_fires : (x : Source) → IsWatched m t x → (a : Act) → fires_by x a (act_outcome a m).reply ≡ true → IsKept t (act_outcome a m).machine
  act_fires (of_sleep s) is (act.Reset r n) told = reset_fires s r n is told
  act_fires (of_task u) is (act.Reset r n) told = absurd (false-true told)
  act_fires (of_job j) is (act.Reset r n) told = absurd (false-true told)
  act_fires (of_sleep s) is (act.Wake v) told = absurd (false-true told)
  act_fires (of_task u) is (act.Wake v) told = absurd (false-true told)
  act_fires (of_job j) is (act.Wake v) told = absurd (false-true told)
  act_fires x is act.Spawn told = absurd (false-true told)
  act_fires x is (act.NewSleep n) told = absurd (false-true told)
  act_fires x is (act.DropSleep r) told = absurd (false-true told)
  act_fires x is (act.SleepElapsed r) told = absurd (false-true told)
  act_fires x is (act.DropJoin v) told = absurd (false-true told)
  act_fires x is (act.Block output) told = absurd (false-true told)
  act_fires x is (act.DropJob k) told = absurd (false-true told)
  act_fires x is (act.Finished v) told = absurd (false-true told)
  act_fires x is (act.JobFinished k) told = absurd (false-true told)
  act_fires x is (act.JobEnd k h) told = absurd (false-true told)

  step_fires : (me : ℕ) (x : Source) → IsWatched m t x → (s : TurnStep) → fires_step x s (step_outcome me s m).reply ≡ true → IsKept t (step_outcome me s m).machine
  step_fires me x is (step.Act a) told = act_fires x is a told
  step_fires me x is (step.Query q) told = absurd (false-true told)

  -- the parts that an event changes
  inbox_watch : (x : Source) (inbox : List ℕ) → IsWatched m t x → IsWatched (with_inbox m inbox) t x
  inbox_watch (of_sleep s) inbox is = is
  inbox_watch (of_task u) inbox is = is
  inbox_watch (of_job j) inbox is = is

  begin_watch : (x : Source) (front : ℕ) (rest : List ℕ) → IsWatched m t x → IsWatched (after_begin front rest m) t x
  begin_watch (of_sleep s) front rest is = is
  begin_watch (of_task u) front rest is = begun_waits t u m.tasks front rest is
  begin_watch (of_job j) front rest is = is

  fire_watch : (x : Source) (r : ℕ) → is_sleep r x ≡ false → IsWatched m t x → IsWatched (after_fire m r) t x
  fire_watch (of_sleep s) r apart is = fired_waits t s m.sleeps r (apart_of r s apart) is
  fire_watch (of_task u) r apart is = waker_waits t u m.tasks (sleep.waker_at m.sleeps r) is
  fire_watch (of_job j) r apart is = is

  clock_watch : (x : Source) (n : ℕ) → IsWatched m t x → IsWatched (at_clock m n) t x
  clock_watch (of_sleep s) n is = is
  clock_watch (of_task u) n is = is
  clock_watch (of_job j) n is = is

  -- the end of a turn
  pending_watch : (x : Source) (me : ℕ) → IsWatched m t x → IsWatched (after_end end.Pending me m) t x
  pending_watch (of_sleep s) me is = is
  pending_watch (of_task u) me is = paused_waits t u m.tasks me is
  pending_watch (of_job j) me is = is

  ready_is_done : (me output : ℕ) (next : ℕ) (v : Option (Task ℕ)) → waiter_at v ≡ Some t → IfSome v (IsValidTask next) → is_done (complete_answer v) ≡ true
  ready_is_done me output next None is valid = absurd (none-some t is)
  ready_is_done me output next (Some task) is valid = ap (λ b. is_done (cond b ended.Done ended.Gone)) ((subst (λ w. IfSome w (λ y. (y < next) × (is_unfinished task.phase ≡ true) × (task.is_kept ≡ true))) is valid.waiter).2)

  ready_task : (me output u : ℕ) → IsValidDuring (Some me) m → IsWatched m t (of_task u) → ((me == u) && is_done (end_answer (end.Ready output) me m)) ≡ false → IsWatched (after_end (end.Ready output) me m) t (of_task u)
  ready_task me output u valid is f = elim (eqb_tells me u) [
    | inl here ↦ absurd (true-false (sym (ready_is_done me output (next_number m.tasks.table) (value_at m.tasks.table me) (subst (λ y. IsWatched m t (of_task y)) (sym here.1) is) (valid.tasks.each me)) ∙ sym (ap (λ b. b && is_done (end_answer (end.Ready output) me m)) here.0) ∙ f))
    | inr apart ↦ completed_waits t u m.tasks me output (apart_of me u apart.0) is
  ]

  ready_watch : (x : Source) (me output : ℕ) → IsValidDuring (Some me) m → IsWatched m t x → (is_task me x && is_done (end_answer (end.Ready output) me m)) ≡ false → IsWatched (after_end (end.Ready output) me m) t x
  ready_watch (of_sleep s) me output valid is f = is
  ready_watch (of_task u) me output valid is f = ready_task me output u valid is f
  ready_watch (of_job j) me output valid is f = is

  end_watch : (x : Source) (me : ℕ) (e : End) → IsValidDuring (Some me) m → IsWatched m t x → (is_task me x && is_done (end_answer e me m)) ≡ false → IsWatched (after_end e me m) t x
  end_watch x me end.Pending valid is f = pending_watch x me is
  end_watch x me (end.Ready output) valid is f = ready_watch x me output valid is f

  paused_not_done : (v : Option (Task ℕ)) → is_done (pause_answer v) ≡ false
  paused_not_done None = refl
  paused_not_done (Some task) = by_noted (is_noted task.phase)
    where
      by_noted : (b : Bool) → is_done (cond b ended.Again ended.Idle) ≡ false
      by_noted true = refl
      by_noted false = refl

  end_fires : (x : Source) (me : ℕ) (e : End) → IsValidDuring (Some me) m → IsWatched m t x → (is_task me x && is_done (end_answer e me m)) ≡ true → IsKept t (after_end e me m)
  end_fires x me end.Pending valid is told = absurd (true-false (sym told ∙ and_false (is_task me x) _ (paused_not_done (value_at m.tasks.table me))))
  end_fires (of_sleep s) me (end.Ready output) valid is told = absurd (false-true told)
  end_fires (of_task u) me (end.Ready output) valid is told = elim (eqb_tells me u) [
    | inl here ↦ ready_wakes me output t m valid (ap (λ w. is_waker w t) (subst (λ y. IsWatched m t (of_task y)) (sym here.1) is) ∙ eq-eqb t t refl)
    | inr apart ↦ absurd (false-true (sym (ap (λ b. b && is_done (end_answer (end.Ready output) me m)) apart.0) ∙ told))
  ]
  end_fires (of_job j) me (end.Ready output) valid is told = absurd (false-true told)

-- the steps of a turn
record Neither (a b f k : Bool) : Type 0 where
  a_not : a ≡ false
  b_not : b ≡ false
  f_not : f ≡ false
  k_not : k ≡ false

neither : (a b f k : Bool) → (a || (not b && f)) ≡ false → (b || (not a && k)) ≡ false → Neither a b f k
neither true b f k first second = absurd (true-false first)
neither false true f k first second = absurd (true-false second)
neither false false f k first second = record { a_not = refl; b_not = refl; f_not = first; k_not = second }

steps_watch : (t me : ℕ) (x : Source) (steps : List TurnStep) (m : Machine) → IsValidDuring (Some me) m → IsWatched m t x
    → fires_in t me x steps (replies_of me steps m) ≡ false → takes_in t me x steps (replies_of me steps m) ≡ false → IsWatched (after_steps me steps m) t x
steps_watch t me x [] m valid is f k = is
steps_watch t me x (s ∷ steps) m valid is f k =
    let both : Neither (fires_step x s (step_outcome me s m).reply) (takes t me x s) (fires_in t me x steps (replies_of me steps (step_outcome me s m).machine)) (takes_in t me x steps (replies_of me steps (step_outcome me s m).machine)) = neither _ _ _ _ f k
    in steps_watch t me x steps (step_outcome me s m).machine (step_valid me m valid s) (step_watch t m me valid x is s both.b_not both.a_not) both.f_not both.k_not

steps_fire : (t me : ℕ) (x : Source) (steps : List TurnStep) (m : Machine) → IsValidDuring (Some me) m → IsWatched m t x → fires_in t me x steps (replies_of me steps m) ≡ true → IsKept t (after_steps me steps m)
steps_fire t me x [] m valid is told = absurd (false-true told)
steps_fire t me x (s ∷ steps) m valid is told = by_first (fires_step x s (step_outcome me s m).reply) (takes t me x s) refl refl told (steps_fire t me x steps (step_outcome me s m).machine (step_valid me m valid s))
  where
    by_first : (a b : Bool) → fires_step x s (step_outcome me s m).reply ≡ a → takes t me x s ≡ b → (a || (not b && fires_in t me x steps (replies_of me steps (step_outcome me s m).machine))) ≡ true
        → (IsWatched (step_outcome me s m).machine t x → fires_in t me x steps (replies_of me steps (step_outcome me s m).machine) ≡ true → IsKept t (after_steps me steps (step_outcome me s m).machine))
        → IsKept t (after_steps me steps (step_outcome me s m).machine)
    by_first true b fired took all later = steps_kept t me steps (step_outcome me s m).machine (step_fires t m me x is s fired)
    by_first false true fired took all later = absurd (false-true all)
    by_first false false fired took all later = later (step_watch t m me valid x is s took fired) all

-- a turn
turn_watch : (t : ℕ) (x : Source) (steps : List TurnStep) (e : End) (m : Machine) → IsValid m → IsWatched m t x → (queue : List ℕ) → m.tasks.queue ≡ queue
    → fires t x (event.Turn steps e) (turn_report_for queue steps e m) ≡ false → is_taken t x (event.Turn steps e) (turn_report_for queue steps e m) ≡ false → IsWatched (after_turn_for queue steps e m) t x
turn_watch t x steps e m valid is [] at f k = is
turn_watch t x steps e m valid is (front ∷ rest) at f k =
    end_watch t (after_steps front steps (after_begin front rest m)) x front e (steps_valid front steps (after_begin front rest m) (begin_valid m front rest at valid))
    (steps_watch t front x steps (after_begin front rest m) (begin_valid m front rest at valid) (begin_watch t m x front rest is) (or_false_left _ _ f) k)
    (at_end (takes_in t front x steps (replies_of front steps (after_begin front rest m))) k (or_false_right (fires_in t front x steps (replies_of front steps (after_begin front rest m))) _ f))
  where
    at_end : (b : Bool) {c : Bool} → b ≡ false → (not b && c) ≡ false → c ≡ false
    at_end true here all = absurd (true-false here)
    at_end false here all = all

turn_fires : (t : ℕ) (x : Source) (steps : List TurnStep) (e : End) (m : Machine) → IsValid m → IsWatched m t x → (queue : List ℕ) → m.tasks.queue ≡ queue
    → fires t x (event.Turn steps e) (turn_report_for queue steps e m) ≡ true → IsKept t (after_turn_for queue steps e m)
turn_fires t x steps e m valid is [] at told = absurd (false-true told)
turn_fires t x steps e m valid is (front ∷ rest) at told =
    by_first (fires_in t front x steps (replies_of front steps (after_begin front rest m))) (takes_in t front x steps (replies_of front steps (after_begin front rest m))) refl refl told
  where
    begins : IsValidDuring (Some front) (after_begin front rest m)
    begins = begin_valid m front rest at valid

    ends : IsValidDuring (Some front) (after_steps front steps (after_begin front rest m))
    ends = steps_valid front steps (after_begin front rest m) begins

    by_first : (a b : Bool) → fires_in t front x steps (replies_of front steps (after_begin front rest m)) ≡ a → takes_in t front x steps (replies_of front steps (after_begin front rest m)) ≡ b
        → (a || (not b && (is_task front x && is_done (end_answer e front (after_steps front steps (after_begin front rest m)))))) ≡ true → IsKept t (after_end e front (after_steps front steps (after_begin front rest m)))
    by_first true b fired took all = end_kept t front e (after_steps front steps (after_begin front rest m)) ends (steps_fire t front x steps (after_begin front rest m) begins (begin_watch t m x front rest is) fired)
    by_first false true fired took all = absurd (false-true all)
    by_first false false fired took all = end_fires t (after_steps front steps (after_begin front rest m)) x front e ends (steps_watch t front x steps (after_begin front rest m) begins (begin_watch t m x front rest is) fired took) all

-- a clock step
fires_watch : (t : ℕ) (x : Source) (fired : List ℕ) (m : Machine) → is_fired x fired ≡ false → IsWatched m t x → IsWatched (after_fires m fired) t x
fires_watch t x [] m f is = is
fires_watch t (of_sleep s) (r ∷ fired) m f is = fires_watch t (of_sleep s) fired (after_fire m r) (or_false_right (r == s) _ f) (fire_watch t m (of_sleep s) r (or_false_left (r == s) _ f) is)
fires_watch t (of_task u) (r ∷ fired) m f is = fires_watch t (of_task u) fired (after_fire m r) refl (fire_watch t m (of_task u) r refl is)
fires_watch t (of_job j) (r ∷ fired) m f is = fires_watch t (of_job j) fired (after_fire m r) refl (fire_watch t m (of_job j) r refl is)

listed_wakes : (t s : ℕ) (m : Machine) → IsWatched m t (of_sleep s) → (fired : List ℕ) → is_waiting fired s ≡ true → wakes_by_fires t m.sleeps.table fired ≡ true
listed_wakes t s m is [] told = absurd (false-true told)
listed_wakes t s m is (r ∷ fired) told = elim (eqb_tells r s) [
  | inl here ↦ ap (λ b. b || wakes_by_fires t m.sleeps.table fired) (ap (λ w. is_waker w t) (subst (λ y. IsWatched m t (of_sleep y)) (sym here.1) is) ∙ eq-eqb t t refl)
  | inr apart ↦ later (is_waker (sleep.waker_in (value_at m.sleeps.table r)) t) (listed_wakes t s m is fired (sym (ap (λ b. b || is_waiting fired s) apart.0) ∙ told))
]
  where
    later : (b : Bool) {c : Bool} → c ≡ true → (b || c) ≡ true
    later true all = refl
    later false all = all

clock_stands : (t : ℕ) (x : Source) (m : Machine) (n : ℕ) (answer : Report) (new : Machine) → IsWatched m t x → fires t x (event.Clock n) answer ≡ false → ClockStep m n answer new → IsWatched new t x
clock_stands t x m n (report.Fired fired) new is f by = subst (λ y. IsWatched y t x) (sym by.2) (fires_watch t x fired (at_clock m n) f (clock_watch t m x n is))
clock_stands t x m n (report.Reply r) new is f by = subst (λ y. IsWatched y t x) (sym by.2) is
clock_stands t x m n (report.Turn me replies ended) new is f by = absurd by
clock_stands t x m n report.Listed new is f by = absurd by
clock_stands t x m n report.Unlisted new is f by = absurd by
clock_stands t x m n (report.Drained tasks) new is f by = absurd by

clock_fires : (t : ℕ) (x : Source) (m : Machine) (n : ℕ) (answer : Report) (new : Machine) → IsWatched m t x → fires t x (event.Clock n) answer ≡ true → ClockStep m n answer new → IsKept t new
clock_fires t (of_sleep s) m n (report.Fired fired) new is told by = subst (IsKept t) (sym by.2) (fires_wake t fired (at_clock m n) (listed_wakes t s m is fired told))
clock_fires t (of_task u) m n (report.Fired fired) new is told by = absurd (false-true told)
clock_fires t (of_job j) m n (report.Fired fired) new is told by = absurd (false-true told)
clock_fires t x m n (report.Reply r) new is told by = absurd (false-true told)
clock_fires t x m n (report.Turn me replies ended) new is told by = absurd by
clock_fires t x m n report.Listed new is told by = absurd by
clock_fires t x m n report.Unlisted new is told by = absurd by
clock_fires t x m n (report.Drained tasks) new is told by = absurd by

remote_watch : (t : ℕ) (x : Source) (u : ℕ) (m : Machine) → IsWatched m t x → IsWatched (after_remote m u) t x
remote_watch t x u m is = by_issued (is_issued m.tasks.table u) (has_finished (value_at m.tasks.table u) || is_waiting m.inbox u)
  where
    by_issued : (b d : Bool) → IsWatched (cond b (cond d m (with_inbox m (with_waiting m.inbox u))) m) t x
    by_issued true true = is
    by_issued true false = inbox_watch t m x (with_waiting m.inbox u) is
    by_issued false d = is

drain_watch : (t : ℕ) (x : Source) (m : Machine) → IsWatched m t x → IsWatched (after_drain m) t x
drain_watch t (of_sleep s) m is = is
drain_watch t (of_task u) m is = all_woken_waits t u m.tasks m.inbox is
drain_watch t (of_job j) m is = is

-- one event
pub event_watch : (old : Machine) (e : Event) (answer : Report) (new : Machine) (t : ℕ) (x : Source) → IsValid old → Step old e answer new → IsWatched old t x → fires t x e answer ≡ false → is_taken t x e answer ≡ false → IsWatched new t x
event_watch old (event.Act a) answer new t x valid by is f k = subst (λ y. IsWatched y t x) (sym by.1) (act_watch t old x is a k (sym (ap (fires t x (event.Act a)) by.0) ∙ f))
event_watch old (event.Turn steps e) answer new t x valid by is f k =
    subst (λ y. IsWatched y t x) (sym by.1) (turn_watch t x steps e old valid is old.tasks.queue refl (sym (ap (fires t x (event.Turn steps e)) by.0) ∙ f) (sym (ap (is_taken t x (event.Turn steps e)) by.0) ∙ k))
event_watch old (event.Clock n) answer new t x valid by is f k = clock_stands t x old n answer new is f by
event_watch old (event.Remote u) answer new t x valid by is f k = subst (λ y. IsWatched y t x) (sym by.1) (remote_watch t x u old is)
event_watch old event.Drain answer new t x valid by is f k = subst (λ y. IsWatched y t x) (sym by.1) (drain_watch t x old is)

event_fires : (old : Machine) (e : Event) (answer : Report) (new : Machine) (t : ℕ) (x : Source) → IsValid old → Step old e answer new → IsWatched old t x → fires t x e answer ≡ true → IsKept t new
event_fires old (event.Act a) answer new t x valid by is told = subst (IsKept t) (sym by.1) (act_fires t old x is a (sym (ap (fires t x (event.Act a)) by.0) ∙ told))
event_fires old (event.Turn steps e) answer new t x valid by is told = subst (IsKept t) (sym by.1) (turn_fires t x steps e old valid is old.tasks.queue refl (sym (ap (fires t x (event.Turn steps e)) by.0) ∙ told))
event_fires old (event.Clock n) answer new t x valid by is told = clock_fires t x old n answer new is told by
event_fires old (event.Remote u) answer new t x valid by is told = absurd (false-true told)
event_fires old event.Drain answer new t x valid by is told = absurd (false-true told)

-- along a run
not_true : (a b c : Bool) → (not a && (not b && c)) ≡ true → Neither a b false false × (c ≡ true)
not_true true b c is = absurd (false-true is)
not_true false true c is = absurd (false-true is)
not_true false false c is = (record { a_not = refl; b_not = refl; f_not = refl; k_not = refl }, is)

pub run_watch : (events : List Event) (answers : List Report) (old new : Machine) (t : ℕ) (x : Source) → IsValid old → Run old events answers new → IsWatched old t x → is_untouched t x events answers ≡ true → IsWatched new t x
run_watch [] [] old new t x valid run is un = subst (λ y. IsWatched y t x) (sym run) is
run_watch [] (answer ∷ answers) old new t x valid run is un = absurd run
run_watch (e ∷ events) [] old new t x valid run is un = absurd run
run_watch (e ∷ events) (answer ∷ answers) old new t x valid (mid, by, run) is un =
    let parts : Neither (fires t x e answer) (is_taken t x e answer) false false × (is_untouched t x events answers ≡ true) = not_true _ _ _ un
    in run_watch events answers mid new t x (step_is_valid old e answer mid valid by) run (event_watch old e answer mid t x valid by is parts.0.a_not parts.0.b_not) parts.1

pub fired_wakes : (e : Event) (answer : Report) (events : List Event) (answers : List Report) (old mid new : Machine) (t : ℕ) (x : Source) → IsValid old → IsWatched old t x → Step old e answer mid → fires t x e answer ≡ true
    → Run mid events answers new → has_turn_of t answers ≡ false → has_finished (value_at new.tasks.table t) ≡ false → is_awaiting t new ≡ true
fired_wakes e answer events answers old mid new t x valid is by told run apart unfinished =
    kept_runs t events answers mid new (step_is_valid old e answer mid valid by) (event_fires old e answer mid t x valid by is told) run apart unfinished

pub watched_or_awaiting : (events : List Event) (answers : List Report) (old new : Machine) (t : ℕ) (x : Source) → IsValid old → Run old events answers new → IsWatched old t x → is_taken_in t x events answers ≡ false
    → has_turn_of t answers ≡ false → has_finished (value_at new.tasks.table t) ≡ false → IsWatched new t x ⊎ (is_awaiting t new ≡ true)
watched_or_awaiting [] [] old new t x valid run is k apart unfinished = inl (subst (λ y. IsWatched y t x) (sym run) is)
watched_or_awaiting [] (answer ∷ answers) old new t x valid run is k apart unfinished = absurd run
watched_or_awaiting (e ∷ events) [] old new t x valid run is k apart unfinished = absurd run
watched_or_awaiting (e ∷ events) (answer ∷ answers) old new t x valid (mid, by, run) is k apart unfinished =
    by_fires (fires t x e answer) refl (watched_or_awaiting events answers mid new t x (step_is_valid old e answer mid valid by) run)
  where
    by_fires : (b : Bool) → fires t x e answer ≡ b
        → (IsWatched mid t x → is_taken_in t x events answers ≡ false → has_turn_of t answers ≡ false → has_finished (value_at new.tasks.table t) ≡ false → IsWatched new t x ⊎ (is_awaiting t new ≡ true))
        → IsWatched new t x ⊎ (is_awaiting t new ≡ true)
    by_fires true told later = inr (fired_wakes e answer events answers old mid new t x valid is by told run (or_false_right (is_turn_of t answer) _ apart) unfinished)
    by_fires false told later = later (event_watch old e answer mid t x valid by is told (or_false_left (is_taken t x e answer) _ k)) (or_false_right (is_taken t x e answer) _ k) (or_false_right (is_turn_of t answer) _ apart) unfinished

-- The source that the running task registers in its turn.
not_dropped : (t : ℕ) (x : Source) (s : TurnStep) → drops_step x s ≡ false → takes t t x s ≡ false
not_dropped t x (step.Act a) is = is
not_dropped t x (step.Query q) is = ap (λ b. not b && polls x q) (eq-eqb t t refl)

both_false : (a b c : Bool) → a ≡ false → c ≡ false → (a || (not b && c)) ≡ false
both_false true b c first last = absurd (true-false first)
both_false false true c first last = refl
both_false false false c first last = last

no_takes : (t : ℕ) (x : Source) (steps : List TurnStep) (m : Machine) → drops_in x steps ≡ false → takes_in t t x steps (replies_of t steps m) ≡ false
no_takes t x [] m none = refl
no_takes t x (s ∷ steps) m none =
    both_false (takes t t x s) (fires_step x s (step_outcome t s m).reply) _ (not_dropped t x s (or_false_left (drops_step x s) _ none)) (no_takes t x steps (step_outcome t s m).machine (or_false_right (drops_step x s) _ none))

steps_on : (me : ℕ) (before after : List TurnStep) (m : Machine) → after_steps me (before ++ after) m ≡ after_steps me after (after_steps me before m)
steps_on me [] after m = refl
steps_on me (s ∷ before) after m = steps_on me before after (step_outcome me s m).machine

stirred_settles : (v : Option (Task ℕ)) → is_stirred_in v ≡ true → settled v ≡ true
stirred_settles None is = refl
stirred_settles (Some task) is = by_phase task.phase is
  where
    by_phase : (phase : Phase ℕ) → is_stirred phase ≡ true → settled_phase phase ≡ true
    by_phase idle told = told
    by_phase queued told = refl
    by_phase (running noted) told = told
    by_phase (done output) told = refl
    by_phase taken told = refl

module _ (t : ℕ) (x : Source) where
  -- the task that paused is not finished
  paused_stays : (m : Machine) → IsValidDuring (Some t) m → has_finished (value_at (after_end end.Pending t m).tasks.table t) ≡ false
  paused_stays m valid = alike_paused t m.tasks valid.tasks t ∙ by_value (value_at m.tasks.table t) (valid.tasks.has_turn t refl)
    where
      by_phase : (phase : Phase ℕ) → is_running phase ≡ true → is_finished phase ≡ false
      by_phase idle told = refl
      by_phase queued told = refl
      by_phase (running noted) told = refl
      by_phase (done output) told = absurd (false-true told)
      by_phase taken told = absurd (false-true told)

      by_value : (v : Option (Task ℕ)) → phases.of_task is_running v ≡ true → has_finished v ≡ false
      by_value None told = absurd (false-true told)
      by_value (Some task) told = by_phase task.phase told

  module _ (after : List TurnStep) (m : Machine) (valid : IsValidDuring (Some t) m) (ends : IsValid (after_end end.Pending t (after_steps t after m))) where
    kept_ends : IsKept t (after_steps t after m) → is_awaiting t (after_end end.Pending t (after_steps t after m)) ≡ true
    kept_ends kept = waits t (after_end end.Pending t (after_steps t after m)) ends (end_kept t t end.Pending (after_steps t after m) (steps_valid t after m valid) kept) (paused_stays (after_steps t after m) (steps_valid t after m valid))

    heard_ends : Hears m t x → drops_in x after ≡ false → IsWatched (after_end end.Pending t (after_steps t after m)) t x ⊎ (is_awaiting t (after_end end.Pending t (after_steps t after m)) ≡ true)
    heard_ends (inr noted) none = inr (kept_ends (steps_kept t t after m (settled_kept t m (stirred_settles (value_at m.tasks.table t) noted))))
    heard_ends (inl is) none = by_fires (fires_in t t x after (replies_of t after m)) refl
      where
        by_fires : (b : Bool) → fires_in t t x after (replies_of t after m) ≡ b → IsWatched (after_end end.Pending t (after_steps t after m)) t x ⊎ (is_awaiting t (after_end end.Pending t (after_steps t after m)) ≡ true)
        by_fires true told = inr (kept_ends (steps_fire t t x after m valid is told))
        by_fires false told = inl (pending_watch t (after_steps t after m) x t (steps_watch t t x after m valid is told (no_takes t x after m none)))

turn_of_report : (t : ℕ) (steps : List TurnStep) (replies : List Reply) (told : Ended) (m : Machine) (queue : List ℕ) → report.Turn t replies told ≡ turn_report_for queue steps end.Pending m → (rest : List ℕ) × (queue ≡ t ∷ rest)
turn_of_report t steps replies told m [] is = absurd (no_reply is)
  where
    no_reply : report.Turn t replies told ≡ report.Reply (reply.Refused refusal.Idle) → ⊥
    no_reply e = cc
turn_of_report t steps replies told m (front ∷ rest) is = (rest, ap (λ u. u ∷ rest) (same is))
  where
    same : report.Turn t replies told ≡ report.Turn front (replies_of front steps (after_begin front rest m)) (end_answer end.Pending front (after_steps front steps (after_begin front rest m))) → front ≡ t
    same e = cc

pub turn_registers : (before after : List TurnStep) (replies : List Reply) (told : Ended) (old new : Machine) (t : ℕ) (x : Source) → IsValid old → Step old (event.Turn (before ++ after) end.Pending) (report.Turn t replies told) new
    → Hears (after_steps t before (begun_machine old.tasks.queue old)) t x → drops_in x after ≡ false → IsWatched new t x ⊎ (is_awaiting t new ≡ true)
turn_registers before after replies told old new t x valid by heard none = by_queue old.tasks.queue refl (turn_of_report t (before ++ after) replies told old old.tasks.queue by.0) heard (by.1)
  where
    by_queue : (queue : List ℕ) → old.tasks.queue ≡ queue → (rest : List ℕ) × (queue ≡ t ∷ rest) → Hears (after_steps t before (begun_machine queue old)) t x → new ≡ after_turn_for queue (before ++ after) end.Pending old → IsWatched new t x ⊎ (is_awaiting t new ≡ true)
    by_queue queue at (rest, is) heard leaves =
        subst (λ y. IsWatched y t x ⊎ (is_awaiting t y ≡ true)) (sym left)
        (heard_ends t x after (after_steps t before (after_begin t rest old)) (steps_valid t before (after_begin t rest old) (begin_valid old t rest (at ∙ is) valid)) (subst IsValid left (step_is_valid old (event.Turn (before ++ after) end.Pending) (report.Turn t replies told) new valid by))
        (subst (λ q. Hears (after_steps t before (begun_machine q old)) t x) is heard) none)
      where
        left : new ≡ after_end end.Pending t (after_steps t after (after_steps t before (after_begin t rest old)))
        left = leaves ∙ ap (λ q. after_turn_for q (before ++ after) end.Pending old) is ∙ ap (after_end end.Pending t) (steps_on t before after (after_begin t rest old))

-- at rest nobody is queued and nobody waits in the inbox
not_queued : (b : Bool) → once_if false ≡ once_if b → b ≡ false
not_queued true is = absurd (impossible is)
  where
    impossible : once_if false ≡ once_if true → ⊥
    impossible e = omega (arith, e)
not_queued false is = refl

not_awaiting : (m : Machine) (t : ℕ) → IsValid m → m.tasks.queue ≡ [] → m.inbox ≡ [] → is_awaiting t m ≡ false
not_awaiting m t valid queue inbox =
    ap (λ i. phases.of_task is_queued (value_at m.tasks.table t) || is_waiting i t) inbox
    ∙ ap (λ b. b || false) (not_queued (phases.of_task is_queued (value_at m.tasks.table t)) (ap (λ q. times q t) (sym queue) ∙ valid.tasks.queue t))

run_valid : (events : List Event) (answers : List Report) (old new : Machine) → IsValid old → Run old events answers new → IsValid new
run_valid [] [] old new valid run = subst IsValid (sym run) valid
run_valid [] (answer ∷ answers) old new valid run = absurd run
run_valid (e ∷ events) [] old new valid run = absurd run
run_valid (e ∷ events) (answer ∷ answers) old new valid (mid, by, run) = run_valid events answers mid new (step_is_valid old e answer mid valid by) run

pub registered_lasts : (before after : List TurnStep) (replies : List Reply) (told : Ended) (events : List Event) (answers : List Report) (old mid new : Machine) (t : ℕ) (x : Source) → IsValid old
    → Step old (event.Turn (before ++ after) end.Pending) (report.Turn t replies told) mid → Hears (after_steps t before (begun_machine old.tasks.queue old)) t x → drops_in x after ≡ false
    → Run mid events answers new → is_taken_in t x events answers ≡ false → has_turn_of t answers ≡ false → has_finished (value_at new.tasks.table t) ≡ false → IsWatched new t x ⊎ (is_awaiting t new ≡ true)
registered_lasts before after replies told events answers old mid new t x valid by heard none run untaken apart unfinished =
    elim (turn_registers before after replies told old mid t x valid by heard none) [
      | inl is ↦ watched_or_awaiting events answers mid new t x (step_is_valid old (event.Turn (before ++ after) end.Pending) (report.Turn t replies told) mid valid by) run is untaken apart unfinished
      | inr is ↦ inr (none_lost events answers mid new t (step_is_valid old (event.Turn (before ++ after) end.Pending) (report.Turn t replies told) mid valid by) run is apart unfinished)
    ]

pub rests_watched : (m : Machine) (t : ℕ) (x : Source) → IsValid m → m.tasks.queue ≡ [] → m.inbox ≡ [] → IsWatched m t x ⊎ (is_awaiting t m ≡ true) → IsWatched m t x
rests_watched m t x valid queue inbox (inl is) = is
rests_watched m t x valid queue inbox (inr is) = absurd (true-false (sym is ∙ not_awaiting m t valid queue inbox))

-- held: by a source, by the queue or the inbox, or for good
same_settled : (v : Option (Task ℕ)) → is_stirred_in v ≡ settled v
same_settled None = refl
same_settled (Some task) = by_phase task.phase
  where
    by_phase : (phase : Phase ℕ) → is_stirred phase ≡ settled_phase phase
    by_phase idle = refl
    by_phase queued = refl
    by_phase (running noted) = refl
    by_phase (done output) = refl
    by_phase taken = refl

called_kept : (t : ℕ) (m : Machine) → (is_stirred_in (value_at m.tasks.table t) || is_waiting m.inbox t) ≡ true → IsKept t m
called_kept t m is = ap (λ b. b || is_waiting m.inbox t) (sym (same_settled (value_at m.tasks.table t))) ∙ is

kept_called : (t : ℕ) (m : Machine) → IsKept t m → (is_stirred_in (value_at m.tasks.table t) || is_waiting m.inbox t) ≡ true
kept_called t m is = ap (λ b. b || is_waiting m.inbox t) (same_settled (value_at m.tasks.table t)) ∙ is

pub held_stays : (old : Machine) (e : Event) (answer : Report) (new : Machine) (t : ℕ) (x : Source) → IsValid old → Step old e answer new → IsHeld old t x → is_turn_of t answer ≡ false → is_taken t x e answer ≡ false → IsHeld new t x
held_stays old e answer new t x valid by (inl is) apart untaken = by_fires (fires t x e answer) refl
  where
    by_fires : (b : Bool) → fires t x e answer ≡ b → IsHeld new t x
    by_fires true told = inr (kept_called t new (event_fires old e answer new t x valid by is told))
    by_fires false told = inl (event_watch old e answer new t x valid by is told untaken)
held_stays old e answer new t x valid by (inr is) apart untaken = inr (kept_called t new (event_kept t old e answer new valid (called_kept t old is) by apart))

pub awaiting_held : (m : Machine) (t : ℕ) (x : Source) → IsWatched m t x ⊎ (is_awaiting t m ≡ true) → IsHeld m t x
awaiting_held m t x (inl is) = inl is
awaiting_held m t x (inr is) = inr (kept_called t m (awaiting_kept t m is))

pub held_waits : (m : Machine) (t : ℕ) (x : Source) → IsValid m → IsHeld m t x → has_finished (value_at m.tasks.table t) ≡ false → IsWatched m t x ⊎ (is_awaiting t m ≡ true)
held_waits m t x valid (inl is) unfinished = inl is
held_waits m t x valid (inr is) unfinished = inr (waits t m valid (called_kept t m is) unfinished)

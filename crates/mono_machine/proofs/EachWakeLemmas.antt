-- A wake leaves its task queued or in the inbox, whatever it answers.
use Rattle.std.proofs.Common.{◌≡◌, inl, inr, ℕ, true, false, Bool, cond, List, [], ◌∷◌, length, Some, None, Option, refl, ap, sym, subst, ◌∙◌, ltb-false}
use Rattle.std.specs.Prelude.{◌==◌, ◌||◌}
use Rattle.std.proofs.lemmas.Bool.Decides.{eqb_tells}
use Rattle.std.proofs.lemmas.List.{get_or_past}
use Rattle.mono_model.specs.Table.{value_at, is_issued}
use Rattle.mono_model.specs.Tasks.{Task, Phase, idle, queued, running, done, taken, is_finished, woken}
use Rattle.mono_model.specs.Inbox.{is_waiting, with_waiting}
use Rattle.mono_machine.specs.Machine.{Machine, with_tasks, with_inbox, IsValid}
use Rattle.mono_machine.specs.Acts.{act_outcome, step_outcome}
use Rattle.mono_machine.specs.Turns.{after_steps, after_begin, turn_report_for, after_turn_for}
use Rattle.mono_machine.specs.Steps.{Step, Run, has_finished, after_remote}
use Rattle.mono_machine.specs.History.{has_turn_of, is_awaiting, is_wake_act, is_wake_step, has_wake_of, is_wake_of}
use Rattle.mono_machine.specs.declared.events.Act.{Act}
use Rattle.mono_machine.specs.declared.events.Act.TheVariants as act
use Rattle.mono_machine.specs.declared.events.TurnStep.{TurnStep}
use Rattle.mono_machine.specs.declared.events.TurnStep.TheVariants as step
use Rattle.mono_machine.specs.declared.events.End.{End}
use Rattle.mono_machine.specs.declared.events.Event.{Event}
use Rattle.mono_machine.specs.declared.events.Event.TheVariants as event
use Rattle.mono_machine.specs.declared.events.Report.{Report}
use Rattle.mono_machine.proofs.ValidStepLemmas.{begin_valid, steps_valid, step_is_valid}
use Rattle.mono_machine.proofs.WakeLemmas.{IsKept, Settles, settled, settled_phase, settled_kept, woken_settles, waiting_last, or_right, steps_kept, end_kept, kept_runs, false-true}

or_left : (a b : Bool) → a ≡ true → (a || b) ≡ true
or_left a b is = ap (λ x. x || b) is

same_of : (u t : ℕ) → (u == t) ≡ true → u ≡ t
same_of u t is = elim (eqb_tells u t) [ inl here ↦ here.1 | inr apart ↦ absurd (false-true (sym apart.0 ∙ is)) ]

finished_settles : (v : Option (Task ℕ)) → has_finished v ≡ true → settled v ≡ true
finished_settles None is = refl
finished_settles (Some task) is = by_phase task.phase is
  where
    by_phase : (phase : Phase ℕ) → is_finished phase ≡ true → settled_phase phase ≡ true
    by_phase idle told = absurd (false-true told)
    by_phase queued told = refl
    by_phase (running noted) told = absurd (false-true told)
    by_phase (done output) told = refl
    by_phase taken told = refl

-- The task may be in the inbox before, or have finished.
remote_reaches : (t : ℕ) (m : Machine) → IsKept t (after_remote m t)
remote_reaches t m = by_issued (is_issued m.tasks.table t) refl (has_finished (value_at m.tasks.table t)) refl (is_waiting m.inbox t) refl
  where
    by_issued : (b : Bool) → is_issued m.tasks.table t ≡ b → (c : Bool) → has_finished (value_at m.tasks.table t) ≡ c → (d : Bool) → is_waiting m.inbox t ≡ d → IsKept t (cond b (cond (c || d) m (with_inbox m (with_waiting m.inbox t))) m)
    by_issued true issued true finished d waits = or_left (settled (value_at m.tasks.table t)) (is_waiting m.inbox t) (finished_settles (value_at m.tasks.table t) finished)
    by_issued true issued false lives true waits = or_right (settled (value_at m.tasks.table t)) _ waits
    by_issued true issued false lives false waits = or_right (settled (value_at m.tasks.table t)) _ (waiting_last m.inbox t)
    by_issued false issued c finished d waits = or_left (settled (value_at m.tasks.table t)) (is_waiting m.inbox t) (ap settled (get_or_past m.tasks.table t None (ltb-false t (length m.tasks.table) issued)))

act_reaches : (t : ℕ) (m : Machine) (a : Act) → is_wake_act t a ≡ true → IsKept t (act_outcome a m).machine
act_reaches t m (act.Wake u) is = settled_kept t (with_tasks m (woken m.tasks u)) (subst (λ x. Settles x (woken m.tasks u)) (same_of u t is) (woken_settles m.tasks u))
act_reaches t m act.Spawn is = absurd (false-true is)
act_reaches t m (act.NewSleep n) is = absurd (false-true is)
act_reaches t m (act.Reset s n) is = absurd (false-true is)
act_reaches t m (act.DropSleep s) is = absurd (false-true is)
act_reaches t m (act.SleepElapsed s) is = absurd (false-true is)
act_reaches t m (act.DropJoin u) is = absurd (false-true is)
act_reaches t m (act.Block output) is = absurd (false-true is)
act_reaches t m (act.DropJob j) is = absurd (false-true is)
act_reaches t m (act.Finished u) is = absurd (false-true is)
act_reaches t m (act.JobFinished j) is = absurd (false-true is)
act_reaches t m (act.JobEnd j h) is = absurd (false-true is)

step_reaches : (t me : ℕ) (m : Machine) (s : TurnStep) → is_wake_step t s ≡ true → IsKept t (step_outcome me s m).machine
step_reaches t me m (step.Act a) is = act_reaches t m a is
step_reaches t me m (step.Query q) is = absurd (false-true is)

steps_reach : (t me : ℕ) (steps : List TurnStep) (m : Machine) → has_wake_of t steps ≡ true → IsKept t (after_steps me steps m)
steps_reach t me [] m is = absurd (false-true is)
steps_reach t me (s ∷ steps) m is = by_first (is_wake_step t s) refl is (steps_reach t me steps (step_outcome me s m).machine)
  where
    by_first : (b : Bool) → is_wake_step t s ≡ b → (b || has_wake_of t steps) ≡ true → (has_wake_of t steps ≡ true → IsKept t (after_steps me steps (step_outcome me s m).machine)) → IsKept t (after_steps me steps (step_outcome me s m).machine)
    by_first true here all later = steps_kept t me steps (step_outcome me s m).machine (step_reaches t me m s here)
    by_first false here all later = later all

turn_reaches : (t : ℕ) (steps : List TurnStep) (e : End) (m : Machine) → IsValid m → (queue : List ℕ) → m.tasks.queue ≡ queue → is_wake_of t (event.Turn steps e) (turn_report_for queue steps e m) ≡ true → IsKept t (after_turn_for queue steps e m)
turn_reaches t steps e m valid [] at is = absurd (false-true is)
turn_reaches t steps e m valid (front ∷ rest) at is =
    end_kept t front e (after_steps front steps (after_begin front rest m)) (steps_valid front steps (after_begin front rest m) (begin_valid m front rest at valid))
    (steps_reach t front steps (after_begin front rest m) is)

event_reaches : (t : ℕ) (old : Machine) (e : Event) (answer : Report) (new : Machine) → IsValid old → Step old e answer new → is_wake_of t e answer ≡ true → IsKept t new
event_reaches t old (event.Act a) answer new valid by is = subst (IsKept t) (sym by.1) (act_reaches t old a is)
event_reaches t old (event.Turn steps e) answer new valid by is =
    subst (IsKept t) (sym by.1) (turn_reaches t steps e old valid old.tasks.queue refl (sym (ap (is_wake_of t (event.Turn steps e)) by.0) ∙ is))
event_reaches t old (event.Clock n) answer new valid by is = absurd (false-true is)
event_reaches t old (event.Remote u) answer new valid by is = subst (IsKept t) (sym by.1) (subst (λ x. IsKept t (after_remote old x)) (sym (same_of u t is)) (remote_reaches t old))
event_reaches t old event.Drain answer new valid by is = absurd (false-true is)

pub each_wake_reaches : (e : Event) (answer : Report) (events : List Event) (answers : List Report) (old mid new : Machine) (t : ℕ) → IsValid old → Step old e answer mid → is_wake_of t e answer ≡ true → Run mid events answers new
    → has_turn_of t answers ≡ false → has_finished (value_at new.tasks.table t) ≡ false → is_awaiting t new ≡ true
each_wake_reaches e answer events answers old mid new t valid by is run apart unfinished =
    kept_runs t events answers mid new (step_is_valid old e answer mid valid by) (event_reaches t old e answer mid valid by is) run apart unfinished

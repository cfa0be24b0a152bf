-- How often a sleep is armed by one step, by one turn and by one event.
use Rattle.std.proofs.Common.{◌≡◌, ◌≤◌, ℕ, ◌+◌, true, false, Bool, cond, List, [], ◌∷◌, length, Some, None, Option, refl, ap, ◌∙◌, arith}
use Rattle.std.specs.Prelude.{nat_le, nat_lt, ◌||◌, Result, Ok, Err, IfOk}
use Rattle.mono_model.specs.Ticks.{up, max_nanos}
use Rattle.mono_model.specs.Table.{value_at, is_full, is_issued}
use Rattle.mono_model.specs.Inbox.{is_waiting}
use Rattle.mono_model.specs.Sleeps.{Sleeps, Sleep, fresh, armed, elapsed, armed_above}
use Rattle.mono_model.specs.SleepActs as sleep
use Rattle.mono_machine.specs.Machine.{Machine}
use Rattle.mono_machine.specs.Acts.{Outcome, for_sleep, block, act_outcome, query_outcome, step_outcome}
use Rattle.mono_machine.specs.Turns.{after_steps, after_begin, after_end, after_turn_for}
use Rattle.mono_machine.specs.Steps.{Step, ClockStep, after_fire, after_fires, at_clock, after_remote, has_finished}
use Rattle.mono_machine.specs.declared.events.Act.{Act}
use Rattle.mono_machine.specs.declared.events.Act.TheVariants as act
use Rattle.mono_machine.specs.declared.events.Query.{Query}
use Rattle.mono_machine.specs.declared.events.Query.TheVariants as query
use Rattle.mono_machine.specs.declared.events.TurnStep.{TurnStep}
use Rattle.mono_machine.specs.declared.events.TurnStep.TheVariants as step
use Rattle.mono_machine.specs.declared.events.End.{End}
use Rattle.mono_machine.specs.declared.events.End.TheVariants as end
use Rattle.mono_machine.specs.declared.events.Event.{Event}
use Rattle.mono_machine.specs.declared.events.Event.TheVariants as event
use Rattle.mono_machine.specs.declared.events.Report.{Report}
use Rattle.mono_machine.specs.declared.events.Report.TheVariants as report
use Rattle.mono_machine.specs.declared.events.Blocking.{Blocking}
use Rattle.mono_machine.specs.declared.events.Blocking.TheVariants as blocking
use Rattle.mono_trace.specs.Versions.{Versions}
use Rattle.mono_trace.specs.Trials.{Told, Tried}

either_sleeps : (b : Bool) (x y : Sleeps) (k : ℕ) → x.arm_count ≤ k → y.arm_count ≤ k → (cond b x y).arm_count ≤ k
either_sleeps true x y k one other = one
either_sleeps false x y k one other = other

either_outcome : (b : Bool) (x y : Outcome) (k : ℕ) → x.machine.sleeps.arm_count ≤ k → y.machine.sleeps.arm_count ≤ k → (cond b x y).machine.sleeps.arm_count ≤ k
either_outcome true x y k one other = one
either_outcome false x y k one other = other

live_sleeps : (v : Option Sleep) (sleeps : Sleeps) (after : Sleep → Sleeps) (k : ℕ) → sleeps.arm_count ≤ k → ((x : Sleep) → (after x).arm_count ≤ k) → (sleep.if_live v sleeps after).arm_count ≤ k
live_sleeps None sleeps after k same each = same
live_sleeps (Some x) sleeps after k same each = each x

poll_arms : (x : Sleep) (sleeps : Sleeps) (s by : ℕ) → (sleep.after_poll x sleeps s by).arm_count ≤ sleeps.arm_count + 1
poll_arms (fresh nanos) sleeps s by = either_sleeps (nat_le (up nanos) sleeps.greatest) _ _ _ (omega arith) (omega arith)
poll_arms (armed a) sleeps s by = omega arith
poll_arms elapsed sleeps s by = omega arith

above_arms : (x : Sleep) (sleeps : Sleeps) (s tick : ℕ) → (armed_above x sleeps s tick).arm_count ≤ sleeps.arm_count + 1
above_arms (fresh nanos) sleeps s tick = omega arith
above_arms (armed a) sleeps s tick = either_sleeps (nat_le a.tick tick) _ _ _ (omega arith) (omega arith)
above_arms elapsed sleeps s tick = omega arith

reset_arms : (sleeps : Sleeps) (s n : ℕ) → (sleep.reset sleeps s n).arm_count ≤ sleeps.arm_count + 1
reset_arms sleeps s n =
    live_sleeps (value_at sleeps.table s) sleeps _ _ (omega arith)
    (λ x. either_sleeps (nat_le (up n) sleeps.greatest) _ (armed_above x sleeps s (up n)) _ (omega arith) (above_arms x sleeps s (up n)))

there : (v : Option Sleep) (m : Machine) (o : Outcome) (k : ℕ) → m.sleeps.arm_count ≤ k → o.machine.sleeps.arm_count ≤ k → (for_sleep v m o).machine.sleeps.arm_count ≤ k
there None m o k same other = same
there (Some x) m o k same other = other

block_arms : (b : Blocking) (output : ℕ) (m : Machine) → (block b output m).machine.sleeps.arm_count ≤ m.sleeps.arm_count + 1
block_arms blocking.Attached output m = omega arith
block_arms blocking.ExecuteLocal output m = omega arith
block_arms blocking.Panic output m = omega arith

act_arms : (a : Act) (m : Machine) → (act_outcome a m).machine.sleeps.arm_count ≤ m.sleeps.arm_count + 1
act_arms act.Spawn m = either_outcome (is_full m.tasks.table m.tasks.limit) _ _ _ (omega arith) (omega arith)
act_arms (act.Wake t) m = omega arith
act_arms (act.NewSleep n) m =
    either_outcome (is_full m.sleeps.table m.sleeps.limit) _ _ _ (omega arith) (either_outcome (nat_lt max_nanos n) _ _ _ (omega arith) (omega arith))
act_arms (act.Reset s n) m =
    there (value_at m.sleeps.table s) m _ _ (omega arith) (either_outcome (nat_lt max_nanos n) _ _ _ (omega arith) (reset_arms m.sleeps s n))
act_arms (act.DropSleep s) m = live_sleeps (value_at m.sleeps.table s) m.sleeps _ _ (omega arith) (λ x. omega arith)
act_arms (act.DropJoin t) m = omega arith
act_arms (act.Block output) m = either_outcome (is_full m.jobs.table m.jobs.limit) _ _ _ (omega arith) (block_arms m.strategy output m)
act_arms (act.DropJob j) m = omega arith
act_arms (act.Finished t) m = omega arith
act_arms (act.JobFinished j) m = omega arith
act_arms (act.SleepElapsed s) m = omega arith
act_arms (act.JobEnd j h) m = omega arith

query_arms : (me : ℕ) (q : Query) (m : Machine) → (query_outcome me q m).machine.sleeps.arm_count ≤ m.sleeps.arm_count + 1
query_arms me (query.Sleep s) m = live_sleeps (value_at m.sleeps.table s) m.sleeps _ _ (omega arith) (λ x. poll_arms x m.sleeps s me)
query_arms me (query.Join t) m = omega arith
query_arms me (query.Job j) m = omega arith

pub step_arms : (me : ℕ) (s : TurnStep) (m : Machine) → (step_outcome me s m).machine.sleeps.arm_count ≤ m.sleeps.arm_count + 1
step_arms me (step.Act a) m = act_arms a m
step_arms me (step.Query q) m = query_arms me q m

pub steps_arms : (me : ℕ) (steps : List TurnStep) (m : Machine) → (after_steps me steps m).sleeps.arm_count ≤ m.sleeps.arm_count + length steps
steps_arms me [] m = omega arith
steps_arms me (s ∷ steps) m = omega (arith, steps_arms me steps (step_outcome me s m).machine, step_arms me s m)

pub stepped : (new : Machine) (me : ℕ) (s : TurnStep) (m : Machine) → new ≡ (step_outcome me s m).machine → new.sleeps.arm_count ≤ m.sleeps.arm_count + 1
stepped new me s m is = omega (arith, ap (λ x. x.sleeps.arm_count) is, step_arms me s m)

end_arms : (e : End) (me : ℕ) (m : Machine) → (after_end e me m).sleeps.arm_count ≡ m.sleeps.arm_count
end_arms end.Pending me m = refl
end_arms (end.Ready output) me m = refl

turn_arms : (queue : List ℕ) (steps : List TurnStep) (e : End) (m : Machine) → (after_turn_for queue steps e m).sleeps.arm_count ≤ m.sleeps.arm_count + length steps
turn_arms [] steps e m = omega arith
turn_arms (front ∷ rest) steps e m =
    let begun : Machine = after_begin front rest m in
    omega (arith, end_arms e front (after_steps front steps begun), steps_arms front steps begun)

fires_arms : (fired : List ℕ) (m : Machine) → (after_fires m fired).sleeps.arm_count ≡ m.sleeps.arm_count
fires_arms [] m = refl
fires_arms (s ∷ fired) m = fires_arms fired (after_fire m s)

either_machine : (b : Bool) (x y : Machine) (k : ℕ) → x.sleeps.arm_count ≡ k → y.sleeps.arm_count ≡ k → (cond b x y).sleeps.arm_count ≡ k
either_machine true x y k one other = one
either_machine false x y k one other = other

clock_arms : (answer : Report) (old : Machine) (n : ℕ) (new : Machine) → ClockStep old n answer new → new.sleeps.arm_count ≡ old.sleeps.arm_count
clock_arms (report.Fired fired) old n new (within, may, is) = ap (λ m. m.sleeps.arm_count) is ∙ fires_arms fired (at_clock old n)
clock_arms (report.Reply r) old n new (above, reply, is) = ap (λ m. m.sleeps.arm_count) is
clock_arms (report.Turn t replies ended) old n new step = absurd step
clock_arms report.Listed old n new step = absurd step
clock_arms report.Unlisted old n new step = absurd step
clock_arms (report.Drained tasks) old n new step = absurd step

abbrev pub steps_in : Event → ℕ
steps_in (event.Act a) = 1
steps_in (event.Turn steps e) = length steps
steps_in (event.Clock n) = 0
steps_in (event.Remote t) = 0
steps_in event.Drain = 0

pub event_arms : (e : Event) (answer : Report) (old new : Machine) → Step old e answer new → new.sleeps.arm_count ≤ old.sleeps.arm_count + steps_in e
event_arms (event.Act a) answer old new step = omega (arith, ap (λ m. m.sleeps.arm_count) step.1, act_arms a old)
event_arms (event.Turn steps e) answer old new step = omega (arith, ap (λ m. m.sleeps.arm_count) step.1, turn_arms old.tasks.queue steps e old)
event_arms (event.Clock n) answer old new step = omega (arith, clock_arms answer old n new step)
event_arms (event.Remote t) answer old new step = omega (arith, ap (λ m. m.sleeps.arm_count) step.1, remote_arms old t)
  where
    remote_arms : (m : Machine) (t : ℕ) → (after_remote m t).sleeps.arm_count ≡ m.sleeps.arm_count
    remote_arms m t = either_machine (is_issued m.tasks.table t) _ m _ (either_machine (has_finished (value_at m.tasks.table t) || is_waiting m.inbox t) m _ _ refl refl) refl
event_arms event.Drain answer old new step = omega (arith, ap (λ m. m.sleeps.arm_count) step.1)

pub if_ok : {A E : Type 0} (r : Result A E) (P Q : A → Type 0) → ((a : A) → P a → Q a) → IfOk r P → IfOk r Q
if_ok (Ok a) P Q each holds = each a holds
if_ok (Err e) P Q each holds = holds

pub told_arms : (steps : List TurnStep) (e : End) (answer expected : Report) (old new : Versions Machine) (k : ℕ) → length steps ≤ k → (b : Bool)
    → Told answer expected (after_turn_for old.now.tasks.queue steps e old.now) old new b → b ≡ true → new.now.sleeps.arm_count ≤ old.now.sleeps.arm_count + k
told_arms steps e answer expected old new k short true told is = omega (arith, short, ap (λ m. m.sleeps.arm_count) told.1, turn_arms old.now.tasks.queue steps e old.now)
told_arms steps e answer expected old new k short false told is = absurd (false-true is)
  where
    false-true : false ≡ true → ⊥
    false-true same = cc

pub tried_arms : (n : ℕ) (answer : Report) (old new : Versions Machine) (k : ℕ) (b : Bool) → Tried (event.Clock n) answer old new b → b ≡ true → new.now.sleeps.arm_count ≤ old.now.sleeps.arm_count + k
tried_arms n answer old new k true step is = omega (arith, clock_arms answer old.now n new.now step)
tried_arms n answer old new k false step is = absurd (false-true is)
  where
    false-true : false ≡ true → ⊥
    false-true same = cc

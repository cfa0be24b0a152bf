-- No event but a clock step moves the greatest tick of the clock.
use Rattle.std.proofs.Common.{◌≡◌, ℕ, max, true, false, Bool, cond, List, [], ◌∷◌, Some, None, Option, refl, ap, ◌∙◌}
use Rattle.std.specs.Prelude.{nat_le, nat_lt, ◌||◌}
use Rattle.mono_model.specs.Ticks.{max_nanos, up, down}
use Rattle.mono_model.specs.Table.{value_at, is_full, is_issued}
use Rattle.mono_model.specs.Inbox.{is_waiting}
use Rattle.mono_model.specs.Sleeps.{Sleeps, Sleep, fresh, armed, elapsed, with_sleep, armed_later, armed_anew, armed_above, after_arming}
use Rattle.mono_model.specs.SleepActs as sleep
use Rattle.mono_machine.specs.Machine.{Machine}
use Rattle.mono_machine.specs.Acts.{Outcome, reset, for_sleep, block, act_outcome, query_outcome, step_outcome}
use Rattle.mono_machine.specs.Turns.{after_steps, after_end, after_begin, after_turn_for}
use Rattle.mono_machine.specs.Steps.{Step, has_finished, after_remote, at_clock}
use Rattle.mono_machine.specs.declared.events.Act.{Act}
use Rattle.mono_machine.specs.declared.events.Act.TheVariants as act
use Rattle.mono_machine.specs.declared.events.Query.{Query}
use Rattle.mono_machine.specs.declared.events.Query.TheVariants as query
use Rattle.mono_machine.specs.declared.events.TurnStep.{TurnStep}
use Rattle.mono_machine.specs.declared.events.TurnStep.TheVariants as step
use Rattle.mono_machine.specs.declared.events.End.{End}
use Rattle.mono_machine.specs.declared.events.End.TheVariants as end
use Rattle.mono_machine.specs.declared.events.Event.TheVariants as event
use Rattle.mono_machine.specs.declared.events.Report.{Report}
use Rattle.mono_machine.specs.declared.events.Report.TheVariants as report
use Rattle.mono_machine.specs.declared.events.Blocking.{Blocking}
use Rattle.mono_machine.specs.declared.events.Blocking.TheVariants as blocking
use Rattle.mono_machine.proofs.FireLemmas.{fires-greatest}

-- the greatest tick of a machine
abbrev pub tick_of : Machine → ℕ
tick_of m = m.sleeps.greatest

either_sleeps : (b : Bool) (x y : Sleeps) (g : ℕ) → x.greatest ≡ g → y.greatest ≡ g → (cond b x y).greatest ≡ g
either_sleeps true x y g first second = first
either_sleeps false x y g first second = second

either_outcome : (b : Bool) (x y : Outcome) (g : ℕ) → tick_of x.machine ≡ g → tick_of y.machine ≡ g → tick_of (cond b x y).machine ≡ g
either_outcome true x y g first second = first
either_outcome false x y g first second = second

either_machine : (b : Bool) (x y : Machine) (g : ℕ) → tick_of x ≡ g → tick_of y ≡ g → tick_of (cond b x y) ≡ g
either_machine true x y g first second = first
either_machine false x y g first second = second

if_live : (v : Option Sleep) (sleeps : Sleeps) (after : Sleep → Sleeps) → ((s : Sleep) → (after s).greatest ≡ sleeps.greatest) → (sleep.if_live v sleeps after).greatest ≡ sleeps.greatest
if_live None sleeps after same = refl
if_live (Some s) sleeps after same = same s

armed_same : (old : Sleep) (sleeps : Sleeps) (s tick : ℕ) → (armed_above old sleeps s tick).greatest ≡ sleeps.greatest
armed_same (fresh n) sleeps s tick = refl
armed_same (armed a) sleeps s tick = either_sleeps (nat_le a.tick tick) (armed_later sleeps s tick a) (armed_anew sleeps s tick a.waker) sleeps.greatest refl refl
armed_same elapsed sleeps s tick = refl

arming_same : (sleeps : Sleeps) (s tick : ℕ) (old : Sleep) → (after_arming old sleeps s tick).greatest ≡ sleeps.greatest
arming_same sleeps s tick old = either_sleeps (nat_le tick sleeps.greatest) (with_sleep sleeps s elapsed) (armed_above old sleeps s tick) sleeps.greatest refl (armed_same old sleeps s tick)

reset_same : (sleeps : Sleeps) (s n : ℕ) → (sleep.reset sleeps s n).greatest ≡ sleeps.greatest
reset_same sleeps s n = if_live (value_at sleeps.table s) sleeps (λ old. after_arming old sleeps s (up n)) (arming_same sleeps s (up n))

removed_same : (sleeps : Sleeps) (s : ℕ) → (sleep.removed sleeps s).greatest ≡ sleeps.greatest
removed_same sleeps s = if_live (value_at sleeps.table s) sleeps _ (λ old. refl)

poll_same : (sleeps : Sleeps) (s by : ℕ) (old : Sleep) → (sleep.after_poll old sleeps s by).greatest ≡ sleeps.greatest
poll_same sleeps s by (fresh n) = either_sleeps (nat_le (up n) sleeps.greatest) (with_sleep sleeps s elapsed) (armed_anew sleeps s (up n) (Some by)) sleeps.greatest refl refl
poll_same sleeps s by (armed a) = refl
poll_same sleeps s by elapsed = refl

polled_same : (sleeps : Sleeps) (s by : ℕ) → (sleep.polled sleeps s by).greatest ≡ sleeps.greatest
polled_same sleeps s by = if_live (value_at sleeps.table s) sleeps (λ old. sleep.after_poll old sleeps s by) (poll_same sleeps s by)

for_sleep_same : (v : Option Sleep) (m : Machine) (o : Outcome) → tick_of o.machine ≡ tick_of m → tick_of (for_sleep v m o).machine ≡ tick_of m
for_sleep_same None m o same = refl
for_sleep_same (Some s) m o same = same

block_same : (b : Blocking) (output : ℕ) (m : Machine) → tick_of (block b output m).machine ≡ tick_of m
block_same blocking.Attached output m = refl
block_same blocking.ExecuteLocal output m = refl
block_same blocking.Panic output m = refl

act_same : (a : Act) (m : Machine) → tick_of (act_outcome a m).machine ≡ tick_of m
act_same act.Spawn m = either_outcome (is_full m.tasks.table m.tasks.limit) _ _ (tick_of m) refl refl
act_same (act.Wake t) m = refl
act_same (act.NewSleep n) m = either_outcome (is_full m.sleeps.table m.sleeps.limit) _ _ (tick_of m) refl (either_outcome (nat_lt max_nanos n) _ _ (tick_of m) refl refl)
act_same (act.Reset s n) m = for_sleep_same (value_at m.sleeps.table s) m _ (either_outcome (nat_lt max_nanos n) _ (reset s n m) (tick_of m) refl (reset_same m.sleeps s n))
act_same (act.DropSleep s) m = removed_same m.sleeps s
act_same (act.DropJoin t) m = refl
act_same (act.Block output) m = either_outcome (is_full m.jobs.table m.jobs.limit) _ (block m.strategy output m) (tick_of m) refl (block_same m.strategy output m)
act_same (act.DropJob j) m = refl
act_same (act.Finished t) m = refl
act_same (act.JobFinished j) m = refl
act_same (act.SleepElapsed s) m = refl
act_same (act.JobEnd j h) m = refl

query_same : (me : ℕ) (q : Query) (m : Machine) → tick_of (query_outcome me q m).machine ≡ tick_of m
query_same me (query.Sleep s) m = polled_same m.sleeps s me
query_same me (query.Join t) m = refl
query_same me (query.Job j) m = refl

step_same : (me : ℕ) (s : TurnStep) (m : Machine) → tick_of (step_outcome me s m).machine ≡ tick_of m
step_same me (step.Act a) m = act_same a m
step_same me (step.Query q) m = query_same me q m

steps_same : (me : ℕ) (steps : List TurnStep) (m : Machine) → tick_of (after_steps me steps m) ≡ tick_of m
steps_same me [] m = refl
steps_same me (s ∷ steps) m = steps_same me steps (step_outcome me s m).machine ∙ step_same me s m

end_same : (e : End) (me : ℕ) (m : Machine) → tick_of (after_end e me m) ≡ tick_of m
end_same end.Pending me m = refl
end_same (end.Ready output) me m = refl

turn_for_same : (queue : List ℕ) (steps : List TurnStep) (e : End) (m : Machine) → tick_of (after_turn_for queue steps e m) ≡ tick_of m
turn_for_same [] steps e m = refl
turn_for_same (front ∷ rest) steps e m = end_same e front (after_steps front steps (after_begin front rest m)) ∙ steps_same front steps (after_begin front rest m)

pub turn_keeps : (old new : Machine) (steps : List TurnStep) (e : End) (answer : Report) → Step old (event.Turn steps e) answer new → tick_of new ≡ tick_of old
turn_keeps old new steps e answer is = ap tick_of is.1 ∙ turn_for_same old.tasks.queue steps e old

pub act_keeps : (old new : Machine) (a : Act) (answer : Report) → Step old (event.Act a) answer new → tick_of new ≡ tick_of old
act_keeps old new a answer is = ap tick_of is.1 ∙ act_same a old

remote_same : (m : Machine) (t : ℕ) → tick_of (after_remote m t) ≡ tick_of m
remote_same m t = either_machine (is_issued m.tasks.table t) _ m (tick_of m) (either_machine (has_finished (value_at m.tasks.table t) || is_waiting m.inbox t) m _ (tick_of m) refl refl) refl

pub remote_keeps : (old new : Machine) (t : ℕ) (answer : Report) → Step old (event.Remote t) answer new → tick_of new ≡ tick_of old
remote_keeps old new t answer is = ap tick_of is.1 ∙ remote_same old t

pub drain_keeps : (old new : Machine) (answer : Report) → Step old event.Drain answer new → tick_of new ≡ tick_of old
drain_keeps old new answer is = ap tick_of is.1

pub clock_moves : (old new : Machine) (n : ℕ) (fired : List ℕ) → Step old (event.Clock n) (report.Fired fired) new → tick_of new ≡ max (tick_of old) (down n)
clock_moves old new n fired is = ap tick_of is.2 ∙ fires-greatest (at_clock old n) fired

-- Each step leads from a valid machine to a valid one.
use Rattle.std.proofs.Common.{◌≡◌, ◌≢◌, ◌<◌, inl, inr, ℕ, zero, suc, true, false, Bool, cond, List, [], ◌∷◌, length, get_or, max, Some, None, Option, refl, ap, sym, subst, ◌∙◌, arith}
use Rattle.std.specs.Prelude.{IfSome, Contains, ◌||◌}
use Rattle.std.specs.List.{AllByRecursion}
use Rattle.std.proofs.lemmas.Bool.{cases_eq, cases_lt, ltb-true}
use Rattle.std.proofs.lemmas.List.{get_or-set_other, get_or-set_same, get_or_past, length-set}
use Rattle.std.proofs.lemmas.List.Elements.{recursion_from_All, Contains-get_or}
use Rattle.mono_model.specs.Ticks.{down}
use Rattle.mono_model.specs.Table.{Table, value_at, next_number, is_issued, with_value}
use Rattle.mono_model.specs.Tasks.{begun, all_woken}
use Rattle.mono_model.specs.Sleeps.{Sleeps, Sleep, Arming, fresh, armed, elapsed, with_greatest, IsDueSleep, MayFire}
use Rattle.mono_model.specs.Inbox.{is_waiting, with_waiting}
use Rattle.mono_model.specs.Valid.{AreValidTasks, AreValidSleeps, IsValidSleep}
use Rattle.mono_model.proofs.ValidTaskLemmas.{valid_begun, valid_paused, valid_completed, valid_woken_if_any, valid_all_woken, next_number-begun, next_number-paused, next_number-completed, next_number-woken_if_any, next_number-all_woken}
use Rattle.mono_model.proofs.ValidSleepLemmas.{valid_elapsed}
use Rattle.mono_model.specs.SleepActs.{waker_at}
use Rattle.mono_machine.specs.Machine.{Machine, with_tasks, with_inbox, start_machine, IsValidDuring, IsValid}
use Rattle.mono_machine.specs.Acts.{step_outcome}
use Rattle.mono_machine.specs.Turns.{after_steps, after_end, after_begin, after_turn_for}
use Rattle.mono_machine.specs.Steps.{Step, ClockStep, after_fire, after_fires, at_clock, greatest_at, has_finished, after_remote, after_drain}
use Rattle.mono_machine.specs.declared.events.TurnStep.{TurnStep}
use Rattle.mono_machine.specs.declared.events.End.{End}
use Rattle.mono_machine.specs.declared.events.End.TheVariants as end
use Rattle.mono_machine.specs.declared.events.Limits.{Limits}
use Rattle.mono_machine.specs.declared.events.Blocking.{Blocking}
use Rattle.mono_machine.specs.declared.events.Event.{Event}
use Rattle.mono_machine.specs.declared.events.Event.TheVariants as event
use Rattle.mono_machine.specs.declared.events.Report.{Report}
use Rattle.mono_machine.specs.declared.events.Report.TheVariants as report
use Rattle.mono_machine.proofs.ValidPartLemmas.{other_tasks, other_inbox, put_valid, empty_valid}
use Rattle.mono_machine.proofs.ValidActLemmas.{act_valid, step_valid}

-- a turn
pub steps_valid : (me : ℕ) (steps : List TurnStep) (m : Machine) → IsValidDuring (Some me) m → IsValidDuring (Some me) (after_steps me steps m)
steps_valid me [] m valid = valid
steps_valid me (s ∷ steps) m valid = steps_valid me steps (step_outcome me s m).machine (step_valid me m valid s)

end_valid : (e : End) (me : ℕ) (m : Machine) → IsValidDuring (Some me) m → IsValid (after_end e me m)
end_valid end.Pending me m valid =
    other_tasks (Some me) None m _ valid (valid_paused me m.tasks valid.tasks) (omega (arith, next_number-paused (value_at m.tasks.table me) m.tasks me))
end_valid (end.Ready o) me m valid =
    other_tasks (Some me) None m _ valid (valid_completed me m.tasks valid.tasks o) (omega (arith, next_number-completed (value_at m.tasks.table me) m.tasks me o))

pub begin_valid : (m : Machine) (front : ℕ) (rest : List ℕ) → m.tasks.queue ≡ front ∷ rest → IsValid m → IsValidDuring (Some front) (after_begin front rest m)
begin_valid m front rest is valid = other_tasks None (Some front) m (begun m.tasks front rest) valid (valid_begun m.tasks front rest is valid.tasks) (omega (arith, next_number-begun m.tasks front rest))

turn_valid : (steps : List TurnStep) (e : End) (m : Machine) → IsValid m → (queue : List ℕ) → m.tasks.queue ≡ queue → IsValid (after_turn_for queue steps e m)
turn_valid steps e m valid [] is = valid
turn_valid steps e m valid (front ∷ rest) is =
    end_valid e front _ (steps_valid front steps (after_begin front rest m) (begin_valid m front rest is valid))

-- a clock step
some-armed : (b : Arming) → Some elapsed ≡ Some (armed b) → ⊥
some-armed b e = cc

none-armed : (b : Arming) → None ≡ Some (armed b) → ⊥
none-armed b e = cc

tasks_valid : (x : Machine) (fired : List ℕ) → AreValidTasks None x.tasks → AreValidTasks None (after_fires x fired).tasks
tasks_valid x [] valid = valid
tasks_valid x (s ∷ fired) valid = tasks_valid (after_fire x s) fired (valid_woken_if_any None x.tasks (waker_at x.sleeps s) valid)

same_next : (x : Machine) (fired : List ℕ) → next_number (after_fires x fired).tasks.table ≡ next_number x.tasks.table
same_next x [] = refl
same_next x (s ∷ fired) = same_next (after_fire x s) fired ∙ next_number-woken_if_any x.tasks (waker_at x.sleeps s)

pub same_jobs : (x : Machine) (fired : List ℕ) → (after_fires x fired).jobs ≡ x.jobs
same_jobs x [] = refl
same_jobs x (s ∷ fired) = same_jobs (after_fire x s) fired

same_inbox : (x : Machine) (fired : List ℕ) → (after_fires x fired).inbox ≡ x.inbox
same_inbox x [] = refl
same_inbox x (s ∷ fired) = same_inbox (after_fire x s) fired

same_greatest : (x : Machine) (fired : List ℕ) → (after_fires x fired).sleeps.greatest ≡ x.sleeps.greatest
same_greatest x [] = refl
same_greatest x (s ∷ fired) = same_greatest (after_fire x s) fired

abbrev IsThere : Table Sleep → ℕ → Type 0
IsThere table s = (sleep : Sleep) × (value_at table s ≡ Some sleep)

inside : (table : Table Sleep) (s : ℕ) (sleep : Sleep) → value_at table s ≡ Some sleep → s < length table
inside table s sleep at = elim (cases_lt s (length table)) [ inl below ↦ below | inr past ↦ absurd (none-some sleep (sym (get_or_past table s None past) ∙ at)) ]
  where
    none-some : (x : Sleep) → None ≡ Some x → ⊥
    none-some x e = cc

still_there : (table : Table Sleep) (s : ℕ) → IsThere table s → (q : ℕ) → IsThere table q → IsThere (with_value table s elapsed) q
still_there table s there q at = elim (cases_eq q s) [
  | inl same ↦ (elapsed, ap (λ x. value_at (with_value table s elapsed) x) same ∙ get_or-set_same table s (Some elapsed) None (inside table s there.0 there.1))
  | inr apart ↦ (at.0, get_or-set_other table s q (Some elapsed) None apart ∙ at.1)
]

all_weaker : (P Q : ℕ → Type 0) → ((x : ℕ) → P x → Q x) → (xs : List ℕ) → AllByRecursion P xs → AllByRecursion Q xs
all_weaker P Q weaker [] all = tt
all_weaker P Q weaker (x ∷ xs) all = (weaker x all.0, all_weaker P Q weaker xs all.1)

-- against the greatest tick from before, each of these machines is valid
sleeps_valid : (next g : ℕ) (x : Machine) (fired : List ℕ) → AllByRecursion (IsThere x.sleeps.table) fired → AreValidSleeps next (with_greatest x.sleeps g) → AreValidSleeps next (with_greatest (after_fires x fired).sleeps g)
sleeps_valid next g x [] there valid = valid
sleeps_valid next g x (s ∷ fired) there valid =
    sleeps_valid next g (after_fire x s) fired
    (all_weaker (IsThere x.sleeps.table) (IsThere (with_value x.sleeps.table s elapsed)) (still_there x.sleeps.table s there.0) fired there.1)
    (valid_elapsed next (with_greatest x.sleeps g) valid s there.0.0 there.0.1)

-- a sleep that is armed in the end was armed so before, and is not listed
armed_after : (x : Machine) (fired : List ℕ) (q : ℕ) (b : Arming) → value_at (after_fires x fired).sleeps.table q ≡ Some (armed b) → (value_at x.sleeps.table q ≡ Some (armed b)) × (Contains fired q → ⊥)
armed_after x [] q b at = (at, λ (k, below, is). absurd (omega (arith, below)))
armed_after x (s ∷ fired) q b at =
    let later = armed_after (after_fire x s) fired q b at in
    let apart : q ≢ s = λ same. elim (cases_lt s (length x.sleeps.table)) [
      | inl below ↦ some-armed b (sym (get_or-set_same x.sleeps.table s (Some elapsed) None below) ∙ ap (λ t. value_at (with_value x.sleeps.table s elapsed) t) (sym same) ∙ later.0)
      | inr past ↦ none-armed b (sym (get_or_past (with_value x.sleeps.table s elapsed) s None (omega (arith, past, length-set x.sleeps.table s (Some elapsed)))) ∙ ap (λ t. value_at (with_value x.sleeps.table s elapsed) t) (sym same) ∙ later.0)
    ] in
    (sym (get_or-set_other x.sleeps.table s q (Some elapsed) None apart) ∙ later.0, not_listed q s fired apart later.1)
  where
    not_listed : (q s : ℕ) (ss : List ℕ) → q ≢ s → (Contains ss q → ⊥) → Contains (s ∷ ss) q → ⊥
    not_listed q s ss apart out (zero, below, is) = apart (sym is)
    not_listed q s ss apart out (suc k, below, is) = out (k, omega (arith, below), is)

above : (next g : ℕ) (sl : Sleeps) → (v : Option Sleep) → IfSome v (IsValidSleep next sl) → ((b : Arming) → v ≡ Some (armed b) → g < b.tick) → IfSome v (IsValidSleep next (with_greatest sl g))
above next g sl None valid high = tt
above next g sl (Some (fresh n)) valid high = tt
above next g sl (Some (armed a)) valid high = (high a refl, valid.1, valid.2)
above next g sl (Some elapsed) valid high = tt

due_there : (v : Option Sleep) (g : ℕ) → IsDueSleep v g → (sleep : Sleep) × (v ≡ Some sleep)
due_there None g due = absurd due
due_there (Some sleep) g due = (sleep, refl)

clock_valid : (m : Machine) (n : ℕ) (fired : List ℕ) → MayFire m.sleeps.table (greatest_at m n) fired → IsValid m → IsValid (after_fires (at_clock m n) fired)
clock_valid m n fired may valid =
    let x : Machine = at_clock m n in
    let g : ℕ = greatest_at m n in
    let new : Machine = after_fires x fired in
    let next : ℕ = next_number m.tasks.table in
    let there : AllByRecursion (IsThere m.sleeps.table) fired = recursion_from_All (IsThere m.sleeps.table) fired (λ k d below. due_there _ g ((may.all_due (get_or fired k d)).0 (Contains-get_or fired k d below))) in
    let low : AreValidSleeps next (with_greatest new.sleeps m.sleeps.greatest) = sleeps_valid next m.sleeps.greatest x fired there valid.sleeps in
    let high : (q : ℕ) (b : Arming) → value_at new.sleeps.table q ≡ Some (armed b) → g < b.tick = λ q b at.
    let before = armed_after x fired q b at in
    elim (cases_lt g b.tick) [ inl is ↦ is | inr due ↦ absurd (before.1 ((may.all_due q).1 (subst (λ v. IsDueSleep v g) (sym before.0) due))) ] in
    let sleeps : AreValidSleeps next (with_greatest new.sleeps g) = record {
      each = λ q. above next g (with_greatest new.sleeps m.sleeps.greatest) (value_at new.sleeps.table q) (low.each q) (high q);
      arms_differ = low.arms_differ;
      within = low.within;
    } in
    record {
      tasks = tasks_valid x fired valid.tasks;
      sleeps = subst (λ k. AreValidSleeps k new.sleeps) (sym (same_next x fired)) (subst (λ k. AreValidSleeps next (with_greatest new.sleeps k)) (sym (same_greatest x fired)) sleeps);
      jobs = rw (same_next x fired, same_jobs x fired) valid.jobs;
      inbox = rw (same_next x fired, same_inbox x fired) valid.inbox;
    }

clock_step_valid : (m : Machine) (n : ℕ) (answer : Report) (new : Machine) → ClockStep m n answer new → IsValid m → IsValid new
clock_step_valid m n (report.Fired fired) new step valid = subst IsValid (sym step.2) (clock_valid m n fired step.1 valid)
clock_step_valid m n (report.Reply r) new step valid = subst IsValid (sym step.2) valid
clock_step_valid m n (report.Turn t replies ended) new step valid = absurd step
clock_step_valid m n report.Listed new step valid = absurd step
clock_step_valid m n report.Unlisted new step valid = absurd step
clock_step_valid m n (report.Drained tasks) new step valid = absurd step

-- a remote wake and a drain
or_false_right : (a b : Bool) → (a || b) ≡ false → b ≡ false
or_false_right true b e = cc
or_false_right false b e = e

pub remote_valid : (m : Machine) (t : ℕ) → IsValid m → IsValid (after_remote m t)
remote_valid m t valid = issued (is_issued m.tasks.table t) refl
  where
    waits : (b : Bool) → (has_finished (value_at m.tasks.table t) || is_waiting m.inbox t) ≡ b → t < next_number m.tasks.table → IsValid (cond b m (with_inbox m (with_waiting m.inbox t)))
    waits true is below = valid
    waits false is below = other_inbox None m _ valid (put_valid _ m.inbox t (or_false_right _ _ is) below valid.inbox)

    issued : (b : Bool) → is_issued m.tasks.table t ≡ b → IsValid (cond b (cond (has_finished (value_at m.tasks.table t) || is_waiting m.inbox t) m (with_inbox m (with_waiting m.inbox t))) m)
    issued true is = waits (has_finished (value_at m.tasks.table t) || is_waiting m.inbox t) refl (ltb-true _ _ is)
    issued false is = valid

drain_valid : (m : Machine) → IsValid m → IsValid (after_drain m)
drain_valid m valid =
    other_inbox None (with_tasks m (all_woken m.tasks m.inbox)) [] (other_tasks None None m (all_woken m.tasks m.inbox) valid (valid_all_woken None m.tasks m.inbox valid.tasks) (omega (arith, next_number-all_woken m.tasks m.inbox))) (empty_valid _)

pub step_is_valid : (old : Machine) (event : Event) (answer : Report) (new : Machine) → IsValid old → Step old event answer new → IsValid new
step_is_valid old (event.Act a) answer new valid step = subst IsValid (sym step.1) (act_valid None old valid a)
step_is_valid old (event.Turn steps e) answer new valid step = subst IsValid (sym step.1) (turn_valid steps e old valid old.tasks.queue refl)
step_is_valid old (event.Clock n) answer new valid step = clock_step_valid old n answer new step valid
step_is_valid old (event.Remote t) answer new valid step = subst IsValid (sym step.1) (remote_valid old t valid)
step_is_valid old event.Drain answer new valid step = subst IsValid (sym step.1) (drain_valid old valid)

pub start_is_valid : (limits : Limits) (strategy : Blocking) → IsValid (start_machine limits strategy)
start_is_valid limits strategy = record {
  tasks = record { queue = λ t. refl; runs = λ t is. absurd (false-true is); has_turn = λ t is. absurd (none-same t is); each = λ t. tt; within = omega arith };
  sleeps = record { each = λ s. tt; arms_differ = λ s t a b at_s. absurd (none-armed a at_s); within = omega arith };
  jobs = record { each = λ j. tt; within = omega arith };
  inbox = empty_valid 0;
}
  where
    false-true : false ≡ true → ⊥
    false-true e = cc

    none-same : (t : ℕ) → None ≡ Some t → ⊥
    none-same t e = cc

pub late_is_none : (old : Machine) (n : ℕ) (fired : List ℕ) (new : Machine) → IsValid old → ClockStep old n (report.Fired fired) new → (s : ℕ) (a : Arming) → value_at new.sleeps.table s ≡ Some (armed a) → down n < a.tick
late_is_none old n fired new valid step s a at =
    let after : IsValid new = clock_step_valid old n (report.Fired fired) new step valid in
    let armed_one : IsValidSleep (next_number new.tasks.table) new.sleeps (armed a) = subst (λ v. IfSome v (IsValidSleep (next_number new.tasks.table) new.sleeps)) at (after.sleeps.each s) in
    let clock : new.sleeps.greatest ≡ max old.sleeps.greatest (down n) = ap (λ m. m.sleeps.greatest) step.2 ∙ same_greatest (at_clock old n) fired in
    omega (arith, armed_one.0, clock)

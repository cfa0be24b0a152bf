-- A wake, a spawn and the beginning and end of a turn keep what holds of the tasks.
use Rattle.std.proofs.Common.{◌≡◌, ◌≢◌, ◌<◌, ◌≤◌, ℕ, zero, suc, true, false, Bool, cond, List, [], ◌∷◌, ◌++◌, length, Some, None, Option, refl, ap, sym, subst, ◌∙◌, arith, inl, inr}
use Rattle.std.specs.Prelude.{IfSome}
use Rattle.std.proofs.lemmas.Bool.{cases_eq, cases_lt}
use Rattle.std.proofs.lemmas.List.{get_or-set_other, get_or-set_same, get_or_past, length-set, length-append}
use Rattle.mono_model.specs.Table.{Table, value_at, next_number, count_of, with_value, with_next, without}
use Rattle.mono_model.specs.Tasks.{Tasks, Task, Phase, idle, queued, running, done, taken, in_phase, woken, woken_value, spawned, woken_in, woken_if_any, all_woken, begun, begun_value, is_noted, queued_last, with_task, paused_value, without_task, completed_value}
use Rattle.mono_model.specs.Valid.{times, once_if, is_queued, is_running, is_unfinished, of_task, IsValidTask, AreValidTasks}
use Rattle.mono_model.proofs.CountLemmas.{count_of-with_value, count_of-with_next, count_of-without, times-push, one_time, no_time}

none-some : {V : Type 0} (x : V) → None ≡ Some x → ⊥
none-some x e = cc

pub at_given : {V : Type 0} (table : Table V) (t : ℕ) (v : V) → value_at table t ≡ Some v → t < length table
at_given table t v at = elim (cases_lt t (length table)) [ inl inside ↦ inside | inr past ↦ absurd (none-some v (sym (get_or_past table t None past) ∙ at)) ]

-- the task t is written, and no other
pub written : {O : Type 0} (turn after : Option ℕ) (tasks : Tasks O) (queue : List ℕ) (t : ℕ) (old new : Task O)
    → AreValidTasks turn tasks → value_at tasks.table t ≡ Some old
    → ((q : ℕ) → q ≢ t → times queue q ≡ times tasks.queue q) → times queue t ≡ once_if (is_queued new.phase)
    → (is_running new.phase ≡ true → after ≡ Some t) → ((q : ℕ) → q ≢ t → turn ≡ Some q → after ≡ Some q)
    → (after ≡ Some t → is_running new.phase ≡ true) → ((q : ℕ) → q ≢ t → after ≡ Some q → turn ≡ Some q)
    → IsValidTask (next_number tasks.table) new
    → AreValidTasks after (record { queue = queue; table = with_value tasks.table t new; limit = tasks.limit })
written turn after tasks queue t old new valid at others own runs_own runs_others turn_own turn_others new_valid =
    let here : value_at (with_value tasks.table t new) t ≡ Some new = get_or-set_same tasks.table t (Some new) None (at_given tasks.table t old at) in
    let there : (q : ℕ) → q ≢ t → value_at (with_value tasks.table t new) q ≡ value_at tasks.table q = λ q apart. get_or-set_other tasks.table t q (Some new) None apart in
    let long : length (with_value tasks.table t new) ≡ length tasks.table = length-set tasks.table t (Some new) in
    record {
      queue = λ q. elim (cases_eq q t) [
        | inl same ↦ rw (same, here) own
        | inr apart ↦ others q apart ∙ valid.queue q ∙ ap (λ v. once_if (of_task is_queued v)) (sym (there q apart))
      ];
      runs = λ q is. elim (cases_eq q t) [
        | inl same ↦ runs_own (sym (ap (of_task is_running) here) ∙ ap (λ x. of_task is_running (value_at (with_value tasks.table t new) x)) (sym same) ∙ is) ∙ ap Some (sym same)
        | inr apart ↦ runs_others q apart (valid.runs q (ap (of_task is_running) (sym (there q apart)) ∙ is))
      ];
      has_turn = λ q is. elim (cases_eq q t) [
        | inl same ↦ rw (same, here) (turn_own (is ∙ ap Some same))
        | inr apart ↦ ap (of_task is_running) (there q apart) ∙ valid.has_turn q (turn_others q apart is)
      ];
      each = λ q. elim (cases_eq q t) [
        | inl same ↦ rw (same, here, long) new_valid
        | inr apart ↦ rw (there q apart, long) (valid.each q)
      ];
      within = omega (arith, valid.within, count_of-with_value tasks.table t old new at);
    }

-- one unfinished phase in the place of another
still_unfinished : {O : Type 0} (next : ℕ) (task : Task O) (phase : Phase O) → is_unfinished phase ≡ true → IsValidTask next task → IsValidTask next (in_phase task phase)
still_unfinished next task phase unfinished valid = record {
  waiter = waiting task.waiter valid.waiter;
  is_live = λ over. absurd (true-false (sym unfinished ∙ over));
}
  where
    true-false : true ≡ false → ⊥
    true-false e = cc

    waiting : (w : Option ℕ) → IfSome w (λ t. (t < next) × (is_unfinished task.phase ≡ true) × (task.is_kept ≡ true)) → IfSome w (λ t. (t < next) × (is_unfinished phase ≡ true) × (task.is_kept ≡ true))
    waiting None is = tt
    waiting (Some t) is = (is.0, unfinished, is.2)

false-true : false ≡ true → ⊥
false-true e = cc

module _ {O : Type 0} (turn : Option ℕ) (tasks : Tasks O) (valid : AreValidTasks turn tasks) (t : ℕ) (task : Task O) (at : value_at tasks.table t ≡ Some task) where
  pub valid_task : IsValidTask (next_number tasks.table) task
  valid_task = subst (λ v. IfSome v (IsValidTask (next_number tasks.table))) at (valid.each t)

  pub stands_so_often : times tasks.queue t ≡ once_if (is_queued task.phase)
  stands_so_often = valid.queue t ∙ ap (λ v. once_if (of_task is_queued v)) at

  woken_phase : (phase : Phase O) → task.phase ≡ phase → AreValidTasks turn (woken_in phase tasks t task)
  woken_phase idle is =
      written turn turn tasks (tasks.queue ++ t ∷ []) t task (in_phase task queued) valid at
      (λ q apart. times-push tasks.queue t q ∙ omega (arith, no_time t q (λ same. apart (sym same))))
      (times-push tasks.queue t t ∙ omega (arith, one_time t, stands_so_often ∙ ap (λ p. once_if (is_queued p)) is))
      (λ runs. absurd (false-true runs)) (λ q apart runs. runs)
      (λ turns. absurd (false-true (sym (ap (of_task is_running) at ∙ ap is_running is) ∙ valid.has_turn t turns))) (λ q apart turns. turns)
      (still_unfinished _ task queued refl valid_task)
  woken_phase queued is = valid
  woken_phase (running noted) is =
      written turn turn tasks tasks.queue t task (in_phase task (running true)) valid at
      (λ q apart. refl) (stands_so_often ∙ ap (λ p. once_if (is_queued p)) is)
      (λ runs. valid.runs t (ap (of_task is_running) at ∙ ap is_running is)) (λ q apart runs. runs)
      (λ turns. refl) (λ q apart turns. turns)
      (still_unfinished _ task (running true) refl valid_task)
  woken_phase (done output) is = valid
  woken_phase taken is = valid

woken_at : {O : Type 0} (turn : Option ℕ) (tasks : Tasks O) → AreValidTasks turn tasks → (t : ℕ) (v : Option (Task O)) → value_at tasks.table t ≡ v → AreValidTasks turn (woken_value v tasks t)
woken_at turn tasks valid t None at = valid
woken_at turn tasks valid t (Some task) at = woken_phase turn tasks valid t task at task.phase refl

-- a wake keeps it
pub valid_woken : {O : Type 0} (turn : Option ℕ) (tasks : Tasks O) (t : ℕ) → AreValidTasks turn tasks → AreValidTasks turn (woken tasks t)
valid_woken turn tasks t valid = woken_at turn tasks valid t (value_at tasks.table t) refl

pub valid_all_woken : {O : Type 0} (turn : Option ℕ) (tasks : Tasks O) (ts : List ℕ) → AreValidTasks turn tasks → AreValidTasks turn (all_woken tasks ts)
valid_all_woken turn tasks [] valid = valid
valid_all_woken turn tasks (t ∷ ts) valid = valid_all_woken turn (woken tasks t) ts (valid_woken turn tasks t valid)

next_of_woken : {O : Type 0} (v : Option (Task O)) (tasks : Tasks O) (t : ℕ) → next_number (woken_value v tasks t).table ≡ next_number tasks.table
next_of_woken {O} None tasks t = refl
next_of_woken {O} (Some task) tasks t = by_phase task.phase
  where
    by_phase : (phase : Phase O) → next_number (woken_in phase tasks t task).table ≡ next_number tasks.table
    by_phase idle = length-set tasks.table t _
    by_phase queued = refl
    by_phase (running noted) = length-set tasks.table t _
    by_phase (done output) = refl
    by_phase taken = refl

pub next_number-woken : {O : Type 0} (tasks : Tasks O) (t : ℕ) → next_number (woken tasks t).table ≡ next_number tasks.table
next_number-woken tasks t = next_of_woken (value_at tasks.table t) tasks t

-- A spawn keeps the invariant if the table is not full.
pub value_before : {V : Type 0} (table : Table V) (v : V) (q : ℕ) → q ≢ length table → value_at (with_next table v) q ≡ value_at table q
value_before [] v zero apart = absurd (apart refl)
value_before [] v (suc q) apart = refl
value_before (x ∷ xs) v zero apart = refl
value_before (x ∷ xs) v (suc q) apart = value_before xs v q (λ same. apart (omega (arith, same)))

pub value_last : {V : Type 0} (table : Table V) (v : V) → value_at (with_next table v) (length table) ≡ Some v
value_last [] v = refl
value_last (x ∷ xs) v = value_last xs v

later_next : {O : Type 0} (next more : ℕ) (task : Task O) → next ≤ more → IsValidTask next task → IsValidTask more task
later_next next more task le valid = record { waiter = waiting task.waiter valid.waiter; is_live = valid.is_live }
  where
    waiting : (w : Option ℕ) → IfSome w (λ t. (t < next) × (is_unfinished task.phase ≡ true) × (task.is_kept ≡ true)) → IfSome w (λ t. (t < more) × (is_unfinished task.phase ≡ true) × (task.is_kept ≡ true))
    waiting None is = tt
    waiting (Some t) is = (omega (arith, is.0, le), is.1, is.2)

later_each : {O : Type 0} (next more : ℕ) → next ≤ more → (v : Option (Task O)) → IfSome v (IsValidTask next) → IfSome v (IsValidTask more)
later_each next more le None valid = tt
later_each next more le (Some task) valid = later_next next more task le valid

pub valid_spawned : {O : Type 0} (turn : Option ℕ) (tasks : Tasks O) → count_of tasks.table < tasks.limit → AreValidTasks turn tasks → AreValidTasks turn (spawned tasks)
valid_spawned {O} turn tasks room valid =
    let new : Task O = record { phase = queued; is_kept = true; waiter = None } in
    let next : ℕ = next_number tasks.table in
    let more : next ≤ next_number (with_next tasks.table new) = rw length-append (omega arith) in
    let none_yet : times tasks.queue next ≡ 0 = valid.queue next ∙ ap (λ v. once_if (of_task is_queued v)) (get_or_past tasks.table next None (omega arith)) in
    record {
      queue = λ q. elim (cases_eq q next) [
        | inl same ↦ rw (same, value_last tasks.table new) (times-push tasks.queue next next ∙ omega (arith, one_time next, none_yet))
        | inr apart ↦ rw (value_before tasks.table new q apart) (times-push tasks.queue next q ∙ omega (arith, no_time next q (λ same. apart (sym same)), valid.queue q))
      ];
      runs = λ q is. elim (cases_eq q next) [
        | inl same ↦ absurd (false-true (sym (ap (of_task is_running) (value_last tasks.table new)) ∙ ap (λ x. of_task is_running (value_at (with_next tasks.table new) x)) (sym same) ∙ is))
        | inr apart ↦ valid.runs q (ap (of_task is_running) (sym (value_before tasks.table new q apart)) ∙ is)
      ];
      has_turn = λ q is. elim (cases_eq q next) [
        | inl same ↦ absurd (false-true (sym (ap (of_task is_running) (get_or_past tasks.table next None (omega arith))) ∙ valid.has_turn next (is ∙ ap Some same)))
        | inr apart ↦ ap (of_task is_running) (value_before tasks.table new q apart) ∙ valid.has_turn q is
      ];
      each = λ q. elim (cases_eq q next) [
        | inl same ↦ rw (same, value_last tasks.table new) (record { waiter = tt; is_live = λ over. refl })
        | inr apart ↦ rw (value_before tasks.table new q apart) (later_each next _ more (value_at tasks.table q) (valid.each q))
      ];
      within = omega (arith, room, count_of-with_next tasks.table new);
    }

-- after a wake of a waker or waiter, if there is one
pub valid_woken_if_any : {O : Type 0} (turn : Option ℕ) (tasks : Tasks O) (w : Option ℕ) → AreValidTasks turn tasks → AreValidTasks turn (woken_if_any tasks w)
valid_woken_if_any turn tasks None valid = valid
valid_woken_if_any turn tasks (Some t) valid = valid_woken turn tasks t valid

pub next_number-woken_if_any : {O : Type 0} (tasks : Tasks O) (w : Option ℕ) → next_number (woken_if_any tasks w).table ≡ next_number tasks.table
next_number-woken_if_any tasks None = refl
next_number-woken_if_any tasks (Some t) = next_number-woken tasks t

pub next_number-all_woken : {O : Type 0} (tasks : Tasks O) (ts : List ℕ) → next_number (all_woken tasks ts).table ≡ next_number tasks.table
next_number-all_woken tasks [] = refl
next_number-all_woken tasks (t ∷ ts) = next_number-all_woken (woken tasks t) ts ∙ next_number-woken tasks t

-- The first of a queue without doubles does not occur in the rest.
once : (b : Bool) → once_if b ≤ 1
once true = omega arith
once false = omega arith

is_once : (b : Bool) → once_if b ≡ 1 → b ≡ true
is_once true e = refl
is_once false e = absurd (omega (arith, e))

is_not_once : (b : Bool) → once_if b ≡ 0 → b ≡ false
is_not_once true e = absurd (omega (arith, e))
is_not_once false e = refl

some-queued : {O : Type 0} (v : Option (Task O)) → of_task is_queued v ≡ true → (task : Task O) × (v ≡ Some task) × (is_queued task.phase ≡ true)
some-queued None is = absurd (false-true is)
some-queued (Some task) is = (task, refl, is)

none-same : (t : ℕ) → None ≡ Some t → ⊥
none-same t e = cc

same-some : (t q : ℕ) → Some t ≡ Some q → t ≡ q
same-some t q e = cc

-- the beginning of a turn
pub valid_begun : {O : Type 0} (tasks : Tasks O) (t : ℕ) (rest : List ℕ) → tasks.queue ≡ t ∷ rest → AreValidTasks None tasks → AreValidTasks (Some t) (begun tasks t rest)
valid_begun {O} tasks t rest is valid =
    let often : times (t ∷ rest) t ≡ once_if (of_task is_queued (value_at tasks.table t)) = ap (λ q. times q t) (sym is) ∙ valid.queue t in
    let alone : times rest t ≡ 0 = omega (arith, often, one_time t, once (of_task is_queued (value_at tasks.table t))) in
    let found = some-queued (value_at tasks.table t) (is_once _ (sym often ∙ omega (arith, one_time t, alone))) in
    let task : Task O = found.0 in
    let begins : AreValidTasks (Some t) (record { queue = rest; table = with_value tasks.table t (in_phase task (running false)); limit = tasks.limit }) =
    written None (Some t) tasks rest t task (in_phase task (running false)) valid found.1
    (λ q apart. omega (arith, ap (λ x. times x q) is, no_time t q (λ same. apart (sym same)))) alone
    (λ runs. refl) (λ q apart runs. absurd (none-same q runs))
    (λ turns. refl) (λ q apart turns. absurd (apart (sym (same-some t q turns))))
    (still_unfinished _ task (running false) refl (valid_task None tasks valid t task found.1)) in
    rw found.1 begins

-- the end of a turn
is_running_phase : {O : Type 0} (phase : Phase O) → is_running phase ≡ true → (is_queued phase ≡ false) × (is_unfinished phase ≡ true)
is_running_phase idle is = absurd (false-true is)
is_running_phase queued is = absurd (false-true is)
is_running_phase (running noted) is = (refl, refl)
is_running_phase (done output) is = absurd (false-true is)
is_running_phase taken is = absurd (false-true is)

none-turn : (q : ℕ) → None ≡ Some q → ⊥
none-turn q e = cc

module _ {O : Type 0} (me : ℕ) (tasks : Tasks O) (valid : AreValidTasks (Some me) tasks) where
  my_phase : (task : Task O) → value_at tasks.table me ≡ Some task → is_running task.phase ≡ true
  my_phase task at = ap (of_task is_running) (sym at) ∙ valid.has_turn me refl

  not_in_queue : (task : Task O) → value_at tasks.table me ≡ Some task → times tasks.queue me ≡ 0
  not_in_queue task at = stands_so_often (Some me) tasks valid me task at ∙ ap once_if (is_running_phase task.phase (my_phase task at)).0

  paused_by : (b : Bool) (task : Task O) → value_at tasks.table me ≡ Some task → AreValidTasks None (cond b (queued_last tasks me task) (with_task tasks me (in_phase task idle)))
  paused_by true task at =
      written (Some me) None tasks (tasks.queue ++ me ∷ []) me task (in_phase task queued) valid at
      (λ q apart. times-push tasks.queue me q ∙ omega (arith, no_time me q (λ same. apart (sym same))))
      (times-push tasks.queue me me ∙ omega (arith, one_time me, not_in_queue task at))
      (λ runs. absurd (false-true runs)) (λ q apart turns. absurd (apart (sym (same-some me q turns))))
      (λ turns. absurd (none-turn me turns)) (λ q apart turns. absurd (none-turn q turns))
      (still_unfinished _ task queued refl (valid_task (Some me) tasks valid me task at))
  paused_by false task at =
      written (Some me) None tasks tasks.queue me task (in_phase task idle) valid at
      (λ q apart. refl) (not_in_queue task at)
      (λ runs. absurd (false-true runs)) (λ q apart turns. absurd (apart (sym (same-some me q turns))))
      (λ turns. absurd (none-turn me turns)) (λ q apart turns. absurd (none-turn q turns))
      (still_unfinished _ task idle refl (valid_task (Some me) tasks valid me task at))

  paused_at : (v : Option (Task O)) → value_at tasks.table me ≡ v → AreValidTasks None (paused_value v tasks me)
  paused_at None at = absurd (false-true (sym (ap (of_task is_running) at) ∙ valid.has_turn me refl))
  paused_at (Some task) at = paused_by (is_noted task.phase) task at

  pub valid_paused : AreValidTasks None (paused_value (value_at tasks.table me) tasks me)
  valid_paused = paused_at (value_at tasks.table me) refl

-- A task is removed.
pub removed : {O : Type 0} (turn after : Option ℕ) (tasks : Tasks O) (t : ℕ) (old : Task O)
    → AreValidTasks turn tasks → value_at tasks.table t ≡ Some old → times tasks.queue t ≡ 0
    → ((q : ℕ) → q ≢ t → turn ≡ Some q → after ≡ Some q) → (after ≡ Some t → ⊥) → ((q : ℕ) → q ≢ t → after ≡ Some q → turn ≡ Some q)
    → AreValidTasks after (without_task tasks t)
removed turn after tasks t old valid at out runs_others not_turn turn_others =
    let here : value_at (without tasks.table t) t ≡ None = get_or-set_same tasks.table t None None (at_given tasks.table t old at) in
    let there : (q : ℕ) → q ≢ t → value_at (without tasks.table t) q ≡ value_at tasks.table q = λ q apart. get_or-set_other tasks.table t q None None apart in
    let long : length (without tasks.table t) ≡ length tasks.table = length-set tasks.table t None in
    record {
      queue = λ q. elim (cases_eq q t) [
        | inl same ↦ rw (same, here) out
        | inr apart ↦ valid.queue q ∙ ap (λ v. once_if (of_task is_queued v)) (sym (there q apart))
      ];
      runs = λ q is. elim (cases_eq q t) [
        | inl same ↦ absurd (false-true (sym (ap (of_task is_running) here) ∙ ap (λ x. of_task is_running (value_at (without tasks.table t) x)) (sym same) ∙ is))
        | inr apart ↦ runs_others q apart (valid.runs q (ap (of_task is_running) (sym (there q apart)) ∙ is))
      ];
      has_turn = λ q is. elim (cases_eq q t) [
        | inl same ↦ absurd (not_turn (is ∙ ap Some same))
        | inr apart ↦ ap (of_task is_running) (there q apart) ∙ valid.has_turn q (turn_others q apart is)
      ];
      each = λ q. elim (cases_eq q t) [
        | inl same ↦ rw (same, here) tt
        | inr apart ↦ rw (there q apart, long) (valid.each q)
      ];
      within = omega (arith, valid.within, count_of-without tasks.table t);
    }

module _ {O : Type 0} (me : ℕ) (tasks : Tasks O) (valid : AreValidTasks (Some me) tasks) where
  completed_by : (b : Bool) (task : Task O) (o : O) → value_at tasks.table me ≡ Some task
      → AreValidTasks None (cond b (woken_if_any (with_task tasks me (record { phase = done o; is_kept = true; waiter = None })) task.waiter) (without_task tasks me))
  completed_by true task o at =
      valid_woken_if_any None _ task.waiter (written (Some me) None tasks tasks.queue me task (record { phase = done o; is_kept = true; waiter = None }) valid at
      (λ q apart. refl) (not_in_queue me tasks valid task at)
      (λ runs. absurd (false-true runs)) (λ q apart turns. absurd (apart (sym (same-some me q turns))))
      (λ turns. absurd (none-turn me turns)) (λ q apart turns. absurd (none-turn q turns))
      (record { waiter = tt; is_live = λ over. refl }))
  completed_by false task o at =
      removed (Some me) None tasks me task valid at (not_in_queue me tasks valid task at)
      (λ q apart turns. absurd (apart (sym (same-some me q turns)))) (none-turn me) (λ q apart turns. absurd (none-turn q turns))

  completed_at : (v : Option (Task O)) (o : O) → value_at tasks.table me ≡ v → AreValidTasks None (completed_value v tasks me o)
  completed_at None o at = absurd (false-true (sym (ap (of_task is_running) at) ∙ valid.has_turn me refl))
  completed_at (Some task) o at = completed_by task.is_kept task o at

  pub valid_completed : (o : O) → AreValidTasks None (completed_value (value_at tasks.table me) tasks me o)
  valid_completed o = completed_at (value_at tasks.table me) o refl

-- a task that is kept in its phase, with another handle or waiter
pub same_phase : {O : Type 0} (turn : Option ℕ) (tasks : Tasks O) (t : ℕ) (old new : Task O) → AreValidTasks turn tasks → value_at tasks.table t ≡ Some old
    → is_queued new.phase ≡ is_queued old.phase → is_running new.phase ≡ is_running old.phase → IsValidTask (next_number tasks.table) new → AreValidTasks turn (with_task tasks t new)
same_phase turn tasks t old new valid at queues runs new_valid =
    written turn turn tasks tasks.queue t old new valid at (λ q apart. refl) (stands_so_often turn tasks valid t old at ∙ ap once_if (sym queues))
    (λ is. valid.runs t (ap (of_task is_running) at ∙ sym runs ∙ is)) (λ q apart is. is)
    (λ turns. runs ∙ sym (ap (of_task is_running) at) ∙ valid.has_turn t turns) (λ q apart is. is)
    new_valid

-- A finished task is removed.
pub finished_gone : {O : Type 0} (turn : Option ℕ) (tasks : Tasks O) (t : ℕ) (old : Task O) → AreValidTasks turn tasks → value_at tasks.table t ≡ Some old
    → is_queued old.phase ≡ false → is_running old.phase ≡ false → AreValidTasks turn (without_task tasks t)
finished_gone turn tasks t old valid at queues runs =
    removed turn turn tasks t old valid at (stands_so_often turn tasks valid t old at ∙ ap once_if queues) (λ q apart is. is)
    (λ turns. false-true (sym (ap (of_task is_running) at ∙ runs) ∙ valid.has_turn t turns)) (λ q apart is. is)

-- a turn gives out no numbers
pub next_number-begun : {O : Type 0} (tasks : Tasks O) (t : ℕ) (rest : List ℕ) → next_number (begun tasks t rest).table ≡ next_number tasks.table
next_number-begun {O} tasks t rest = by_value (value_at tasks.table t)
  where
    by_value : (v : Option (Task O)) → next_number (begun_value v (record { queue = rest; table = tasks.table; limit = tasks.limit }) t).table ≡ next_number tasks.table
    by_value None = refl
    by_value (Some task) = length-set tasks.table t _

pub next_number-paused : {O : Type 0} (v : Option (Task O)) (tasks : Tasks O) (t : ℕ) → next_number (paused_value v tasks t).table ≡ next_number tasks.table
next_number-paused None tasks t = refl
next_number-paused {O} (Some task) tasks t = by_test (is_noted task.phase)
  where
    by_test : (b : Bool) → next_number (cond b (queued_last tasks t task) (with_task tasks t (in_phase task idle))).table ≡ next_number tasks.table
    by_test true = length-set tasks.table t _
    by_test false = length-set tasks.table t _

pub next_number-completed : {O : Type 0} (v : Option (Task O)) (tasks : Tasks O) (t : ℕ) (o : O) → next_number (completed_value v tasks t o).table ≡ next_number tasks.table
next_number-completed None tasks t o = refl
next_number-completed {O} (Some task) tasks t o = by_test task.is_kept
  where
    by_test : (b : Bool) → next_number (cond b (woken_if_any (with_task tasks t (record { phase = done o; is_kept = true; waiter = None })) task.waiter) (without_task tasks t)).table ≡ next_number tasks.table
    by_test true = next_number-woken_if_any _ task.waiter ∙ length-set tasks.table t _
    by_test false = length-set tasks.table t None

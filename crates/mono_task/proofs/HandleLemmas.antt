-- A poll and a drop of a handle, on the places of the table.
use Rattle.std.proofs.Common.{◌≡◌, ◌<◌, ◌+◌, ◌-◌, ℕ, true, false, List, map, length, set, Some, None, Option, Ok, refl, ap, sym, ◌∙◌, arith}
use Rattle.std.specs.Prelude.{slice_set, is_some}
use Rattle.std.proofs.lemmas.List.{map-set, length-map}
use Rattle.mono_model.specs.Table.{Table, value_at, count_of}
use Rattle.mono_model.specs.Tasks.{Tasks, Task, Phase, idle, queued, running, taken}
use Rattle.mono_model.specs.Valid.{once_if}
use Rattle.mono_model.specs.Joins.{kept_value, kept_task, drop_value, joined, joined_in, joined_value, waited_for, join_dropped, dropped_in, dropped_value, let_go}
use Rattle.mono_task.specs.Places.{Entry, Gone, Taken, Done, Idle, Queued, Running, Noted}
use Rattle.mono_task.specs.declared.entries.Handle.{Handle}
use Rattle.mono_task.specs.declared.entries.Handle.TheVariants as handle
use Rattle.mono_task.specs.Entries.{task_of, is_unfinished, is_queued, is_running, is_over, is_kept, waiter_of, awaited_by, joined_entry, dropped_entry}
use Rattle.mono_task.specs.Invariants.{entry_at, tasks_of, Keeps}
use Rattle.mono_task.specs.Work.{has_output, GivesOutput}
use Rattle.mono_task.proofs.CountLemmas.{count_where-set}
use Rattle.mono_task.proofs.TableWriteLemmas.{value_at-entries, set_same, count_of-same, count_of-gone}
use Rattle.mono_task.proofs.InvariantLemmas.{the_tasks, same_tasks, stays_alone}
use Rattle.mono_task.proofs.PlaceLemmas.{kept_at}

-- each keeps whether the task has finished, is queued or runs
join_lasts : {O : Type 0} (e : Entry O) (by : ℕ) → is_unfinished (joined_entry e by) ≡ is_unfinished e
join_lasts Gone by = refl
join_lasts Taken by = refl
join_lasts (Done output) by = refl
join_lasts (Idle h) by = refl
join_lasts (Queued h) by = refl
join_lasts (Running h) by = refl
join_lasts (Noted h) by = refl

join_queued : {O : Type 0} (e : Entry O) (by : ℕ) → is_queued (joined_entry e by) ≡ is_queued e
join_queued Gone by = refl
join_queued Taken by = refl
join_queued (Done output) by = refl
join_queued (Idle h) by = refl
join_queued (Queued h) by = refl
join_queued (Running h) by = refl
join_queued (Noted h) by = refl

join_running : {O : Type 0} (e : Entry O) (by : ℕ) → is_running (joined_entry e by) ≡ is_running e
join_running Gone by = refl
join_running Taken by = refl
join_running (Done output) by = refl
join_running (Idle h) by = refl
join_running (Queued h) by = refl
join_running (Running h) by = refl
join_running (Noted h) by = refl

join_some : {O : Type 0} (e : Entry O) (by : ℕ) → is_some (task_of (joined_entry e by)) ≡ is_some (task_of e)
join_some Gone by = refl
join_some Taken by = refl
join_some (Done output) by = refl
join_some (Idle h) by = refl
join_some (Queued h) by = refl
join_some (Running h) by = refl
join_some (Noted h) by = refl

drop_lasts : {O : Type 0} (e : Entry O) → is_unfinished (dropped_entry e) ≡ is_unfinished e
drop_lasts Gone = refl
drop_lasts Taken = refl
drop_lasts (Done output) = refl
drop_lasts (Idle h) = refl
drop_lasts (Queued h) = refl
drop_lasts (Running h) = refl
drop_lasts (Noted h) = refl

drop_queued : {O : Type 0} (e : Entry O) → is_queued (dropped_entry e) ≡ is_queued e
drop_queued Gone = refl
drop_queued Taken = refl
drop_queued (Done output) = refl
drop_queued (Idle h) = refl
drop_queued (Queued h) = refl
drop_queued (Running h) = refl
drop_queued (Noted h) = refl

drop_running : {O : Type 0} (e : Entry O) → is_running (dropped_entry e) ≡ is_running e
drop_running Gone = refl
drop_running Taken = refl
drop_running (Done output) = refl
drop_running (Idle h) = refl
drop_running (Queued h) = refl
drop_running (Running h) = refl
drop_running (Noted h) = refl

-- A finished task is removed, and any other stays.
drop_gone : {O : Type 0} (e : Entry O) → is_over e ≡ true → (task_of (dropped_entry e) ≡ None) × (is_some (task_of e) ≡ true)
drop_gone Gone over = cc
drop_gone Taken over = (refl, refl)
drop_gone (Done output) over = (refl, refl)
drop_gone (Idle h) over = cc
drop_gone (Queued h) over = cc
drop_gone (Running h) over = cc
drop_gone (Noted h) over = cc

pub over_gone : {O : Type 0} (e : Entry O) → is_over e ≡ true → dropped_entry e ≡ Gone
over_gone Gone over = refl
over_gone Taken over = refl
over_gone (Done output) over = refl
over_gone (Idle h) over = cc
over_gone (Queued h) over = cc
over_gone (Running h) over = cc
over_gone (Noted h) over = cc

drop_some : {O : Type 0} (e : Entry O) → is_over e ≡ false → is_some (task_of (dropped_entry e)) ≡ is_some (task_of e)
drop_some Gone over = refl
drop_some Taken over = cc
drop_some (Done output) over = cc
drop_some (Idle h) over = refl
drop_some (Queued h) over = refl
drop_some (Running h) over = refl
drop_some (Noted h) over = refl

module _ {O : Type 0} (queue : List ℕ) (table : Table (Task O)) (limit t : ℕ) (inside : t < length table) where
  abbrev tasks : Tasks O
  tasks = the_tasks queue table limit

  abbrev with_handle : Phase O → Handle → Task O
  with_handle phase h = record { phase = phase; is_kept = is_kept h; waiter = waiter_of h }

  unchanged : (v : Option (Task O)) → value_at table t ≡ v → the_tasks queue (set table t v) limit ≡ tasks
  unchanged v at = ap (λ x. the_tasks queue x limit) (set_same table t v None inside at)

  -- a poll of the handle of a task that has not finished
  wait_as : (phase : Phase O) (by : ℕ) → joined_in phase tasks t by ≡ waited_for tasks t phase by → (h : Handle) → value_at table t ≡ Some (with_handle phase h)
      → the_tasks queue (set table t (Some (with_handle phase (awaited_by h by)))) limit ≡ joined_value (kept_value (Some (with_handle phase h))) tasks t by
  wait_as phase by waits handle.Dropped at = unchanged (Some (with_handle phase handle.Dropped)) at
  wait_as phase by waits handle.Kept at = sym waits
  wait_as phase by waits (handle.Awaited before) at = sym waits

  -- a drop of it
  go_as : (phase : Phase O) → dropped_in phase tasks t ≡ let_go tasks t phase → (h : Handle) → value_at table t ≡ Some (with_handle phase h)
      → the_tasks queue (set table t (Some (with_handle phase handle.Dropped))) limit ≡ dropped_value (kept_value (Some (with_handle phase h))) tasks t
  go_as phase goes handle.Dropped at = unchanged (Some (with_handle phase handle.Dropped)) at
  go_as phase goes handle.Kept at = sym goes
  go_as phase goes (handle.Awaited before) at = sym goes

  join_as : (e : Entry O) (by : ℕ) → value_at table t ≡ task_of e → the_tasks queue (set table t (task_of (joined_entry e by))) limit ≡ joined_value (kept_value (task_of e)) tasks t by
  join_as Gone by at = unchanged None at
  join_as Taken by at = unchanged (Some (record { phase = taken; is_kept = true; waiter = None })) at
  join_as (Done output) by at = refl
  join_as (Idle h) by at = wait_as idle by refl h at
  join_as (Queued h) by at = wait_as queued by refl h at
  join_as (Running h) by at = wait_as (running false) by refl h at
  join_as (Noted h) by at = wait_as (running true) by refl h at

  drop_as : (e : Entry O) → value_at table t ≡ task_of e → the_tasks queue (set table t (task_of (dropped_entry e))) limit ≡ dropped_value (kept_value (task_of e)) tasks t
  drop_as Gone at = unchanged None at
  drop_as Taken at = refl
  drop_as (Done output) at = refl
  drop_as (Idle h) at = go_as idle refl h at
  drop_as (Queued h) at = go_as queued refl h at
  drop_as (Running h) at = go_as (running false) refl h at
  drop_as (Noted h) at = go_as (running true) refl h at

module _ {O : Type 0} (queue : List ℕ) (room : ℕ) (entries : List (Entry O)) (unfinished live : ℕ) (turn : Option ℕ) (t : ℕ) (keeps : Keeps queue room entries unfinished live turn)
    (limit : ℕ) (inside : t < length entries) (e new : Entry O) (at : entry_at entries t ≡ e) where
  abbrev before : Tasks O
  before = tasks_of queue entries limit

  table_inside : t < length (map task_of entries)
  table_inside = omega (arith, inside, length-map entries task_of)

  kept_is : kept_task before t ≡ kept_value (task_of e)
  kept_is = kept_at queue entries limit t inside ∙ ap (λ x. kept_value (task_of x)) at

  value_is : value_at (map task_of entries) t ≡ task_of e
  value_is = value_at-entries entries t ∙ ap task_of at

  written : (then : Entry O) → new ≡ then → map task_of (slice_set entries t new) ≡ set (map task_of entries) t (task_of then)
  written then is = map-set task_of entries t new ∙ ap (λ x. set (map task_of entries) t (task_of x)) is

  -- another state of a task that waits, runs or is over as before
  left_as : (then : Entry O) → new ≡ then → is_queued then ≡ is_queued e → is_running then ≡ is_running e → is_unfinished then ≡ is_unfinished e
      → (after : ℕ) → after ≡ count_of (map task_of (slice_set entries t new)) → Keeps queue room (slice_set entries t new) unfinished after turn
  left_as then is queues runs lasts after live_is = record {
    stands = stays_alone queue entries turn turn t new keeps.stands inside (λ q apart. refl) (ap is_running is ∙ runs ∙ sym (ap is_running at) ∙ keeps.stands.runs t) (ap is_queued is ∙ queues ∙ sym (ap is_queued at));
    unfinished_is = omega (arith, keeps.unfinished_is, count_where-set is_unfinished entries t new inside, ap once_if (ap is_unfinished is ∙ lasts ∙ sym (ap is_unfinished at)));
    live_is = live_is;
    sure = keeps.sure;
  }

  pub joins : (by : ℕ) → new ≡ joined_entry e by
      → Keeps queue room (slice_set entries t new) unfinished live turn × (tasks_of queue (slice_set entries t new) limit ≡ joined before t by)
  joins by is = (
    left_as (joined_entry e by) is (join_queued e by) (join_running e by) (join_lasts e by) live
        (keeps.live_is ∙ sym (ap count_of (written (joined_entry e by) is) ∙ count_of-same (map task_of entries) t (task_of (joined_entry e by)) (join_some e by ∙ sym (ap is_some value_is)))),
    same_tasks _ _ _ _ limit refl (written (joined_entry e by) is)
        ∙ join_as queue (map task_of entries) limit t table_inside e by value_is ∙ sym (ap (λ k. joined_value k before t by) kept_is),
  )

  module _ (is : new ≡ dropped_entry e) where
    pub drops : tasks_of queue (slice_set entries t new) limit ≡ join_dropped before t
    drops =
        same_tasks _ _ _ _ limit refl (written (dropped_entry e) is)
        ∙ drop_as queue (map task_of entries) limit t table_inside e value_is ∙ sym (ap (λ k. dropped_value k before t) kept_is)

    one_less : is_over e ≡ true → count_of (map task_of (slice_set entries t new)) + 1 ≡ count_of (map task_of entries)
    one_less over =
        ap (λ n. n + 1) (ap count_of (written (dropped_entry e) is ∙ ap (λ v. set (map task_of entries) t v) (drop_gone e over).0))
        ∙ count_of-gone (map task_of entries) t (ap is_some value_is ∙ (drop_gone e over).1)

    pub over_keeps : is_over e ≡ true → Keeps queue room (slice_set entries t new) unfinished (live - 1) turn
    over_keeps over = left_as (dropped_entry e) is (drop_queued e) (drop_running e) (drop_lasts e) (live - 1) (omega (arith, keeps.live_is, one_less over))

    pub lasting_keeps : is_over e ≡ false → Keeps queue room (slice_set entries t new) unfinished live turn
    lasting_keeps lasts = left_as (dropped_entry e) is (drop_queued e) (drop_running e) (drop_lasts e) live
        (keeps.live_is ∙ sym (ap count_of (written (dropped_entry e) is) ∙ count_of-same (map task_of entries) t (task_of (dropped_entry e)) (drop_some e lasts ∙ sym (ap is_some value_is))))

-- a task whose output is there
output_given : {O : Type 0} (e : Entry O) → has_output (task_of e) ≡ true → (output : O) × (drop_value (kept_value (task_of e)) ≡ Ok (Some output))
output_given Gone is = cc
output_given Taken is = cc
output_given (Done output) is = (output, refl)
output_given (Idle h) is = cc
output_given (Queued h) is = cc
output_given (Running h) is = cc
output_given (Noted h) is = cc

pub gives_output : {O : Type 0} (queue : List ℕ) (entries : List (Entry O)) (limit t : ℕ) → t < length entries → (e : Entry O) → entry_at entries t ≡ e → has_output (task_of e) ≡ true
    → GivesOutput (tasks_of queue entries limit) t
gives_output queue entries limit t inside e at is =
    let given = output_given e is in
    (given.0, ap drop_value (kept_at queue entries limit t inside ∙ ap (λ x. kept_value (task_of x)) at) ∙ given.1)

-- A handle of a task that was removed.
pub joined_gone : {O : Type 0} (queue : List ℕ) (entries : List (Entry O)) (limit t : ℕ) → t < length entries → entry_at entries t ≡ Gone
    → (by : ℕ) → tasks_of queue entries limit ≡ joined (tasks_of queue entries limit) t by
joined_gone queue entries limit t inside at by = sym (ap (λ k. joined_value k (tasks_of queue entries limit) t by) (kept_at queue entries limit t inside ∙ ap (λ x. kept_value (task_of x)) at))

pub dropped_gone : {O : Type 0} (queue : List ℕ) (entries : List (Entry O)) (limit t : ℕ) → t < length entries → entry_at entries t ≡ Gone
    → tasks_of queue entries limit ≡ join_dropped (tasks_of queue entries limit) t
dropped_gone queue entries limit t inside at = sym (ap (λ k. dropped_value k (tasks_of queue entries limit) t) (kept_at queue entries limit t inside ∙ ap (λ x. kept_value (task_of x)) at))

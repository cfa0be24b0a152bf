-- The end of a task, on the places of the table.
use Rattle.std.proofs.Common.{◌≡◌, ◌<◌, ◌≤◌, ◌+◌, ◌-◌, ℕ, Bool, true, false, List, map, length, set, Some, None, Option, refl, ap, sym, subst, ◌∙◌, arith}
use Rattle.std.specs.Prelude.{slice_set, is_some}
use Rattle.std.proofs.lemmas.List.{map-set}
use Rattle.mono_model.specs.Table.{value_at, count_of}
use Rattle.mono_model.specs.Tasks as model
use Rattle.mono_model.specs.Valid.{once_if}
use Rattle.mono_task.specs.Places.{Entry, Gone, Taken, Done, Idle, Queued, Running, Noted}
use Rattle.mono_task.specs.declared.entries.Handle.{Handle}
use Rattle.mono_task.specs.declared.entries.Handle.TheVariants as handle
use Rattle.mono_task.specs.Entries.{task_of, handle_of, completed_entry, finished_entry, in_hand, is_queued, is_running, is_unfinished}
use Rattle.mono_task.specs.Invariants.{entry_at, count_where, tasks_of, Stands, Keeps}
use Rattle.mono_task.specs.TaskEnds.{finished, Finishes}
use Rattle.mono_task.specs.Schedule.{Schedule}
use Rattle.mono_task.proofs.CountLemmas.{count_where-set, some_unfinished}
use Rattle.mono_task.proofs.TableWriteLemmas.{value_at-entries, count_of-gone, count_of-same}
use Rattle.mono_task.proofs.InvariantLemmas.{same_tasks, stays_alone}
use Rattle.mono_task.proofs.PlaceLemmas.{no_turn}

abbrev pub the_schedule : {O : Type 0} → model.Tasks O → ℕ → Option ℕ → Schedule O
the_schedule tasks turns turn = record { tasks = tasks; turns = turns; turn = turn }

-- a running task, whatever was noted
pub record Runs {O : Type 0} (e : Entry O) (h : Handle) (output : O) : Type 0 where
  pub noted : Bool
  pub task : task_of e ≡ Some (in_hand (model.running noted) h)
  pub out : is_queued e ≡ false
  pub lasts : is_unfinished e ≡ true
  pub ends : completed_entry e output ≡ finished_entry h output

pub runs_of : {O : Type 0} (e : Entry O) (h : Handle) (output : O) → is_running e ≡ true → Some h ≡ handle_of e → Runs e h output
runs_of (Running its) h output runs is =
    let same : h ≡ its = cc in
    rw same (record { noted = false; task = refl; out = refl; lasts = refl; ends = refl })
runs_of (Noted its) h output runs is =
    let same : h ≡ its = cc in
    rw same (record { noted = true; task = refl; out = refl; lasts = refl; ends = refl })
runs_of Gone h output runs is = cc
runs_of Taken h output runs is = cc
runs_of (Done before) h output runs is = cc
runs_of (Idle its) h output runs is = cc
runs_of (Queued its) h output runs is = cc

pub handle_is_there : {O : Type 0} (e : Entry O) → is_running e ≡ true → None ≡ handle_of e → ⊥
handle_is_there (Running its) runs is = cc
handle_is_there (Noted its) runs is = cc
handle_is_there Gone runs is = cc
handle_is_there Taken runs is = cc
handle_is_there (Done before) runs is = cc
handle_is_there (Idle its) runs is = cc
handle_is_there (Queued its) runs is = cc

over_queued : {O : Type 0} (h : Handle) (output : O) → is_queued (finished_entry h output) ≡ false
over_queued handle.Dropped output = refl
over_queued handle.Kept output = refl
over_queued (handle.Awaited by) output = refl

over_running : {O : Type 0} (h : Handle) (output : O) → is_running (finished_entry h output) ≡ false
over_running handle.Dropped output = refl
over_running handle.Kept output = refl
over_running (handle.Awaited by) output = refl

over_unfinished : {O : Type 0} (h : Handle) (output : O) → is_unfinished (finished_entry h output) ≡ false
over_unfinished handle.Dropped output = refl
over_unfinished handle.Kept output = refl
over_unfinished (handle.Awaited by) output = refl

module _ {O : Type 0} (queue : List ℕ) (room : ℕ) (entries : List (Entry O)) (unfinished live : ℕ) (turn : Option ℕ) (t : ℕ) (keeps : Keeps queue room entries unfinished live turn)
    (limit : ℕ) (e new : Entry O) (h : Handle) (output : O) (inside : t < length entries) (turns : turn ≡ Some t) (at : entry_at entries t ≡ e)
    (runs : is_running e ≡ true) (holds : Some h ≡ handle_of e) (is : new ≡ completed_entry e output) where
  its : Runs e h output
  its = runs_of e h output runs holds

  new_is : new ≡ finished_entry h output
  new_is = is ∙ its.ends

  stands : Stands queue (slice_set entries t new) None
  stands = stays_alone queue entries turn None t new keeps.stands inside (λ q apart. no_turn turn t q turns apart) (ap is_running new_is ∙ over_running h output)
      (ap is_queued new_is ∙ over_queued h output ∙ sym (ap is_queued at ∙ its.out))

  -- it is one of those that have not finished
  pub one_unfinished : 1 ≤ unfinished
  one_unfinished = omega (arith, keeps.unfinished_is, some_unfinished entries t (ap is_unfinished at ∙ its.lasts))

  unfinished_left : unfinished - 1 ≡ count_where is_unfinished (slice_set entries t new)
  unfinished_left = omega (arith, one_unfinished, keeps.unfinished_is, count_where-set is_unfinished entries t new inside, ap once_if (ap is_unfinished at ∙ its.lasts), ap once_if (ap is_unfinished new_is ∙ over_unfinished h output))

  table_of_new : map task_of (slice_set entries t new) ≡ set (map task_of entries) t (task_of new)
  table_of_new = map-set task_of entries t new

  was_some : is_some (value_at (map task_of entries) t) ≡ true
  was_some = ap is_some (value_at-entries entries t ∙ ap task_of at ∙ its.task)

  one_less : task_of new ≡ None → count_of (map task_of (slice_set entries t new)) + 1 ≡ count_of (map task_of entries)
  one_less gone = ap (λ n. n + 1) (ap count_of (table_of_new ∙ ap (λ v. set (map task_of entries) t v) gone)) ∙ count_of-gone (map task_of entries) t was_some

  as_many : is_some (task_of new) ≡ true → count_of (map task_of (slice_set entries t new)) ≡ count_of (map task_of entries)
  as_many stays = ap count_of table_of_new ∙ count_of-same (map task_of entries) t (task_of new) (stays ∙ sym was_some)

  finishes_as : (by : Handle) → new ≡ finished_entry by output → tasks_of queue (slice_set entries t new) limit ≡ finished (tasks_of queue entries limit) t by output
  finishes_as handle.Dropped then = same_tasks _ _ _ _ limit refl (table_of_new ∙ ap (λ x. set (map task_of entries) t (task_of x)) then)
  finishes_as handle.Kept then = same_tasks _ _ _ _ limit refl (table_of_new ∙ ap (λ x. set (map task_of entries) t (task_of x)) then)
  finishes_as (handle.Awaited by) then = same_tasks _ _ _ _ limit refl (table_of_new ∙ ap (λ x. set (map task_of entries) t (task_of x)) then)

  pub is_gone : h ≡ handle.Dropped → new ≡ Gone
  is_gone dropped = new_is ∙ ap (λ x. finished_entry x output) dropped

  -- without a handle it is live no longer
  pub gone_keeps : h ≡ handle.Dropped → Keeps queue room (slice_set entries t new) (unfinished - 1) (live - 1) None
  gone_keeps dropped = record {
    stands = stands;
    unfinished_is = unfinished_left;
    live_is = omega (arith, keeps.live_is, one_less (ap task_of (new_is ∙ ap (λ x. finished_entry x output) dropped)));
    sure = omega (arith, keeps.sure);
  }

  pub done_keeps : task_of (finished_entry h output) ≡ Some (record { phase = model.done output; is_kept = true; waiter = None })
      → Keeps queue room (slice_set entries t new) (unfinished - 1) live None
  done_keeps stays = record {
    stands = stands;
    unfinished_is = unfinished_left;
    live_is = keeps.live_is ∙ sym (as_many (ap (λ x. is_some (task_of x)) new_is ∙ ap is_some stays));
    sure = omega (arith, keeps.sure);
  }

  -- the whole of it, as the caller sees it
  pub finishes : (s : Schedule O) (turns_so_far : ℕ) → the_schedule (tasks_of queue entries limit) turns_so_far turn ≡ s
      → Finishes s (the_schedule (tasks_of queue (slice_set entries t new) limit) turns_so_far None) output h
  finishes s turns_so_far view =
      subst (λ x. Finishes x (the_schedule (tasks_of queue (slice_set entries t new) limit) turns_so_far None) output h) view (record {
        t = t;
        task = in_hand (model.running its.noted) h;
        turn = turns;
        was = value_at-entries entries t ∙ ap task_of at ∙ its.task;
        kept = refl;
        waiter = refl;
        left = ap (λ tasks. the_schedule tasks turns_so_far None) (finishes_as h new_is);
      })

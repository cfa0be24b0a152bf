-- The end of a turn that is pending, on the places of the table.
use Rattle.std.proofs.Common.{◌≡◌, ◌<◌, ℕ, true, false, List, [], ◌∷◌, ◌++◌, map, length, set, Some, None, Option, refl, ap, sym, ◌∙◌}
use Rattle.std.specs.Prelude.{slice_set, is_some}
use Rattle.std.proofs.lemmas.List.{map-set}
use Rattle.mono_model.specs.Table.{value_at}
use Rattle.mono_model.specs.Tasks as model
use Rattle.mono_model.specs.declared.Ended.TheVariants as ended
use Rattle.mono_task.specs.Places.{Entry, Gone, Taken, Done, Idle, Queued, Running, Noted}
use Rattle.mono_task.specs.Entries.{task_of, paused_entry, is_noted, is_queued, is_running, is_unfinished}
use Rattle.mono_task.specs.Invariants.{entry_at, tasks_of, Keeps}
use Rattle.mono_task.proofs.TableWriteLemmas.{value_at-entries}
use Rattle.mono_task.proofs.InvariantLemmas.{same_tasks, stays_alone, stays_queued, keeps_counts, room_for}
use Rattle.mono_task.proofs.PlaceLemmas.{no_turn}

module _ {O : Type 0} (queue : List ℕ) (room : ℕ) (entries : List (Entry O)) (unfinished live : ℕ) (turn : Option ℕ) (t : ℕ) (keeps : Keeps queue room entries unfinished live turn) where
  -- a noted task has room in the queue
  pub noted_room : (e : Entry O) → entry_at entries t ≡ e → is_noted e ≡ true → length queue < room
  noted_room (Noted h) at is = room_for queue room entries unfinished live turn t keeps (ap is_queued at) (ap is_unfinished at)
  noted_room Gone at is = cc
  noted_room Taken at is = cc
  noted_room (Done output) at is = cc
  noted_room (Idle h) at is = cc
  noted_room (Queued h) at is = cc
  noted_room (Running h) at is = cc

  module _ (limit : ℕ) (inside : t < length entries) (turns : turn ≡ Some t) where
    -- a task that was noted goes to the queue's back
    pub noted_queues : (e new : Entry O) → entry_at entries t ≡ e → new ≡ paused_entry e → is_noted e ≡ true
        → Keeps (queue ++ t ∷ []) room (slice_set entries t new) unfinished live None
        × (tasks_of (queue ++ t ∷ []) (slice_set entries t new) limit ≡ model.paused_value (value_at (map task_of entries) t) (tasks_of queue entries limit) t)
        × (model.pause_answer (value_at (map task_of entries) t) ≡ ended.Again)
    noted_queues (Noted h) new at is noted =
        let stands = stays_queued queue entries turn None t new keeps.stands inside (λ q apart. no_turn turn t q turns apart) (ap is_running is) (ap is_queued at) (ap is_queued is) in (
          keeps_counts queue entries turn None t new keeps.stands inside (λ q apart. no_turn turn t q turns apart) (ap is_running is) (queue ++ t ∷ []) room unfinished live keeps stands
              (ap is_unfinished is ∙ sym (ap is_unfinished at)) (ap (λ x. is_some (task_of x)) is ∙ sym (ap (λ x. is_some (task_of x)) at)),
          same_tasks _ _ _ _ limit refl (map-set task_of entries t new ∙ ap (λ x. set (map task_of entries) t (task_of x)) is)
              ∙ sym (ap (λ v. model.paused_value v (tasks_of queue entries limit) t) (value_at-entries entries t ∙ ap task_of at)),
          ap model.pause_answer (value_at-entries entries t ∙ ap task_of at),
        )
    noted_queues Gone new at is noted = cc
    noted_queues Taken new at is noted = cc
    noted_queues (Done output) new at is noted = cc
    noted_queues (Idle h) new at is noted = cc
    noted_queues (Queued h) new at is noted = cc
    noted_queues (Running h) new at is noted = cc

    -- any other is idle
    pub running_rests : (e new : Entry O) → entry_at entries t ≡ e → is_running e ≡ true → new ≡ paused_entry e → is_noted e ≡ false
        → Keeps queue room (slice_set entries t new) unfinished live None
        × (tasks_of queue (slice_set entries t new) limit ≡ model.paused_value (value_at (map task_of entries) t) (tasks_of queue entries limit) t)
        × (model.pause_answer (value_at (map task_of entries) t) ≡ ended.Idle)
    running_rests (Running h) new at runs is noted =
        let stands = stays_alone queue entries turn None t new keeps.stands inside (λ q apart. no_turn turn t q turns apart) (ap is_running is) (ap is_queued is ∙ sym (ap is_queued at)) in (
          keeps_counts queue entries turn None t new keeps.stands inside (λ q apart. no_turn turn t q turns apart) (ap is_running is) queue room unfinished live keeps stands
              (ap is_unfinished is ∙ sym (ap is_unfinished at)) (ap (λ x. is_some (task_of x)) is ∙ sym (ap (λ x. is_some (task_of x)) at)),
          same_tasks _ _ _ _ limit refl (map-set task_of entries t new ∙ ap (λ x. set (map task_of entries) t (task_of x)) is)
              ∙ sym (ap (λ v. model.paused_value v (tasks_of queue entries limit) t) (value_at-entries entries t ∙ ap task_of at)),
          ap model.pause_answer (value_at-entries entries t ∙ ap task_of at),
        )
    running_rests Gone new at runs is noted = cc
    running_rests Taken new at runs is noted = cc
    running_rests (Done output) new at runs is noted = cc
    running_rests (Idle h) new at runs is noted = cc
    running_rests (Queued h) new at runs is noted = cc
    running_rests (Noted h) new at runs is noted = cc

-- A wake, on the places of the table.
use Rattle.std.proofs.Common.{◌≡◌, ◌<◌, ℕ, List, [], ◌∷◌, ◌++◌, map, length, set, cond, Ok, Err, Option, refl, ap, sym, ◌∙◌}
use Rattle.std.specs.Prelude.{slice_set, is_some, nat_lt}
use Rattle.std.proofs.lemmas.List.{map-set, length-map}
use Rattle.mono_model.specs.Tasks as model
use Rattle.mono_model.specs.Table.{value_at}
use Rattle.mono_model.specs.Joins.{wake_answer}
use Rattle.mono_model.specs.declared.Woke.TheVariants as woke
use Rattle.mono_model.specs.declared.task_error.TaskError.TheVariants.{NoTask}
use Rattle.mono_task.specs.Places.{Entry, Gone, Taken, Done, Idle, Queued, Running, Noted}
use Rattle.mono_task.specs.declared.entries.Waking.TheVariants as waking
use Rattle.mono_task.specs.Entries.{task_of, woken_entry, waking_of, is_queued, is_running, is_unfinished}
use Rattle.mono_task.specs.Invariants.{entry_at, tasks_of, Keeps}
use Rattle.mono_task.proofs.TableWriteLemmas.{value_at-entries, set_same}
use Rattle.mono_task.proofs.PlaceLemmas.{lt_true}
use Rattle.mono_task.proofs.InvariantLemmas.{same_tasks, stays_alone, stays_queued, keeps_counts, room_for}

-- The answer of a wake, if the number was given out.
pub wake_at : {O : Type 0} (queue : List ℕ) (entries : List (Entry O)) (limit t : ℕ) → t < length entries
    → wake_answer (tasks_of queue entries limit) t ≡ Ok (model.woke_value (task_of (entry_at entries t)))
wake_at queue entries limit t inside =
    ap (λ b. cond b (Ok (model.woke_value (value_at (map task_of entries) t))) (Err NoTask)) (ap (λ n. nat_lt t n) (length-map entries task_of) ∙ lt_true t (length entries) inside)
    ∙ ap (λ v. Ok (model.woke_value v)) (value_at-entries entries t)

pub woke_queued : {O : Type 0} (e : Entry O) → waking.Queues ≡ waking_of e → model.woke_value (task_of e) ≡ woke.Queued
woke_queued (Idle h) is = refl
woke_queued Gone is = cc
woke_queued Taken is = cc
woke_queued (Done output) is = cc
woke_queued (Queued h) is = cc
woke_queued (Running h) is = cc
woke_queued (Noted h) is = cc

pub woke_noted : {O : Type 0} (e : Entry O) → waking.Notes ≡ waking_of e → model.woke_value (task_of e) ≡ woke.Noted
woke_noted (Running h) is = refl
woke_noted (Noted h) is = refl
woke_noted Gone is = cc
woke_noted Taken is = cc
woke_noted (Done output) is = cc
woke_noted (Queued h) is = cc
woke_noted (Idle h) is = cc

pub woke_nothing : {O : Type 0} (e : Entry O) → waking.Nothing ≡ waking_of e → model.woke_value (task_of e) ≡ woke.Nothing
woke_nothing Gone is = refl
woke_nothing Taken is = refl
woke_nothing (Done output) is = refl
woke_nothing (Queued h) is = refl
woke_nothing (Idle h) is = cc
woke_nothing (Running h) is = cc
woke_nothing (Noted h) is = cc

woken_stays : {O : Type 0} (e : Entry O) → waking.Nothing ≡ waking_of e → woken_entry e ≡ e
woken_stays Gone nothing = refl
woken_stays Taken nothing = refl
woken_stays (Done output) nothing = refl
woken_stays (Queued h) nothing = refl
woken_stays (Idle h) nothing = cc
woken_stays (Running h) nothing = cc
woken_stays (Noted h) nothing = cc

woken_alone : {O : Type 0} (e : Entry O) → waking.Nothing ≡ waking_of e → (tasks : model.Tasks O) (t : ℕ) → model.woken_value (task_of e) tasks t ≡ tasks
woken_alone Gone nothing tasks t = refl
woken_alone Taken nothing tasks t = refl
woken_alone (Done output) nothing tasks t = refl
woken_alone (Queued h) nothing tasks t = refl
woken_alone (Idle h) nothing tasks t = cc
woken_alone (Running h) nothing tasks t = cc
woken_alone (Noted h) nothing tasks t = cc

module _ {O : Type 0} (queue : List ℕ) (room : ℕ) (entries : List (Entry O)) (unfinished live : ℕ) (turn : Option ℕ) (t : ℕ) (keeps : Keeps queue room entries unfinished live turn) where
  -- an idle task has room in the queue
  pub idle_room : (e : Entry O) → entry_at entries t ≡ e → waking.Queues ≡ waking_of e → length queue < room
  idle_room (Idle h) at is = room_for queue room entries unfinished live turn t keeps (ap is_queued at) (ap is_unfinished at)
  idle_room Gone at is = cc
  idle_room Taken at is = cc
  idle_room (Done output) at is = cc
  idle_room (Queued h) at is = cc
  idle_room (Running h) at is = cc
  idle_room (Noted h) at is = cc

  module _ (limit : ℕ) (inside : t < length entries) where
    -- an idle task goes to the queue's back
    pub idle_queues : (e new : Entry O) → entry_at entries t ≡ e → new ≡ woken_entry e → waking.Queues ≡ waking_of e
        → Keeps (queue ++ t ∷ []) room (slice_set entries t new) unfinished live turn
        × (tasks_of (queue ++ t ∷ []) (slice_set entries t new) limit ≡ model.woken (tasks_of queue entries limit) t)
    idle_queues (Idle h) new at is queues =
        let runs = ap is_running is ∙ sym (ap is_running at) ∙ keeps.stands.runs t in
        let stands = stays_queued queue entries turn turn t new keeps.stands inside (λ q apart. refl) runs (ap is_queued at) (ap is_queued is) in (
          keeps_counts queue entries turn turn t new keeps.stands inside (λ q apart. refl) runs (queue ++ t ∷ []) room unfinished live keeps stands
              (ap is_unfinished is ∙ sym (ap is_unfinished at)) (ap (λ x. is_some (task_of x)) is ∙ sym (ap (λ x. is_some (task_of x)) at)),
          same_tasks _ _ _ _ limit refl (map-set task_of entries t new ∙ ap (λ x. set (map task_of entries) t (task_of x)) is)
              ∙ sym (ap (λ v. model.woken_value v (tasks_of queue entries limit) t) (value_at-entries entries t ∙ ap task_of at)),
        )
    idle_queues Gone new at is queues = cc
    idle_queues Taken new at is queues = cc
    idle_queues (Done output) new at is queues = cc
    idle_queues (Queued h) new at is queues = cc
    idle_queues (Running h) new at is queues = cc
    idle_queues (Noted h) new at is queues = cc

    -- a running task is noted
    pub running_notes : (e new : Entry O) → entry_at entries t ≡ e → new ≡ woken_entry e → waking.Notes ≡ waking_of e
        → Keeps queue room (slice_set entries t new) unfinished live turn
        × (tasks_of queue (slice_set entries t new) limit ≡ model.woken (tasks_of queue entries limit) t)
    running_notes (Running h) new at is notes =
        let runs = ap is_running is ∙ sym (ap is_running at) ∙ keeps.stands.runs t in
        let stands = stays_alone queue entries turn turn t new keeps.stands inside (λ q apart. refl) runs (ap is_queued is ∙ sym (ap is_queued at)) in (
          keeps_counts queue entries turn turn t new keeps.stands inside (λ q apart. refl) runs queue room unfinished live keeps stands
              (ap is_unfinished is ∙ sym (ap is_unfinished at)) (ap (λ x. is_some (task_of x)) is ∙ sym (ap (λ x. is_some (task_of x)) at)),
          same_tasks _ _ _ _ limit refl (map-set task_of entries t new ∙ ap (λ x. set (map task_of entries) t (task_of x)) is)
              ∙ sym (ap (λ v. model.woken_value v (tasks_of queue entries limit) t) (value_at-entries entries t ∙ ap task_of at)),
        )
    running_notes (Noted h) new at is notes =
        let runs = ap is_running is ∙ sym (ap is_running at) ∙ keeps.stands.runs t in
        let stands = stays_alone queue entries turn turn t new keeps.stands inside (λ q apart. refl) runs (ap is_queued is ∙ sym (ap is_queued at)) in (
          keeps_counts queue entries turn turn t new keeps.stands inside (λ q apart. refl) runs queue room unfinished live keeps stands
              (ap is_unfinished is ∙ sym (ap is_unfinished at)) (ap (λ x. is_some (task_of x)) is ∙ sym (ap (λ x. is_some (task_of x)) at)),
          same_tasks _ _ _ _ limit refl (map-set task_of entries t new ∙ ap (λ x. set (map task_of entries) t (task_of x)) is)
              ∙ sym (ap (λ v. model.woken_value v (tasks_of queue entries limit) t) (value_at-entries entries t ∙ ap task_of at)),
        )
    running_notes Gone new at is notes = cc
    running_notes Taken new at is notes = cc
    running_notes (Done output) new at is notes = cc
    running_notes (Idle h) new at is notes = cc
    running_notes (Queued h) new at is notes = cc

    -- any other stays as it is
    pub nothing_stays : (e new : Entry O) → entry_at entries t ≡ e → new ≡ woken_entry e → waking.Nothing ≡ waking_of e
        → Keeps queue room (slice_set entries t new) unfinished live turn
        × (tasks_of queue (slice_set entries t new) limit ≡ model.woken (tasks_of queue entries limit) t)
    nothing_stays e new at is nothing =
        let same : slice_set entries t new ≡ entries = set_same entries t new Gone inside (at ∙ sym (is ∙ woken_stays e nothing)) in
        rw same (keeps, sym (ap (λ v. model.woken_value v (tasks_of queue entries limit) t) (value_at-entries entries t ∙ ap task_of at) ∙ woken_alone e nothing (tasks_of queue entries limit) t))

    -- The wake of a removed task changes nothing.
    pub gone_stays : entry_at entries t ≡ Gone → tasks_of queue entries limit ≡ model.woken (tasks_of queue entries limit) t
    gone_stays at = sym (ap (λ v. model.woken_value v (tasks_of queue entries limit) t) (value_at-entries entries t ∙ ap task_of at))

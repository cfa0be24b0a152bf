-- The invariant of places and queue holds again after a write to one place.
use Rattle.std.proofs.Common.{◌≡◌, ◌≢◌, ◌<◌, ◌≤◌, ◌+◌, ℕ, true, false, List, [], ◌∷◌, ◌++◌, map, length, Option, refl, ap, sym, ◌∙◌, inl, inr, arith}
use Rattle.std.specs.Prelude.{slice_set, is_some}
use Rattle.std.proofs.lemmas.Bool.{cases_eq}
use Rattle.std.proofs.lemmas.List.{map-set, get_or-set_same, get_or-set_other, length-append}
use Rattle.mono_model.specs.Table.{Table, count_of}
use Rattle.mono_model.specs.Tasks.{Tasks, Task}
use Rattle.mono_model.specs.Valid.{times, once_if}
use Rattle.mono_model.proofs.CountLemmas.{times-push, one_time, no_time}
use Rattle.mono_task.specs.Places.{Entry, Gone}
use Rattle.mono_task.specs.Entries.{task_of, is_queued, is_running, is_unfinished}
use Rattle.mono_task.specs.Invariants.{entry_at, has_turn, Stands, Keeps}
use Rattle.mono_task.proofs.CountLemmas.{count_where-set, queued_within, place_free}
use Rattle.mono_task.proofs.TableWriteLemmas.{value_at-entries, count_of-same}

abbrev pub the_tasks : {O : Type 0} → List ℕ → Table (Task O) → ℕ → Tasks O
the_tasks queue table limit = record { queue = queue; table = table; limit = limit }

pub same_tasks : {O : Type 0} (queue queue' : List ℕ) (table table' : Table (Task O)) (limit : ℕ) → queue ≡ queue' → table ≡ table'
    → the_tasks queue table limit ≡ the_tasks queue' table' limit
same_tasks queue queue' table table' limit e1 e2 = rw (e1, e2) refl

-- the queue has no more than the tasks that have not finished
pub queue_fits : {O : Type 0} (queue : List ℕ) (room : ℕ) (entries : List (Entry O)) (unfinished live : ℕ) (turn : Option ℕ) → Keeps queue room entries unfinished live turn
    → length queue ≤ unfinished
queue_fits queue room entries unfinished live turn keeps = omega (arith, keeps.stands.listed, keeps.unfinished_is, queued_within entries)

-- a task that is not queued and has not finished has room in the queue
pub room_for : {O : Type 0} (queue : List ℕ) (room : ℕ) (entries : List (Entry O)) (unfinished live : ℕ) (turn : Option ℕ) (t : ℕ) → Keeps queue room entries unfinished live turn
    → is_queued (entry_at entries t) ≡ false → is_unfinished (entry_at entries t) ≡ true → length queue < room
room_for queue room entries unfinished live turn t keeps out lasts = omega (arith, keeps.stands.listed, keeps.unfinished_is, keeps.sure, place_free entries t out lasts)

-- The place of t is written.
module _ {O : Type 0} (queue : List ℕ) (entries : List (Entry O)) (turn next : Option ℕ) (t : ℕ) (new : Entry O) (old : Stands queue entries turn) (inside : t < length entries)
    (turns : (q : ℕ) → q ≢ t → has_turn next q ≡ has_turn turn q) (runs : is_running new ≡ has_turn next t) where
  here : entry_at (slice_set entries t new) t ≡ new
  here = get_or-set_same entries t new Gone inside

  there : (q : ℕ) → q ≢ t → entry_at (slice_set entries t new) q ≡ entry_at entries q
  there q apart = get_or-set_other entries t q new Gone apart

  -- and the queue differs at t alone
  pub stays : (after : List ℕ) → ((q : ℕ) → q ≢ t → times after q ≡ times queue q) → times after t ≡ once_if (is_queued new)
      → length after + once_if (is_queued (entry_at entries t)) ≡ length queue + once_if (is_queued new)
      → Stands after (slice_set entries t new) next
  stays after others own listed = record {
    queued = λ q. elim (cases_eq q t) [
      | inl is ↦ rw (is, here) own
      | inr apart ↦ others q apart ∙ old.queued q ∙ ap (λ e. once_if (is_queued e)) (sym (there q apart))
    ];
    listed = omega (arith, listed, old.listed, count_where-set is_queued entries t new inside);
    runs = λ q. elim (cases_eq q t) [
      | inl is ↦ rw (is, here) runs
      | inr apart ↦ ap is_running (there q apart) ∙ old.runs q ∙ sym (turns q apart)
    ];
  }

  -- and the queue stays
  pub stays_alone : is_queued new ≡ is_queued (entry_at entries t) → Stands queue (slice_set entries t new) next
  stays_alone queues = stays queue (λ q apart. refl) (old.queued t ∙ ap once_if (sym queues)) (omega (arith, ap once_if queues))

  -- and t goes to the queue's back
  pub stays_queued : is_queued (entry_at entries t) ≡ false → is_queued new ≡ true → Stands (queue ++ t ∷ []) (slice_set entries t new) next
  stays_queued out queues = stays (queue ++ t ∷ [])
      (λ q apart. times-push queue t q ∙ omega (arith, no_time t q (λ e. apart (sym e))))
      (times-push queue t t ∙ omega (arith, one_time t, old.queued t, ap once_if out, ap once_if queues))
      (omega (arith, ap once_if out, ap once_if queues, length-append queue (t ∷ [])))

  -- with the same counts
  pub keeps_counts : (after : List ℕ) (room unfinished live : ℕ) → Keeps queue room entries unfinished live turn → Stands after (slice_set entries t new) next
      → is_unfinished new ≡ is_unfinished (entry_at entries t) → is_some (task_of new) ≡ is_some (task_of (entry_at entries t))
      → Keeps after room (slice_set entries t new) unfinished live next
  keeps_counts after room unfinished live keeps stands lasts lives = record {
    stands = stands;
    unfinished_is = omega (arith, keeps.unfinished_is, count_where-set is_unfinished entries t new inside, ap once_if lasts);
    live_is = keeps.live_is ∙ sym (ap count_of (map-set task_of entries t new) ∙ count_of-same (map task_of entries) t (task_of new) (lives ∙ sym (ap is_some (value_at-entries entries t))));
    sure = keeps.sure;
  }

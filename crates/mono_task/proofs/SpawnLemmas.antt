-- A spawn, on the places of the table: one more place, whose task is queued last.
use Rattle.std.proofs.Common.{◌≡◌, ◌≢◌, ◌<◌, ◌+◌, ℕ, zero, suc, true, List, [], ◌∷◌, ◌++◌, map, length, None, Option, refl, ap, sym, ◌∙◌, inl, inr, arith}
use Rattle.std.proofs.lemmas.Bool.{cases_eq}
use Rattle.std.proofs.lemmas.List.{get_or_past, length-append, length-map}
use Rattle.mono_model.specs.Tasks as model
use Rattle.mono_model.specs.Table.{count_of}
use Rattle.mono_model.specs.Valid.{once_if}
use Rattle.mono_model.proofs.CountLemmas.{times-push, one_time, no_time, count_of-with_next}
use Rattle.mono_task.specs.Places.{Entry, Gone, Queued}
use Rattle.mono_task.specs.declared.entries.Handle.TheVariants.{Kept}
use Rattle.mono_task.specs.Entries.{task_of, is_queued, is_running, is_unfinished}
use Rattle.mono_task.specs.Invariants.{entry_at, tasks_of, Stands, Keeps}
use Rattle.mono_task.proofs.CountLemmas.{count_where-push}
use Rattle.mono_task.proofs.InvariantLemmas.{same_tasks}

entry_before : {O : Type 0} (entries : List (Entry O)) (e : Entry O) (q : ℕ) → q ≢ length entries → entry_at (entries ++ e ∷ []) q ≡ entry_at entries q
entry_before [] e zero apart = absurd (apart refl)
entry_before [] e (suc q) apart = refl
entry_before (x ∷ xs) e zero apart = refl
entry_before (x ∷ xs) e (suc q) apart = entry_before xs e q (λ same. apart (omega (arith, same)))

entry_last : {O : Type 0} (entries : List (Entry O)) (e : Entry O) → entry_at (entries ++ e ∷ []) (length entries) ≡ e
entry_last [] e = refl
entry_last (x ∷ xs) e = entry_last xs e

map_last : {O : Type 0} (entries : List (Entry O)) (e : Entry O) → map task_of (entries ++ e ∷ []) ≡ map task_of entries ++ task_of e ∷ []
map_last [] e = refl
map_last (x ∷ xs) e = ap (λ ys. task_of x ∷ ys) (map_last xs e)

module _ {O : Type 0} (queue : List ℕ) (room : ℕ) (entries : List (Entry O)) (unfinished live : ℕ) (turn : Option ℕ) (keeps : Keeps queue room entries unfinished live turn)
    (more : ℕ) (sure : unfinished < more) where
  abbrev new : Entry O
  new = Queued Kept

  abbrev next : ℕ
  next = length entries

  past : entry_at entries next ≡ Gone
  past = get_or_past entries next Gone (omega arith)

  stands : Stands (queue ++ next ∷ []) (entries ++ new ∷ []) turn
  stands = record {
    queued = λ t. elim (cases_eq t next) [
      | inl is ↦ rw (is, entry_last entries new) (times-push queue next next ∙ omega (arith, one_time next, keeps.stands.queued next, ap (λ e. once_if (is_queued e)) past))
      | inr apart ↦ rw (entry_before entries new t apart) (times-push queue next t ∙ omega (arith, no_time next t (λ e. apart (sym e)), keeps.stands.queued t))
    ];
    listed = omega (arith, length-append queue (next ∷ []), keeps.stands.listed, count_where-push is_queued entries new);
    runs = λ t. elim (cases_eq t next) [
      | inl is ↦ rw (is, entry_last entries new) (sym (ap is_running past) ∙ keeps.stands.runs next)
      | inr apart ↦ ap is_running (entry_before entries new t apart) ∙ keeps.stands.runs t
    ];
  }

  pub spawn_keeps : Keeps (queue ++ next ∷ []) more (entries ++ new ∷ []) (unfinished + 1) (live + 1) turn
  spawn_keeps = record {
    stands = stands;
    unfinished_is = omega (arith, keeps.unfinished_is, count_where-push is_unfinished entries new);
    live_is = ap (λ n. n + 1) keeps.live_is ∙ sym (ap count_of (map_last entries new) ∙ count_of-with_next (map task_of entries) (record { phase = model.queued; is_kept = true; waiter = None }));
    sure = omega (arith, sure);
  }

  pub spawns_as : (limit : ℕ) → tasks_of (queue ++ next ∷ []) (entries ++ new ∷ []) limit ≡ model.spawned (tasks_of queue entries limit)
  spawns_as limit = same_tasks _ _ _ _ limit (ap (λ x. queue ++ x ∷ []) (sym (length-map entries task_of))) (map_last entries new)

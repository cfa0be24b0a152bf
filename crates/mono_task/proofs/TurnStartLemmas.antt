-- The beginning of a turn, on the places of the table.
use Rattle.std.proofs.Common.{◌≡◌, ◌<◌, ◌+◌, ℕ, true, List, ◌∷◌, map, length, set, Some, None, Option, refl, ap, sym, ◌∙◌, inl, inr, arith, eq-eqb, ne_eqb}
use Rattle.std.specs.Prelude.{slice_set, is_some}
use Rattle.std.proofs.lemmas.List.{map-set, get_or_past}
use Rattle.std.proofs.lemmas.Bool.{cases_lt}
use Rattle.mono_model.specs.Tasks as model
use Rattle.mono_model.specs.Valid.{times, once_if}
use Rattle.mono_model.proofs.CountLemmas.{one_time, no_time}
use Rattle.mono_task.specs.Places.{Entry, Gone, Taken, Done, Idle, Queued, Running, Noted}
use Rattle.mono_task.specs.declared.entries.Handle.{Handle}
use Rattle.mono_task.specs.Entries.{task_of, begun_entry, is_queued, is_running, is_unfinished}
use Rattle.mono_task.specs.Invariants.{entry_at, tasks_of, has_turn, Keeps}
use Rattle.mono_task.proofs.TableWriteLemmas.{value_at-entries}
use Rattle.mono_task.proofs.InvariantLemmas.{same_tasks, stays, keeps_counts}

module _ {O : Type 0} (queue : List ℕ) (room : ℕ) (entries : List (Entry O)) (unfinished live : ℕ) (turn : Option ℕ) (t : ℕ) (rest : List ℕ)
    (keeps : Keeps queue room entries unfinished live turn) (no_turn : turn ≡ None) (front : queue ≡ t ∷ rest) where
  often : once_if (is_queued (entry_at entries t)) ≡ 1 + times rest t
  often = sym (keeps.stands.queued t) ∙ ap (λ l. times l t) front ∙ ap (λ n. n + times rest t) (one_time t)

  its : (e : Entry O) → once_if (is_queued e) ≡ 1 + times rest t → (h : Handle) × (e ≡ Queued h)
  its Gone some = absurd (omega (arith, some))
  its Taken some = absurd (omega (arith, some))
  its (Done output) some = absurd (omega (arith, some))
  its (Idle h) some = absurd (omega (arith, some))
  its (Queued h) some = (h, refl)
  its (Running h) some = absurd (omega (arith, some))
  its (Noted h) some = absurd (omega (arith, some))

  pub begin_inside : t < length entries
  begin_inside = elim (cases_lt t (length entries)) [
    | inl below ↦ below
    | inr past ↦ absurd (omega (arith, often, ap (λ e. once_if (is_queued e)) (get_or_past entries t Gone past)))
  ]

  -- the front of the queue is queued, and runs from then on
  begins_as : (limit : ℕ) (h : Handle) (new : Entry O) → entry_at entries t ≡ Queued h → new ≡ Running h
      → Keeps rest room (slice_set entries t new) unfinished live (Some t)
      × (tasks_of rest (slice_set entries t new) limit ≡ model.begun (tasks_of queue entries limit) t rest)
  begins_as limit h new at is =
      let none : times rest t ≡ 0 = omega (arith, often, ap (λ e. once_if (is_queued e)) at) in
      let turns = λ (q : ℕ) (apart : q ≡ t → ⊥). ne_eqb t q (λ e. apart (sym e)) ∙ sym (ap (λ v. has_turn v q) no_turn) in
      let runs = ap is_running is ∙ sym (eq-eqb t t refl) in
      let stands = stays queue entries turn (Some t) t new keeps.stands begin_inside turns runs rest
      (λ q apart. omega (arith, ap (λ l. times l q) front, no_time t q (λ e. apart (sym e))))
      (none ∙ sym (ap (λ e. once_if (is_queued e)) is))
      (omega (arith, ap length front, ap (λ e. once_if (is_queued e)) at, ap (λ e. once_if (is_queued e)) is)) in (
        keeps_counts queue entries turn (Some t) t new keeps.stands begin_inside turns runs rest room unfinished live keeps stands
            (ap is_unfinished is ∙ sym (ap is_unfinished at)) (ap (λ x. is_some (task_of x)) is ∙ sym (ap (λ x. is_some (task_of x)) at)),
        same_tasks _ _ _ _ limit refl (map-set task_of entries t new ∙ ap (λ e. set (map task_of entries) t (task_of e)) is)
            ∙ sym (ap (λ v. model.begun_value v (record { queue = rest; table = map task_of entries; limit = limit }) t) (value_at-entries entries t ∙ ap task_of at)),
      )

  pub begin_queued : is_queued (entry_at entries t) ≡ true
  unfolding its
  begin_queued = ap is_queued (its (entry_at entries t) often).1

  pub begins : (limit : ℕ) (e new : Entry O) → entry_at entries t ≡ e → new ≡ begun_entry e
      → Keeps rest room (slice_set entries t new) unfinished live (Some t)
      × (tasks_of rest (slice_set entries t new) limit ≡ model.begun (tasks_of queue entries limit) t rest)
  unfolding its
  begins limit e new at is =
      let found = its (entry_at entries t) often in
      begins_as limit found.0 new found.1 (is ∙ ap begun_entry (sym at ∙ found.1))

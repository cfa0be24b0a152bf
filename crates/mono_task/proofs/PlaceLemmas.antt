-- The place of the task whose turn runs, and the question that is asked about a place.
use Rattle.std.proofs.Common.{◌≡◌, ◌≢◌, ◌<◌, ℕ, true, false, cond, List, map, length, Some, Ok, Err, Option, refl, ap, sym, ◌∙◌, inl, inr, arith, ne_eqb, eq-eqb}
use Rattle.std.specs.Prelude.{nat_lt}
use Rattle.std.proofs.lemmas.List.{get_or_past, length-map}
use Rattle.std.proofs.lemmas.Bool.{cases_lt}
use Rattle.mono_model.specs.Table.{value_at}
use Rattle.mono_model.specs.Joins.{kept_task, kept_value}
use Rattle.mono_model.specs.declared.task_error.TaskError.TheVariants.{NoTask}
use Rattle.mono_task.specs.Work.{has_finished, over_answer}
use Rattle.mono_task.specs.Places.{Entry, Gone}
use Rattle.mono_task.specs.Entries.{task_of, is_running}
use Rattle.mono_task.specs.Invariants.{entry_at, has_turn, tasks_of, Stands}
use Rattle.mono_task.proofs.TableWriteLemmas.{value_at-entries}

-- the task whose turn runs is running
pub running_at : {O : Type 0} (queue : List ℕ) (entries : List (Entry O)) (turn : Option ℕ) (t : ℕ) → Stands queue entries turn → turn ≡ Some t → is_running (entry_at entries t) ≡ true
running_at queue entries turn t stands turns = stands.runs t ∙ ap (λ v. has_turn v t) turns ∙ eq-eqb t t refl

pub inside_of : {O : Type 0} (entries : List (Entry O)) (t : ℕ) → is_running (entry_at entries t) ≡ true → t < length entries
inside_of entries t runs = elim (cases_lt t (length entries)) [
  | inl below ↦ below
  | inr past ↦ absurd (false-true (sym (ap is_running (get_or_past entries t Gone past)) ∙ runs))
]
  where
    false-true : false ≡ true → ⊥
    false-true e = cc

pub no_turn : (turn : Option ℕ) (t q : ℕ) → turn ≡ Some t → q ≢ t → false ≡ has_turn turn q
no_turn turn t q turns apart = sym (ap (λ v. has_turn v q) turns ∙ ne_eqb t q (λ e. apart (sym e)))

pub lt_true : (t n : ℕ) → t < n → nat_lt t n ≡ true
lt_true t n below = grind (arith, below)

-- The question about a place, as the question about the tasks.
pub kept_at : {O : Type 0} (queue : List ℕ) (entries : List (Entry O)) (limit t : ℕ) → t < length entries
    → kept_task (tasks_of queue entries limit) t ≡ kept_value (task_of (entry_at entries t))
kept_at {O} queue entries limit t inside =
    ap (λ b. cond b (kept_value (value_at (map task_of entries) t)) (Err NoTask)) (ap (λ n. nat_lt t n) (length-map entries task_of) ∙ lt_true t (length entries) inside)
    ∙ ap kept_value (value_at-entries entries t)

-- whether the task at a place has finished
pub over_at : {O : Type 0} (queue : List ℕ) (entries : List (Entry O)) (limit t : ℕ) → t < length entries
    → over_answer (tasks_of queue entries limit) t ≡ Ok (has_finished (task_of (entry_at entries t)))
over_at {O} queue entries limit t inside =
    ap (λ b. cond b (Ok (has_finished (value_at (map task_of entries) t))) (Err NoTask)) (ap (λ n. nat_lt t n) (length-map entries task_of) ∙ lt_true t (length entries) inside)
    ∙ ap (λ v. Ok (has_finished v)) (value_at-entries entries t)

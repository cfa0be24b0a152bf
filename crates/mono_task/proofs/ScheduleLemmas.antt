-- The schedule after several wakes, and the task at the queue's front.
use Rattle.std.proofs.Common.{◌≡◌, ◌<◌, ◌≤◌, ℕ, ◌+◌, suc, List, [], ◌∷◌, length, get_or, drop, ap, sym, ◌∙◌, arith, length-drop}
use Rattle.std.specs.Prelude.{Result, Ok}
use Rattle.std.proofs.Math.Seq.{drop-cons}
use Rattle.std.proofs.lemmas.List.{nil_from_length}
use Rattle.mono_model.specs.Tasks.{Tasks, woken, all_woken}
use Rattle.mono_model.specs.declared.task_error.TaskError.{TaskError}
use Rattle.mono_task.specs.Schedule.{Schedule}
use Rattle.mono_task.specs.Schedule as schedule

suc_one : (i : ℕ) → suc i ≡ i + 1
suc_one i = omega arith

first_and_rest : {X : Type 0} (xs : List X) (i : ℕ) (d : X) → i < length xs → drop i xs ≡ get_or xs i d ∷ drop (i + 1) xs
first_and_rest xs i d inside = drop-cons xs i d inside ∙ ap (λ k. get_or xs i d ∷ drop k xs) (suc_one i)

pub nothing_left : {X : Type 0} (xs : List X) (i : ℕ) → length xs ≤ i → drop i xs ≡ []
nothing_left xs i past = nil_from_length (drop i xs) (rw length-drop (omega (arith, past)))

-- one more of several tasks is woken
pub woken_more : {O : Type 0} (ts : List ℕ) (i d : ℕ) (tasks all : Tasks O) → i < length ts → all_woken tasks (drop i ts) ≡ all → all_woken (woken tasks (get_or ts i d)) (drop (i + 1) ts) ≡ all
woken_more ts i d tasks all inside left = ap (all_woken tasks) (sym (first_and_rest ts i d inside)) ∙ left

pub schedule_is : {O : Type 0} (s before : Schedule O) (tasks : Tasks O) → s.turns ≡ before.turns → s.turn ≡ before.turn → s.tasks ≡ tasks → s ≡ schedule.with_tasks before tasks
schedule_is s before tasks turns turn is =
    ap (λ x. record { tasks = x; turns = s.turns; turn = s.turn }) is ∙ ap (λ x. record { tasks = tasks; turns = x; turn = s.turn }) turns ∙ ap (λ x. record { tasks = tasks; turns = before.turns; turn = x }) turn

-- a turn begins
abbrev some_ok : ℕ → Result ℕ TaskError
some_ok t = Ok t

ok-same : (t me : ℕ) → some_ok t ≡ some_ok me → t ≡ me
ok-same t me e = cc

pub front_is : (queue : List ℕ) (me : ℕ) → schedule.front_of queue ≡ Ok me → (rest : List ℕ) × (queue ≡ me ∷ rest)
front_is [] me e = cc
front_is (t ∷ rest) me e = (rest, ap (λ x. x ∷ rest) (ok-same t me e))

-- Sleeps that fire one after another: one more at the end, and the sleeps and the tasks apart from each other.
use Rattle.std.proofs.Common.{◌≡◌, ℕ, List, [], ◌∷◌, ◌++◌, Some, None, Option, refl, ap, ◌∙◌}
use Rattle.mono_model.specs.Tasks.{Tasks, woken_if_any, all_woken}
use Rattle.mono_model.specs.Sleeps.{Sleeps}
use Rattle.mono_model.specs.SleepActs as sleep
use Rattle.mono_machine.specs.Machine.{Machine, with_tasks, with_sleeps}
use Rattle.mono_machine.specs.Steps.{after_fire, after_fires, all_fired, with_first, wakers_of}

-- one more sleep fires
pub fired-push : (sleeps : Sleeps) (fired : List ℕ) (s : ℕ) → all_fired sleeps (fired ++ s ∷ []) ≡ sleep.fired (all_fired sleeps fired) s
fired-push sleeps [] s = refl
fired-push sleeps (q ∷ fired) s = fired-push (sleep.fired sleeps q) fired s

first-push : (waker : Option ℕ) (wakers more : List ℕ) → with_first waker (wakers ++ more) ≡ with_first waker wakers ++ more
first-push None wakers more = refl
first-push (Some t) wakers more = refl

pub wakers-push : (sleeps : Sleeps) (fired : List ℕ) (s : ℕ) → wakers_of sleeps (fired ++ s ∷ []) ≡ wakers_of sleeps fired ++ with_first (sleep.waker_at (all_fired sleeps fired) s) []
wakers-push sleeps [] s = refl
wakers-push sleeps (q ∷ fired) s =
    ap (with_first (sleep.waker_at sleeps q)) (wakers-push (sleep.fired sleeps q) fired s)
    ∙ first-push (sleep.waker_at sleeps q) (wakers_of (sleep.fired sleeps q) fired) (with_first (sleep.waker_at (all_fired (sleep.fired sleeps q) fired) s) [])

-- the sleeps and the tasks after several have fired, apart from each other
woken-first : (tasks : Tasks ℕ) (waker : Option ℕ) (wakers : List ℕ) → all_woken (woken_if_any tasks waker) wakers ≡ all_woken tasks (with_first waker wakers)
woken-first tasks None wakers = refl
woken-first tasks (Some t) wakers = refl

pub fires-apart : (m : Machine) (fired : List ℕ) → after_fires m fired ≡ with_tasks (with_sleeps m (all_fired m.sleeps fired)) (all_woken m.tasks (wakers_of m.sleeps fired))
fires-apart m [] = refl
fires-apart m (s ∷ fired) =
    fires-apart (after_fire m s) fired
    ∙ ap (with_tasks (with_sleeps m (all_fired (sleep.fired m.sleeps s) fired))) (woken-first m.tasks (sleep.waker_at m.sleeps s) (wakers_of (sleep.fired m.sleeps s) fired))

pub fires-greatest : (m : Machine) (fired : List ℕ) → (after_fires m fired).sleeps.greatest ≡ m.sleeps.greatest
fires-greatest m [] = refl
fires-greatest m (s ∷ fired) = fires-greatest (after_fire m s) fired

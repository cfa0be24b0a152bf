-- One park of two tasks, of which the shared value lists the first.
use Rattle.std.specs.Prelude.{⊤, ◌≡◌, ◌==◌, ℕ, true, false, List, [], ◌∷◌, None}
use Rattle.mono_model.specs.Tasks.{spawned}
use Rattle.mono_task.specs.Members.{FutureOf, SharedOf}
use Rattle.mono_machine.specs.Machine.{Machine, start_machine, with_tasks}
use Rattle.mono_machine.specs.declared.events.Blocking.TheVariants as strategy
use Rattle.mono_rt.specs.Stores.{first_store}
use Rattle.mono_rt.specs.ListedTasks.{FindsListed}
use Rattle.mono_rt.specs.declared.contexts.Cx.{Cx}
use Rattle.mono_rt.specs.declared.parts.journals.Entry.TheVariants.{Park}

abbrev no_task : Machine
no_task = start_machine (record { tasks = 2; jobs = 0; sleeps = 0 }) strategy.Panic

abbrev pub two_tasks : Machine
two_tasks = with_tasks no_task (spawned (spawned no_task.tasks))

-- A value that lists task 0 at every place, and owes these tasks a wake.
abbrev pub listing_first : List ℕ → SharedOf ⊤
listing_first owed = record { leads = λ a b. ⊤; names = λ a t. false; lists = λ a p t. t == 0; waiting = λ a. 0 ∷ []; owes = λ a. owed }

module _ {F O P U J A V : Type 0} (number : O → ℕ) (future : FutureOf F (Cx F O P U ⊤ J A V) O) where
  -- After a turn, a park finds that this task is listed still where it was left listed.
  abbrev pub ParkFinds : List ℕ → ℕ → Type 0
  ParkFinds owed task = FindsListed number (listing_first owed) future false true (λ p t. t ≡ task) ⊤ two_tasks (first_store tt) 0 (Park None ∷ [])

-- What the turns of a runtime leave beside its tasks, sleeps and jobs.
use Rattle.std.specs.Prelude.{List, [], ◌∷◌, ◌++◌, Option, Some}
use Rattle.mono_rt.specs.declared.contexts.Cx.{Cx}

-- The future of each task, by its number, and the value that the tasks share.
pub record Store (F W : Type 0) : Type 0 where
  pub futures : List (Option F)
  pub shared : W

-- No task has a future yet.
abbrev pub first_store : {F W : Type 0} → W → Store F W
first_store shared = record { futures = []; shared = shared }

-- The future of a new task comes last.
abbrev pub with_future : {F W : Type 0} → Store F W → F → Store F W
with_future store f = record { futures = store.futures ++ Some f ∷ []; shared = store.shared }

module _ {F O P U W J A V : Type 0} where
  abbrev pub store_of : Cx F O P U W J A V → Store F W
  store_of c = record { futures = c.futures.items; shared = c.shared }

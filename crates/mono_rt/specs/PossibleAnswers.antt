-- What each task may still answer, and that calls and turns add nothing to it.
use Rattle.std.specs.Prelude.{◌≡◌, ◌≤◌, ◌<◌, ◌⊎◌, ℕ, length, Some}
use Rattle.mono_model.specs.Table.{value_at}
use Rattle.mono_rt.specs.Outputs.{output_at}
use Rattle.mono_rt.specs.Reaches.{IsAligned}
use Rattle.mono_rt.specs.declared.contexts.Cx.{Cx}

module _ {F O P U W J A V : Type 0} (gives : F → O → Type 0) where
  -- The task has finished with this output, or its future gives it.
  abbrev pub MayAnswer : Cx F O P U W J A V → ℕ → O → Type 0
  MayAnswer c t x = (output_at c.parts.tasks.tasks t ≡ Some x) ⊎ ((f : F) × (value_at c.futures.items t ≡ Some f) × gives f x)

  -- Each task that has a place in the first context may answer no more in the second.
  pub record AnswersNoMore (c d : Cx F O P U W J A V) : Type 0 where
    pub grows : length c.futures.items ≤ length d.futures.items
    pub aligned : IsAligned c → IsAligned d
    pub answers : (t : ℕ) (x : O) → t < length c.futures.items → MayAnswer d t x → MayAnswer c t x

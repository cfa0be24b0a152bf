-- A future that makes one call is never pending.
use Rattle.std.specs.Prelude.{⊤, Option, Some, None}
use Rattle.mono_model.specs.Tasks.{Tasks}
use Rattle.mono_model.specs.declared.poll.Poll.TheVariants.{Pending}
use Rattle.mono_sync.specs.Acts.{PerformPolls}

module _ {W A X C : Type 0} (acts : A → W → X → W → Type 0) (shared : C → W) (work : C → Tasks ⊤) where
  pub never_pending : (act : Option A) (c : C) (left : Option A) (d : C) → PerformPolls acts shared work act c Pending left d → ⊥
  never_pending (Some act) c left d p = p
  never_pending None c left d p = p

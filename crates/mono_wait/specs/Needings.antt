-- A future whose maker names the sources that it needs.
use Rattle.std.specs.Prelude.{◌≡◌, ℕ, zero, suc, ⊤, Option}
use Rattle.std.proofs.Common.{refl}
use Rattle.mono_model.specs.Tasks.{Tasks}
use Rattle.mono_model.specs.Poll.{OnPending}
use Rattle.mono_model.specs.declared.poll.Poll.{Poll}
use Rattle.mono_model.specs.declared.poll.Poll.TheVariants.{Ready, Pending}
use Rattle.mono_task.specs.Members.{FutureOf}
use Rattle.mono_wait.specs.Sources.{Source, of_sleep, of_task, of_job, Covers}
use Rattle.mono_wait.specs.declared.needing.Named.{Named}
use Rattle.mono_wait.specs.declared.needing.Named.TheVariants as named

abbrev pub source_of : Named → Source
source_of (named.Sleep s) = of_sleep s
source_of (named.Task u) = of_task u
source_of (named.Job j) = of_job j

module _ {A C X : Type 0} (future : FutureOf A C X) where
  -- Consecutive polls, on any contexts, lead from f to g.
  abbrev pub Leaves : ℕ → A → A → Type 0
  Leaves zero f g = g ≡ f
  Leaves (suc n) f g = (h : A) × (c : C) × (r : Poll X) × (d : C) × future.polls f c r h d × Leaves n h g

  module _ (number : C → ℕ) (work : C → Tasks ⊤) (reaches : C → C → Type 0) (watcher : C → Source → Option ℕ) where
    -- Each pending poll, of f or of what polls leave of it, registers the running task at these sources, or wakes it.
    pub record Keeps (needs : Source → Type 0) (f : A) : Type 0 where
      pub covers : (n : ℕ) (g : A) → Leaves n f g → (c : C) (h : A) (d : C) → future.polls g c Pending h d → reaches c d → Covers number work reaches watcher c d needs

    module _ (needs : Source → Type 0) (f : A) (c : C) (r : Poll X) (g : A) (d : C) where
      pub keeps_on : Keeps needs f → future.polls f c r g d → Keeps needs g
      keeps_on keeps polled = record { covers = λ n h more. keeps.covers (suc n) h (g, c, r, d, polled, more) }

    pub keeps_now : (needs : Source → Type 0) (f : A) (c : C) (r : Poll X) (g : A) (d : C) → Keeps needs f → future.polls f c r g d → reaches c d → OnPending r (Covers number work reaches watcher c d needs)
    keeps_now needs f c (Ready x) g d keeps polled reached = tt
    keeps_now needs f c Pending g d keeps polled reached = keeps.covers zero f refl c g d polled reached

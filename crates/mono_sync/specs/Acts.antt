-- A future that makes one call on the shared value at its first poll.
use Rattle.std.specs.Prelude.{⊤, ◌≡◌, Option, Some, None}
use Rattle.mono_model.specs.Tasks.{Tasks}
use Rattle.mono_model.specs.declared.poll.Poll.{Poll}
use Rattle.mono_model.specs.declared.poll.Poll.TheVariants.{Ready, Pending}

module _ {A : Type 0} (can_act : A → Type 0) where
  abbrev pub PerformCanPoll : Option A → Type 0
  PerformCanPoll (Some act) = can_act act
  PerformCanPoll None = ⊤

module _ {W A X : Type 0} (acts : A → W → X → W → Type 0) where
  -- The answer is one of the call on some value.
  abbrev pub PerformGives : Option A → X → Type 0
  PerformGives (Some act) x = (v : W) × (w : W) × acts act v x w
  PerformGives None x = ⊥

  module _ {C : Type 0} (shared : C → W) (work : C → Tasks ⊤) where
    -- The call is made, no task is woken, and the future is spent.
    abbrev pub PerformPolls : Option A → C → Poll X → Option A → C → Type 0
    PerformPolls (Some act) c (Ready x) left d = acts act (shared c) x (shared d) × (work d ≡ work c) × (left ≡ None)
    PerformPolls (Some act) c Pending left d = ⊥
    PerformPolls None c r left d = ⊥

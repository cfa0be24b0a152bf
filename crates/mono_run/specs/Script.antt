-- Scripts, and which of them are sound.
use Rattle.std.specs.Prelude.{◌≡◌, ◌<◌, ◌≤◌, ℕ, ◌+◌, ◌^◌, ◌==◌, if◌then◌else◌, List, [], ◌∷◌, ◌++◌, length}
use Rattle.mono_machine.specs.declared.events.Limits.{Limits}
use Rattle.mono_text.specs.LineText.{FitLimits}
use Rattle.mono_run.specs.declared.scripts.body.BodyLine.{BodyLine}
use Rattle.mono_run.specs.declared.scripts.body.BodyLine.TheVariants as body

-- the lines that the tasks of a kind run, and their output
pub record Kind : Type 0 where
  pub body : List BodyLine
  pub output : ℕ

pub record Script : Type 0 where
  pub limits : Limits
  pub kinds : List Kind

abbrev pub makes_task : BodyLine → ℕ
makes_task (body.Spawn k) = 1
makes_task (body.Join i) = 0
makes_task (body.Detach i) = 0
makes_task (body.AwaitSleep n) = 0
makes_task (body.Block o) = 0
makes_task (body.AwaitJob i) = 0
makes_task (body.DropJob i) = 0
makes_task body.Yield = 0

abbrev pub makes_job : BodyLine → ℕ
makes_job (body.Spawn k) = 0
makes_job (body.Join i) = 0
makes_job (body.Detach i) = 0
makes_job (body.AwaitSleep n) = 0
makes_job (body.Block o) = 1
makes_job (body.AwaitJob i) = 0
makes_job (body.DropJob i) = 0
makes_job body.Yield = 0

abbrev pub count_in : (BodyLine → ℕ) → List BodyLine → ℕ
count_in f [] = 0
count_in f (l ∷ ls) = f l + count_in f ls

-- the line gives the handle of own task i away
abbrev pub ends_task : ℕ → BodyLine → ℕ
ends_task i (body.Spawn k) = 0
ends_task i (body.Join j) = if i == j then 1 else 0
ends_task i (body.Detach j) = if i == j then 1 else 0
ends_task i (body.AwaitSleep n) = 0
ends_task i (body.Block o) = 0
ends_task i (body.AwaitJob j) = 0
ends_task i (body.DropJob j) = 0
ends_task i body.Yield = 0

-- the line gives the handle of own job i away
abbrev pub ends_job : ℕ → BodyLine → ℕ
ends_job i (body.Spawn k) = 0
ends_job i (body.Join j) = 0
ends_job i (body.Detach j) = 0
ends_job i (body.AwaitSleep n) = 0
ends_job i (body.Block o) = 0
ends_job i (body.AwaitJob j) = if i == j then 1 else 0
ends_job i (body.DropJob j) = if i == j then 1 else 0
ends_job i body.Yield = 0

-- own task i was made before, and its handle was not given away
pub record HasTask (before : List BodyLine) (i : ℕ) : Type 0 where
  pub made : i < count_in makes_task before
  pub kept : count_in (ends_task i) before ≡ 0

pub record HasJob (before : List BodyLine) (i : ℕ) : Type 0 where
  pub made : i < count_in makes_job before
  pub kept : count_in (ends_job i) before ≡ 0

-- The line may follow those before it, in a script with this number of kinds; its numbers are in range.
abbrev pub MayStand : ℕ → List BodyLine → BodyLine → Type 0
MayStand kinds before (body.Spawn k) = (k < 2 ^ 64) × (k < kinds)
MayStand kinds before (body.Join i) = (i < 2 ^ 64) × HasTask before i
MayStand kinds before (body.Detach i) = (i < 2 ^ 64) × HasTask before i
MayStand kinds before (body.AwaitSleep n) = n < 2 ^ 64
MayStand kinds before (body.Block o) = o < 2 ^ 64
MayStand kinds before (body.AwaitJob i) = (i < 2 ^ 64) × HasJob before i
MayStand kinds before (body.DropJob i) = (i < 2 ^ 64) × HasJob before i
MayStand kinds before body.Yield = Unit {0}

abbrev pub AllMayStand : ℕ → List BodyLine → List BodyLine → Type 0
AllMayStand kinds before [] = Unit {0}
AllMayStand kinds before (l ∷ ls) = MayStand kinds before l × AllMayStand kinds (before ++ l ∷ []) ls

pub record IsSoundKind (kinds : ℕ) (k : Kind) : Type 0 where
  pub few : length k.body ≤ 127
  pub each : AllMayStand kinds [] k.body
  pub output : k.output < 2 ^ 64

abbrev pub AreSoundKinds : ℕ → List Kind → Type 0
AreSoundKinds kinds [] = Unit {0}
AreSoundKinds kinds (k ∷ ks) = IsSoundKind kinds k × AreSoundKinds kinds ks

-- The script is sound if a line may name the kinds below this number.
pub record IsSound (kinds : ℕ) (s : Script) : Type 0 where
  pub limits : FitLimits s.limits
  pub some : 1 ≤ length s.kinds
  pub few : length s.kinds ≤ 64
  pub each : AreSoundKinds kinds s.kinds

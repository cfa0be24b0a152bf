-- A sleep that is made at its first poll.
use Rattle.std.specs.Prelude.{◌≡◌, ℕ, ⊤, Bool, true, false, Result, Ok, Err}
use Rattle.std.specs.Duration.{as_nanos}
use Rattle.mono_model.specs.Tasks.{Tasks}
use Rattle.mono_model.specs.declared.poll.Poll.{Poll}
use Rattle.mono_model.specs.declared.poll.Poll.TheVariants.{Ready, Pending}
use Rattle.mono_model.specs.declared.error.Error.{Error}
use Rattle.mono_model.specs.declared.error.SleepError.{SleepError}
use Rattle.mono_model.specs.declared.error.SleepError.TheVariants.{Timer}
use Rattle.mono_time.specs.Sleeps.{SleepTable}
use Rattle.mono_time.specs.Futures.{SleepPolls, SleepCancels, SleepMadeAt, deadline_after}
use Rattle.mono_time.specs.declared.sleeps.Sleep.{Sleep}
use Rattle.mono_time.specs.declared.naps.SleepFor.{SleepFor}
use Rattle.mono_time.specs.declared.naps.SleepFor.TheVariants.{Fresh, Asleep, Over}

abbrev pub nap_spent : SleepFor → Bool
nap_spent (Fresh d) = false
nap_spent (Asleep s) = false
nap_spent Over = true

-- An error of the sleep as an error of `SleepFor`.
abbrev pub told : Result ⊤ Error → Result ⊤ SleepError
told (Ok x) = Ok x
told (Err e) = Err (Timer e)

module _ {C : Type 0} (sleeps : C → SleepTable) (work : C → Tasks ⊤) (reaches : C → C → Type 0) where
  abbrev pub NapCancels : SleepFor → C → C → Type 0
  NapCancels (Fresh d) c e = e ≡ c
  NapCancels (Asleep s) c e = SleepCancels sleeps work reaches s c e
  NapCancels Over c e = e ≡ c

module _ {C : Type 0} (nanos number : C → ℕ) (sleeps : C → SleepTable) (work : C → Tasks ⊤) (reaches : C → C → Type 0) where
  abbrev pub AfterNap : Poll (Result ⊤ Error) → Sleep → C → Poll (Result ⊤ SleepError) → SleepFor → C → Type 0
  AfterNap (Ready x) s c r n d = (r ≡ Ready (told x)) × (n ≡ Over) × SleepCancels sleeps work reaches s c d
  AfterNap Pending s c r n d = (r ≡ Pending) × (n ≡ Asleep s) × (d ≡ c)

  -- The sleep is polled, and given up if it answered.
  pub record Naps (s : Sleep) (c : C) (r : Poll (Result ⊤ SleepError)) (n : SleepFor) (d : C) : Type 0 where
    pub answer : Poll (Result ⊤ Error)
    pub middle : C
    pub polled : SleepPolls number sleeps work reaches s c answer s middle
    pub rest : AfterNap answer s middle r n d

  -- The sleep was made and is polled, or it was refused.
  abbrev pub AfterMade : Result Sleep SleepError → C → Poll (Result ⊤ SleepError) → SleepFor → C → Type 0
  AfterMade (Ok s) c r n d = Naps s c r n d
  AfterMade (Err e) c r n d = (r ≡ Ready (Err e)) × (n ≡ Over) × (d ≡ c)

  pub record Begins (nanoseconds : ℕ) (c : C) (r : Poll (Result ⊤ SleepError)) (n : SleepFor) (d : C) : Type 0 where
    pub made : Result Sleep SleepError
    pub middle : C
    pub makes : SleepMadeAt sleeps (deadline_after (nanos c) nanoseconds) c made middle
    pub work_after : work middle ≡ work c
    pub reached : reaches c middle
    pub rest : AfterMade made middle r n d

  abbrev pub NapPolls : SleepFor → C → Poll (Result ⊤ SleepError) → SleepFor → C → Type 0
  NapPolls (Fresh duration) c r n d = Begins (as_nanos duration) c r n d
  NapPolls (Asleep s) c r n d = Naps s c r n d
  NapPolls Over c r n d = ⊥

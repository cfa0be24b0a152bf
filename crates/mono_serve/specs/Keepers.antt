-- The answer and the effect of one poll of a keeper.
use Rattle.std.specs.Prelude.{⊤, ◌≡◌, ℕ, Bool, true, false, Option, Some, None, Result, Ok, Err}
use Rattle.std.specs.declared.alloc.AllocError.{AllocError}
use Rattle.mono_model.specs.Tasks.{Tasks, woken}
use Rattle.mono_model.specs.declared.poll.Poll.{Poll}
use Rattle.mono_model.specs.declared.poll.Poll.TheVariants.{Ready, Pending}
use Rattle.mono_model.specs.declared.error.Error.{Error}
use Rattle.mono_model.specs.declared.error.SleepError.{SleepError}
use Rattle.mono_model.specs.declared.error.SleepError.TheVariants as sleeping
use Rattle.mono_time.specs.Sleeps.{SleepTable}
use Rattle.mono_time.specs.Futures.{SleepMade, SleepPolls, SleepCancels}
use Rattle.mono_time.specs.declared.sleeps.Sleep.{Sleep}
use Rattle.mono_serve.specs.declared.leases.Leases.{Leases}
use Rattle.mono_serve.specs.declared.keepers.Phase.{Phase}
use Rattle.mono_serve.specs.declared.keepers.Phase.TheVariants.{Waits, Sleeps, Over}
use Rattle.mono_serve.specs.declared.keepers.KeeperError.{KeeperError}
use Rattle.mono_serve.specs.declared.keepers.KeeperError.TheVariants.{Memory, Far, Timer}
use Rattle.mono_serve.specs.LeaseCalls.{ShownAt, Rests, Forgets, Then}
use Rattle.mono_serve.specs.Takes.{deadline_of}

abbrev pub is_over : Phase → Bool
is_over Waits = false
is_over (Sleeps sleep) = false
is_over Over = true

module _ {C : Type 0} (part : C → Leases) (number : C → ℕ) (work : C → Tasks ⊤) where
  -- The task is the keeper no longer.
  pub record LeavesRest (c d : C) : Type 0 where
    pub forgets : Forgets (part c) (number c) (part d)
    pub work_after : work d ≡ work c

module _ {C : Type 0} (part : C → Leases) (number : C → ℕ) (sleeps : C → SleepTable) (work : C → Tasks ⊤) (reaches : C → C → Type 0) where
  -- The sleep of the keeper is removed, if it has one, and the leases note the task as the keeper no longer.
  abbrev pub KeeperCancels : Phase → C → C → Type 0
  KeeperCancels Waits c d = LeavesRest part number work c d
  KeeperCancels (Sleeps sleep) c d = (middle : C) × SleepCancels sleeps work reaches sleep c middle × LeavesRest part number work middle d
  KeeperCancels Over c d = d ≡ c

module _ {C : Type 0} (part : C → Leases) (number : C → ℕ) (sleeps : C → SleepTable) (work : C → Tasks ⊤) (reaches : C → C → Type 0) where
  -- The sleep is over at once: it is removed, and the task runs again.
  pub record NapsNot (sleep : Sleep) (c d : C) : Type 0 where
    pub middle : C
    pub removed : SleepCancels sleeps work reaches sleep c middle
    pub woken : work d ≡ woken (work middle) (number middle)
    pub same : part d ≡ part middle

  abbrev pub AfterNap : Poll (Result ⊤ Error) → Sleep → C → Poll (Result ⊤ KeeperError) → Phase → C → Type 0
  AfterNap Pending sleep c r s d = (r ≡ Pending) × (s ≡ Sleeps sleep) × (d ≡ c)
  AfterNap (Ready (Ok done)) sleep c r s d = (r ≡ Pending) × (s ≡ Waits) × NapsNot sleep c d
  AfterNap (Ready (Err error)) sleep c r s d = (r ≡ Ready (Err (Timer (sleeping.Timer error)))) × (s ≡ Over) × SleepCancels sleeps work reaches sleep c d

  pub record Naps (sleep : Sleep) (c : C) (r : Poll (Result ⊤ KeeperError)) (s : Phase) (d : C) : Type 0 where
    pub answer : Poll (Result ⊤ Error)
    pub middle : C
    pub polled : SleepPolls number sleeps work reaches sleep c answer sleep middle
    pub rest : AfterNap answer sleep middle r s d

  abbrev pub AfterMade : Result Sleep SleepError → C → Poll (Result ⊤ KeeperError) → Phase → C → Type 0
  AfterMade (Ok sleep) c r s d = Naps sleep c r s d
  AfterMade (Err error) c r s d = (r ≡ Ready (Err (Timer error))) × (s ≡ Over) × (d ≡ c)

  pub record MakesNap (deadline : ℕ) (c : C) (r : Poll (Result ⊤ KeeperError)) (s : Phase) (d : C) : Type 0 where
    pub made : Result Sleep SleepError
    pub middle : C
    pub makes : SleepMade (sleeps c) deadline made (sleeps middle)
    pub work_after : work middle ≡ work c
    pub reached : reaches c middle
    pub rest : AfterMade made middle r s d

  abbrev pub RestsUntil : Option ℕ → C → Poll (Result ⊤ KeeperError) → Phase → C → Type 0
  RestsUntil None c r s d = (r ≡ Ready (Err Far)) × (s ≡ Over) × (d ≡ c)
  RestsUntil (Some deadline) c r s d = MakesNap deadline c r s d

  -- The keeper sleeps until the tick, or waits until it is woken if there is none.
  abbrev pub AfterRest : Option ℕ → C → Poll (Result ⊤ KeeperError) → Phase → C → Type 0
  AfterRest None c r s d = (r ≡ Pending) × (s ≡ Waits) × (d ≡ c)
  AfterRest (Some tick) c r s d = RestsUntil (deadline_of tick) c r s d

  pub record RestsIn (c : C) (r : Poll (Result ⊤ KeeperError)) (s : Phase) (d : C) : Type 0 where
    pub tick : Option ℕ
    pub middle : C
    pub rests : Rests (part c) (number c) tick (part middle)
    pub work_after : work middle ≡ work c
    pub reached : reaches c middle
    pub rest : AfterRest tick middle r s d

module _ {C : Type 0} (part : C → Leases) (number nanos : C → ℕ) (sleeps : C → SleepTable) (work : C → Tasks ⊤) (reaches : C → C → Type 0) where
  abbrev pub AfterShown : Result ⊤ AllocError → C → Poll (Result ⊤ KeeperError) → Phase → C → Type 0
  AfterShown (Err lack) c r s d = (r ≡ Ready (Err Memory)) × (s ≡ Over) × (d ≡ c)
  AfterShown (Ok done) c r s d = RestsIn part number sleeps work reaches c r s d

  -- The clock is shown the turn's moment, and the keeper rests.
  pub record Keeps (c : C) (r : Poll (Result ⊤ KeeperError)) (s : Phase) (d : C) : Type 0 where
    pub answer : Result ⊤ AllocError
    pub middle : C
    pub shown : Then (ShownAt (part c) (nanos c) answer) (part middle)
    pub work_after : work middle ≡ work c
    pub reached : reaches c middle
    pub rest : AfterShown answer middle r s d

  -- The sleep from before is removed first.
  abbrev pub KeeperPolls : Phase → C → Poll (Result ⊤ KeeperError) → Phase → C → Type 0
  KeeperPolls Waits c r s d = Keeps c r s d
  KeeperPolls (Sleeps sleep) c r s d = (middle : C) × SleepCancels sleeps work reaches sleep c middle × Keeps middle r s d
  KeeperPolls Over c r s d = ⊥

  -- The answer is that of a poll of a keeper in some context.
  pub record KeeperGives (answer : Result ⊤ KeeperError) : Type 0 where
    pub phase : Phase
    pub left : Phase
    pub at : C
    pub after : C
    pub polled : KeeperPolls phase at (Ready answer) left after

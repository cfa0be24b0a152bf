-- A sleep that is made at its first poll makes no task, and a future with such a deadline makes none, if the future does.
use Rattle.std.specs.Prelude.{⊤, ℕ, Option, Some, None, Result, Ok, Err}
use Rattle.mono_model.specs.Tasks.{Tasks}
use Rattle.mono_model.specs.declared.poll.Poll.{Poll}
use Rattle.mono_model.specs.declared.poll.Poll.TheVariants.{Ready, Pending}
use Rattle.mono_model.specs.declared.error.Error.{Error}
use Rattle.mono_model.specs.declared.error.SleepError.{SleepError}
use Rattle.mono_task.specs.Members.{FutureOf}
use Rattle.mono_time.specs.Sleeps.{SleepTable}
use Rattle.mono_time.specs.Naps.{AfterNap, Naps, AfterMade, NapPolls, NapCancels}
use Rattle.mono_time.specs.NapTimeouts.{LimitCancels, AfterDelay, AfterLimited, LimitPolls}
use Rattle.mono_time.specs.declared.sleeps.Sleep.{Sleep}
use Rattle.mono_time.specs.declared.naps.SleepFor.{SleepFor}
use Rattle.mono_time.specs.declared.naps.SleepFor.TheVariants.{Fresh, Asleep, Over}
use Rattle.mono_time.specs.declared.error.LateError.{LateError}
use Rattle.mono_quiet.specs.Numbers.{MakesNone, none_at_all, same_tasks, none_on, PollsMakeNone, CancelsMakeNone}

module _ {C : Type 0} (work : C → Tasks ⊤) (sleeps : C → SleepTable) (reaches : C → C → Type 0) where
  pub nap_left : (f : SleepFor) (c d : C) → NapCancels sleeps work reaches f c d → MakesNone work c d
  nap_left (Fresh duration) c d q = none_at_all work c d q
  nap_left (Asleep s) c d q = same_tasks work c d q.work_after
  nap_left Over c d q = none_at_all work c d q

  module _ (nanos number : C → ℕ) where
    after_nap : (answer : Poll (Result ⊤ Error)) (s : Sleep) (c : C) (r : Poll (Result ⊤ SleepError)) (n : SleepFor) (d : C) → AfterNap nanos number sleeps work reaches answer s c r n d → MakesNone work c d
    after_nap (Ready x) s c r n d q = same_tasks work c d q.2.work_after
    after_nap Pending s c r n d q = none_at_all work c d q.2

    naps_none : (s : Sleep) (c : C) (r : Poll (Result ⊤ SleepError)) (n : SleepFor) (d : C) → Naps nanos number sleeps work reaches s c r n d → MakesNone work c d
    naps_none s c r n d q = none_on work c q.middle d (same_tasks work c q.middle q.polled.work_after) (after_nap q.answer s q.middle r n d q.rest)

    after_made : (made : Result Sleep SleepError) (c : C) (r : Poll (Result ⊤ SleepError)) (n : SleepFor) (d : C) → AfterMade nanos number sleeps work reaches made c r n d → MakesNone work c d
    after_made (Ok s) c r n d q = naps_none s c r n d q
    after_made (Err e) c r n d q = none_at_all work c d q.2

    pub nap_makes_none : (f : SleepFor) (c : C) (r : Poll (Result ⊤ SleepError)) (n : SleepFor) (d : C) → NapPolls nanos number sleeps work reaches f c r n d → MakesNone work c d
    nap_makes_none (Fresh duration) c r n d q = none_on work c q.middle d (same_tasks work c q.middle q.work_after) (after_made q.made q.middle r n d q.rest)
    nap_makes_none (Asleep s) c r n d q = naps_none s c r n d q
    nap_makes_none Over c r n d q = absurd q

module _ {T C O : Type 0} (work : C → Tasks ⊤) (sleeps : C → SleepTable) (reaches : C → C → Type 0) (future : FutureOf T C O) (cancels : CancelsMakeNone work future) where
  pub limit_left : (m : Option (T × SleepFor)) (c d : C) → LimitCancels future.cancels sleeps work reaches m c d → MakesNone work c d
  limit_left (Some p) c d q = none_on work c q.0 d (cancels p.0 c q.0 q.1) (nap_left work sleeps reaches p.1 q.0 d q.2)
  limit_left None c d q = none_at_all work c d q

  module _ (nanos number : C → ℕ) (polls : PollsMakeNone work future) where
    after_delay : (answer : Poll (Result ⊤ SleepError)) (f : T) (s : SleepFor) (c : C) (r : Poll (Result O LateError)) (n : Option (T × SleepFor)) (d : C) → AfterDelay future nanos number sleeps work reaches answer f s c r n d → MakesNone work c d
    after_delay (Ready x) f s c r n d q = limit_left (Some (f, s)) c d q.2
    after_delay Pending f s c r n d q = none_at_all work c d q.2

    after_limited : (answer : Poll O) (f : T) (s : SleepFor) (c : C) (r : Poll (Result O LateError)) (n : Option (T × SleepFor)) (d : C) → AfterLimited future nanos number sleeps work reaches answer f s c r n d → MakesNone work c d
    after_limited (Ready x) f s c r n d q = limit_left (Some (f, s)) c d q.2
    after_limited Pending f s c r n d q = none_on work c q.middle d (nap_makes_none work sleeps reaches nanos number s c q.answer q.left q.middle q.polled) (after_delay q.answer f q.left q.middle r n d q.rest)

    pub limit_makes_none : (m : Option (T × SleepFor)) (c : C) (r : Poll (Result O LateError)) (n : Option (T × SleepFor)) (d : C) → LimitPolls future nanos number sleeps work reaches m c r n d → MakesNone work c d
    limit_makes_none (Some p) c r n d q = none_on work c q.middle d (polls p.0 c q.answer q.left q.middle q.polled) (after_limited q.answer q.left p.1 q.middle r n d q.rest)
    limit_makes_none None c r n d q = absurd q

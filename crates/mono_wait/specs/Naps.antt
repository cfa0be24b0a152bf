-- The sources of a sleep that is made at its first poll, and of a future with such a deadline.
use Rattle.std.specs.Prelude.{◌≡◌, ◌⊎◌, ℕ, ⊤, Option, Some, None, Result, Ok, Err}
use Rattle.std.proofs.Common.{sym, subst}
use Rattle.mono_model.specs.Table.{value_at}
use Rattle.mono_model.specs.declared.poll.Poll.{Poll}
use Rattle.mono_model.specs.declared.poll.Poll.TheVariants.{Ready, Pending}
use Rattle.mono_model.specs.declared.error.Error.{Error}
use Rattle.mono_model.specs.declared.error.SleepError.{SleepError}
use Rattle.mono_task.specs.Members.{FutureOf}
use Rattle.mono_time.specs.Sleeps.{SleepTable}
use Rattle.mono_time.specs.Futures.{SleepPolls}
use Rattle.mono_time.specs.Naps.{told, AfterNap, Naps, AfterMade, NapPolls, NapCancels}
use Rattle.mono_time.specs.NapTimeouts.{late_cause, LimitCancels, AfterDelay, AfterLimited, LimitPolls}
use Rattle.mono_time.specs.declared.sleeps.Sleep.{Sleep}
use Rattle.mono_time.specs.declared.naps.SleepFor.{SleepFor}
use Rattle.mono_time.specs.declared.naps.SleepFor.TheVariants.{Fresh, Asleep, Over}
use Rattle.mono_time.specs.declared.error.LateError.{LateError}
use Rattle.mono_wait.specs.Sources.{Source, of_sleep, waker_in}
use Rattle.mono_wait.specs.Leaves.{SleepNeeds, sleeps_cover}
use Rattle.mono_wait.specs.Frames.{Frame, Part, Needs, CoversIn, same_reached, covers_after, covers_both}

-- its sleep, once it is made
abbrev pub NapNeeds : SleepFor → Source → Type 0
NapNeeds (Fresh duration) x = ⊥
NapNeeds (Asleep s) x = SleepNeeds s x
NapNeeds Over x = ⊥

-- the sources of its future, and its delay
abbrev pub LimitNeeds : {T : Type 0} → Needs T → Option (T × SleepFor) → Source → Type 0
LimitNeeds needs (Some p) x = needs p.0 x ⊎ NapNeeds p.1 x
LimitNeeds needs None x = ⊥

no_answer : {Z : Type 0} (z : Z) → Pending ≡ Ready z → ⊥
no_answer z e = cc

module _ {C : Type 0} (w : Frame C) (sleeps : C → SleepTable) where
  pub nap_left : (f : SleepFor) (c d : C) → NapCancels sleeps w.work w.reaches f c d → w.reaches c d
  nap_left (Fresh duration) c d q = same_reached w c d q
  nap_left (Asleep s) c d q = q.reached
  nap_left Over c d q = same_reached w c d q

  module _ (nanos : C → ℕ) where
    after_nap : (answer : Poll (Result ⊤ Error)) (s : Sleep) (c : C) (r : Poll (Result ⊤ SleepError)) (n : SleepFor) (d : C) → AfterNap nanos w.number sleeps w.work w.reaches answer s c r n d → w.reaches c d
    after_nap (Ready x) s c r n d q = q.2.reached
    after_nap Pending s c r n d q = same_reached w c d q.2

    naps_reached : (s : Sleep) (c : C) (r : Poll (Result ⊤ SleepError)) (n : SleepFor) (d : C) → Naps nanos w.number sleeps w.work w.reaches s c r n d → w.reaches c d
    naps_reached s c r n d q = w.on c q.middle d q.polled.reached (after_nap q.answer s q.middle r n d q.rest)

    after_made : (made : Result Sleep SleepError) (c : C) (r : Poll (Result ⊤ SleepError)) (n : SleepFor) (d : C) → AfterMade nanos w.number sleeps w.work w.reaches made c r n d → w.reaches c d
    after_made (Ok s) c r n d q = naps_reached s c r n d q
    after_made (Err e) c r n d q = same_reached w c d q.2

    pub nap_reached : (f : SleepFor) (c : C) (r : Poll (Result ⊤ SleepError)) (n : SleepFor) (d : C) → NapPolls nanos w.number sleeps w.work w.reaches f c r n d → w.reaches c d
    nap_reached (Fresh duration) c r n d q = w.on c q.middle d q.reached (after_made q.made q.middle r n d q.rest)
    nap_reached (Asleep s) c r n d q = naps_reached s c r n d q
    nap_reached Over c r n d q = absurd q

    module _ (same_number : (a b : C) → w.reaches a b → w.number b ≡ w.number a) (watches : (c : C) (s : ℕ) → w.watcher c (of_sleep s) ≡ waker_in (value_at (sleeps c).table s)) where
      nap_waits : (s : Sleep) (c : C) (answer : Poll (Result ⊤ Error)) (m : C) (n : SleepFor) (d : C) → SleepPolls w.number sleeps w.work w.reaches s c answer s m → AfterNap nanos w.number sleeps w.work w.reaches answer s m Pending n d → CoversIn w c d (NapNeeds n)
      nap_waits s c (Ready x) m n d polled rest = absurd (no_answer (told x) rest.0)
      nap_waits s c Pending m n d polled rest =
          subst (λ v. CoversIn w c d (NapNeeds v)) (sym rest.1) (subst (λ e. CoversIn w c e (SleepNeeds s)) (sym rest.2) (sleeps_cover w.number sleeps w.work w.reaches w.watcher w.itself same_number watches s c s m polled))

      made_waits : (made : Result Sleep SleepError) (c : C) (n : SleepFor) (d : C) → AfterMade nanos w.number sleeps w.work w.reaches made c Pending n d → CoversIn w c d (NapNeeds n)
      made_waits (Ok s) c n d q = nap_waits s c q.answer q.middle n d q.polled q.rest
      made_waits (Err e) c n d q = absurd (no_answer (Err e) q.0)

      pub naps_cover : (f : SleepFor) (c : C) (n : SleepFor) (d : C) → NapPolls nanos w.number sleeps w.work w.reaches f c Pending n d → CoversIn w c d (NapNeeds n)
      naps_cover (Fresh duration) c n d q = covers_after w c q.middle d (NapNeeds n) q.reached (made_waits q.made q.middle n d q.rest)
      naps_cover (Asleep s) c n d q = nap_waits s c q.answer q.middle n d q.polled q.rest
      naps_cover Over c n d q = absurd q

module _ {T C O : Type 0} (w : Frame C) (future : FutureOf T C O) (part : Part w future) (sleeps : C → SleepTable) where
  pub limit_left : (m : Option (T × SleepFor)) (c d : C) → LimitCancels future.cancels sleeps w.work w.reaches m c d → w.reaches c d
  limit_left (Some p) c d q = w.on c q.0 d (part.left p.0 c q.0 q.1) (nap_left w sleeps p.1 q.0 d q.2)
  limit_left None c d q = same_reached w c d q

  module _ (nanos : C → ℕ) where
    after_delay : (answer : Poll (Result ⊤ SleepError)) (f : T) (s : SleepFor) (c : C) (r : Poll (Result O LateError)) (n : Option (T × SleepFor)) (d : C)
        → AfterDelay future nanos w.number sleeps w.work w.reaches answer f s c r n d → w.reaches c d
    after_delay (Ready x) f s c r n d q = limit_left (Some (f, s)) c d q.2
    after_delay Pending f s c r n d q = same_reached w c d q.2

    after_limited : (answer : Poll O) (f : T) (s : SleepFor) (c : C) (r : Poll (Result O LateError)) (n : Option (T × SleepFor)) (d : C) → AfterLimited future nanos w.number sleeps w.work w.reaches answer f s c r n d → w.reaches c d
    after_limited (Ready x) f s c r n d q = limit_left (Some (f, s)) c d q.2
    after_limited Pending f s c r n d q = w.on c q.middle d (nap_reached w sleeps nanos s c q.answer q.left q.middle q.polled) (after_delay q.answer f q.left q.middle r n d q.rest)

    pub limit_reached : (m : Option (T × SleepFor)) (c : C) (r : Poll (Result O LateError)) (n : Option (T × SleepFor)) (d : C) → LimitPolls future nanos w.number sleeps w.work w.reaches m c r n d → w.reaches c d
    limit_reached (Some p) c r n d q = w.on c q.middle d (part.reach p.0 c q.answer q.left q.middle q.polled) (after_limited q.answer q.left p.1 q.middle r n d q.rest)
    limit_reached None c r n d q = absurd q

    module _ (same_number : (a b : C) → w.reaches a b → w.number b ≡ w.number a) (watches : (c : C) (s : ℕ) → w.watcher c (of_sleep s) ≡ waker_in (value_at (sleeps c).table s)) where
      delay_waits : (f : T) (c : C) (g : T) (m : C) (s : SleepFor) (answer : Poll (Result ⊤ SleepError)) (left : SleepFor) (e : C) (n : Option (T × SleepFor)) (d : C) → future.polls f c Pending g m
          → NapPolls nanos w.number sleeps w.work w.reaches s m answer left e → AfterDelay future nanos w.number sleeps w.work w.reaches answer g left e Pending n d → CoversIn w c d (LimitNeeds part.needs n)
      delay_waits f c g m s (Ready x) left e n d one two rest = absurd (no_answer (Err (late_cause x)) rest.0)
      delay_waits f c g m s Pending left e n d one two rest =
          subst (λ v. CoversIn w c d (LimitNeeds part.needs v)) (sym rest.1) (subst (λ z. CoversIn w c z (LimitNeeds part.needs (Some (g, left)))) (sym rest.2)
          (covers_both w c m e (part.needs g) (NapNeeds left) (part.reach f c Pending g m one) (part.covers f c g m one) (nap_reached w sleeps nanos s m Pending left e two) (naps_cover w sleeps nanos same_number watches s m left e two)))

      limited_waits : (f : T) (c : C) (answer : Poll O) (g : T) (m : C) (s : SleepFor) (n : Option (T × SleepFor)) (d : C) → future.polls f c answer g m → AfterLimited future nanos w.number sleeps w.work w.reaches answer g s m Pending n d → CoversIn w c d (LimitNeeds part.needs n)
      limited_waits f c (Ready x) g m s n d one rest = absurd (no_answer (Ok x) rest.0)
      limited_waits f c Pending g m s n d one rest = delay_waits f c g m s rest.answer rest.left rest.middle n d one rest.polled rest.rest

      pub limits_cover : (m : Option (T × SleepFor)) (c : C) (n : Option (T × SleepFor)) (d : C) → LimitPolls future nanos w.number sleeps w.work w.reaches m c Pending n d → CoversIn w c d (LimitNeeds part.needs n)
      limits_cover (Some p) c n d q = limited_waits p.0 c q.answer q.left q.middle p.1 n d q.polled q.rest
      limits_cover None c n d q = absurd q

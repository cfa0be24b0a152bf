-- The retry after a step.
use Rattle.std.proofs.Common.{◌≡◌, ◌<◌, ℕ, ◌+◌, zero, suc, true, false, Bool, Some, None, Option, refl, ap, sym, subst, arith}
use Rattle.std.specs.Prelude.{⊤, Result, Ok, Err, nat_le}
use Rattle.std.specs.Fn.{Mut}
use Rattle.mono_model.specs.Ticks.{max_nanos}
use Rattle.mono_model.specs.Tasks.{Tasks}
use Rattle.mono_model.specs.declared.poll.Poll.{Poll}
use Rattle.mono_model.specs.declared.poll.Poll.TheVariants.{Ready, Pending}
use Rattle.mono_model.specs.declared.error.Error.{Error}
use Rattle.mono_task.specs.Members.{FutureOf}
use Rattle.mono_time.specs.Sleeps.{SleepTable}
use Rattle.mono_limit.specs.Stages.{place_of}
use Rattle.mono_limit.specs.RetryPolls.{at_stage, without_stage, with_attempt, with_sleep, HasLeft, IsLiveStage, MayGoOn, Ends, AfterReset, FailsEarly, FailsWith, AfterPoll, AfterSleep, Makes, StepOf, Leaves}
use Rattle.mono_limit.specs.declared.RetryError.{RetryError}
use Rattle.mono_limit.specs.declared.RetryError.TheVariants.{Last, Far, Timer}
use Rattle.mono_limit.specs.declared.attempts.Stage.{Stage}
use Rattle.mono_limit.specs.declared.attempts.Stage.TheVariants as stage
use Rattle.mono_limit.specs.declared.attempts.Retry.{Retry}

-- The number of attempts stays; if one may follow, there is one left.
abbrev pub Keeps : {G F : Type 0} → Retry G F → Retry G F → Type 0
Keeps old new = (new.base ≡ old.base) × (new.tried + new.left ≡ old.tried + old.left) × HasLeft new.stage new.left

abbrev pub IsGood : {G F A : Type 0} → Option (Poll A) → Retry G F → Retry G F → Type 0
IsGood o old new = Keeps old new × Leaves o old new

at_literal : {G F A : Type 0} (o o' : Option (Poll A)) (old new new' : Retry G F) → o ≡ o' → new ≡ new' → IsGood o' old new' → IsGood o old new
at_literal o o' old new new' e f good = subst (λ x. IsGood x old new) (sym e) (subst (λ n. IsGood o' old n) (sym f) good)

module _ {G F C X E : Type 0} (sleeps : C → SleepTable) (work : C → Tasks ⊤) (reaches : C → C → Type 0) (old : Retry G F) where
  ends : (answer : Result X (RetryError E)) (retry : Retry G F) → retry.base ≡ old.base → retry.tried + retry.left ≡ old.tried + old.left → (c d : C) (o : Option (Poll (Result X (RetryError E)))) (s : Retry G F)
      → Ends sleeps work reaches answer retry c o s d → IsGood o old s
  ends answer retry base sum c d o s e = at_literal o (Some (Ready answer)) old s (at_stage retry stage.Over) e.answers e.over ((base, sum, tt), tt)

  module _ (trying : place_of old.stage ≡ 2) where
    resets : (result : Result ⊤ Error) (retry : Retry G F) → retry.base ≡ old.base → retry.tried ≡ old.tried → retry.left ≡ old.left → 0 < old.left → (c d : C) (o : Option (Poll (Result X (RetryError E)))) (s : Retry G F)
        → AfterReset sleeps work reaches result retry c o s d → IsGood o old s
    resets (Ok x) retry base tried left some c d o s (none, is, same) =
        at_literal o None old s (at_stage retry stage.Resting) none is ((base, omega (arith, tried, left), omega (arith, left, some)), (refl, omega (arith, trying, left)))
    resets (Err error) retry base tried left some c d o s e = ends (Err (Timer error)) retry base (omega (arith, tried, left)) c d o s e

    fails_early : (b : Bool) (e : E) (due : ℕ) → 0 < old.left → (c d : C) (o : Option (Poll (Result X (RetryError E)))) (s : Retry G F) → FailsEarly sleeps work reaches b e due (without_stage old) c o s d → IsGood o old s
    fails_early false e due some c d o s is = ends (Err (Far e)) (without_stage old) refl refl c d o s is
    fails_early true e due some c d o s is = resets is.result (with_sleep (without_stage old) is.sleep) refl refl refl some is.middle d o s is.rest

    fails : (n : ℕ) → old.left ≡ n → (e : E) (due : ℕ) (c d : C) (o : Option (Poll (Result X (RetryError E)))) (s : Retry G F) → FailsWith sleeps work reaches n e due (without_stage old) c o s d → IsGood o old s
    fails zero left e due c d o s is = ends (Err (Last e)) (without_stage old) refl refl c d o s is
    fails (suc more) left e due c d o s is = fails_early (nat_le due max_nanos) e due (omega (arith, left)) c d o s is

module _ {G F C X E : Type 0} (call : Mut G (ℕ × Unit {0}) F) (future : FutureOf F C (Result X E)) (number nanos : C → ℕ) (sleeps : C → SleepTable) (work : C → Tasks ⊤) (reaches : C → C → Type 0) (old : Retry G F) where
  polled : (p : Poll (Result X E)) (after : F) → place_of old.stage ≡ 2 → (c d : C) (o : Option (Poll (Result X (RetryError E)))) (s : Retry G F) → AfterPoll future nanos sleeps work reaches p after (without_stage old) c o s d → IsGood o old s
  polled Pending after trying c d o s (pending, is, same) = at_literal o (Some Pending) old s (at_stage (without_stage old) (stage.Trying after)) pending is ((refl, refl, tt), refl)
  polled (Ready (Ok x)) after trying c d o s (middle, cancels, is) = ends sleeps work reaches old (Ok x) (without_stage old) refl refl middle d o s is
  polled (Ready (Err e)) after trying c d o s (middle, cancels, is) = fails sleeps work reaches old trying old.left refl e _ middle d o s is

  rested : (p : Poll (Result ⊤ Error)) → place_of old.stage ≡ 1 → 0 < old.left → (c d : C) (o : Option (Poll (Result X (RetryError E)))) (s : Retry G F) → AfterSleep number sleeps work reaches p (without_stage old) c o s d
      → IsGood o old s × IsLiveStage future s.stage
  rested Pending resting some c d o s (pending, is, same) = (
    at_literal o (Some Pending) old s (at_stage (without_stage old) stage.Resting) pending is ((refl, refl, some), refl),
    subst (λ (n : Retry G F). IsLiveStage future n.stage) (sym is) tt,
  )
  rested (Ready (Ok x)) resting some c d o s (none, is, same) = (
    at_literal o None old s (at_stage (without_stage old) stage.Due) none is ((refl, refl, some), (refl, omega (arith, resting))),
    subst (λ (n : Retry G F). IsLiveStage future n.stage) (sym is) tt,
  )
  rested (Ready (Err error)) resting some c d o s is = (
    ends sleeps work reaches old (Err (Timer error)) (without_stage old) refl refl c d o s is,
    subst (λ (n : Retry G F). IsLiveStage future n.stage) (sym is.over) tt,
  )

  begun : place_of old.stage ≡ 0 → 0 < old.left → (attempt : F) (make : G) (o : Option (Poll (Result X (RetryError E)))) (s : Retry G F) → o ≡ None → s ≡ with_attempt (without_stage old) attempt make → IsGood o old s
  begun due some attempt make o s none is = at_literal o None old s (with_attempt (without_stage old) attempt make) none is ((refl, omega (arith, some), tt), (refl, omega (arith, due, some)))

  by_stage : (st : Stage F) → old.stage ≡ st → HasLeft st old.left → (c d : C) (o : Option (Poll (Result X (RetryError E)))) (s : Retry G F) → StepOf call future number nanos sleeps work reaches st old c o s d → IsGood o old s
  by_stage stage.Due at some c d o s (none, makes, same) = begun (ap place_of at) some makes.attempt makes.make o s none makes.tries
  by_stage (stage.Trying attempt) at some c d o s tries = polled tries.answer tries.after (ap place_of at) tries.middle d o s tries.rest
  by_stage stage.Resting at some c d o s rests = (rested rests.answer (ap place_of at) some rests.middle d o s rests.rest).0
  by_stage stage.Over at some c d o s step = absurd step

  -- The requirement of a poll holds again, and the step continues.
  pub stays : (st : Stage F) → old.stage ≡ st → MayGoOn call future old → (c d : C) (o : Option (Poll (Result X (RetryError E)))) (s : Retry G F) → StepOf call future number nanos sleeps work reaches st old c o s d
      → IsLiveStage future s.stage → MayGoOn call future s × Leaves o old s
  stays st at may c d o s step live =
      let good : IsGood o old s = by_stage st at (subst (λ x. HasLeft x old.left) at may.has_left) c d o s step in
      (record { has_base = rw good.0.0 may.has_base; in_range = rw good.0.1 may.in_range; has_left = good.0.2; live = live; makes_live = rw good.0.1 may.makes_live }, good.1)

  pub some_left : (st : Stage F) → st ≡ stage.Due → HasLeft st old.left → 0 < old.left
  some_left stage.Due at has = has
  some_left (stage.Trying attempt) at has = cc
  some_left stage.Resting at has = has
  some_left stage.Over at has = cc

  -- The same if an attempt was made.
  pub due_stays : old.stage ≡ stage.Due → MayGoOn call future old → (c : C) (s : Retry G F) → Makes call (without_stage old) s → MayGoOn call future s × Leaves {A = Result X (RetryError E)} None old s
  due_stays at may c s makes = stays stage.Due at may c c None s (refl, makes, refl) (rw makes.tries (may.makes_live.live old.make (old.tried + 1) makes.attempt makes.make (omega arith) (omega (arith, some_left old.stage at may.has_left)) makes.made))

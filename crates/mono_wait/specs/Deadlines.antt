-- The sources of a value with a deadline.
use Rattle.std.specs.Prelude.{◌≡◌, ◌⊎◌, ℕ, ⊤, Option, Result, Ok, Err}
use Rattle.std.proofs.Common.{inl, inr, sym, ap, ◌∙◌, subst, refl}
use Rattle.mono_model.specs.Tasks.{Tasks}
use Rattle.mono_model.specs.Table.{value_at}
use Rattle.mono_model.specs.declared.poll.Poll.{Poll}
use Rattle.mono_model.specs.declared.poll.Poll.TheVariants.{Ready, Pending}
use Rattle.mono_model.specs.declared.error.Error.{Error}
use Rattle.mono_task.specs.Members.{FutureOf}
use Rattle.mono_time.specs.Sleeps.{SleepTable}
use Rattle.mono_time.specs.Futures.{SleepPolls, SleepCancels}
use Rattle.mono_time.specs.Timeouts.{TimeoutPolls, TimeoutCancels, AfterValue, late_answer}
use Rattle.mono_time.specs.declared.sleeps.Sleep.{Sleep}
use Rattle.mono_time.specs.declared.timeouts.Timeout.{Timeout}
use Rattle.mono_time.specs.declared.error.TimeoutError.{TimeoutError}
use Rattle.mono_wait.specs.Sources.{Source, of_sleep, Covers, Heard, heard_on, waker_in}
use Rattle.mono_wait.specs.Leaves.{SleepNeeds, sleeps_cover}

-- the sources of its value, and its delay
abbrev pub TimeoutNeeds : {T : Type 0} → (T → Source → Type 0) → Timeout T → Source → Type 0
TimeoutNeeds needs f x = needs f.value x ⊎ SleepNeeds f.delay x

no_answer : {A : Type 0} (x : A) → Pending ≡ Ready x → ⊥
no_answer x e = cc

pending_late : {O : Type 0} (p : Poll (Result ⊤ Error)) → (let r : Poll (Result O TimeoutError) = Pending in r ≡ late_answer p) → p ≡ Pending
pending_late (Ready (Ok x)) e = absurd (no_answer _ e)
pending_late (Ready (Err x)) e = absurd (no_answer _ e)
pending_late Pending e = refl

module _ {T C O : Type 0} (future : FutureOf T C O) (number : C → ℕ) (sleeps : C → SleepTable) (work : C → Tasks ⊤) (reaches : C → C → Type 0)
    (on : (a b c : C) → reaches a b → reaches b c → reaches a c) where
  after_value_reached : (answer : Poll O) (delay : Sleep) (c : C) (r : Poll (Result O TimeoutError)) (left : Sleep) (d : C) → AfterValue future number sleeps work reaches answer delay c r left d → reaches c d
  after_value_reached (Ready x) delay c r left d p = p.2.reached
  after_value_reached Pending delay c r left d (q, p, is) = p.reached

  pub timeout_reached : ((f : T) (c : C) (r : Poll O) (g : T) (d : C) → future.polls f c r g d → reaches c d)
      → (f : Timeout T) (c : C) (r : Poll (Result O TimeoutError)) (g : Timeout T) (d : C) → TimeoutPolls future number sleeps work reaches f c r g d → reaches c d
  timeout_reached reach f c r g d p = on c p.middle d (reach f.value c p.answer g.value p.middle p.value) (after_value_reached p.answer f.delay p.middle r g.delay d p.rest)

  pub timeout_left : ((f : T) (c d : C) → future.cancels f c d → reaches c d) → (f : Timeout T) (c d : C) → TimeoutCancels future sleeps work reaches f c d → reaches c d
  timeout_left reach f c d (middle, value, delay) = on c middle d (reach f.value c middle value) delay.reached

  -- once pending its value was polled and is pending, and so is its delay
  record BothWait (f : Timeout T) (c : C) (g : Timeout T) (d : C) : Type 0 where
    middle : C
    value : future.polls f.value c Pending g.value middle
    delay : SleepPolls number sleeps work reaches f.delay middle Pending g.delay d

  wait_both : (f : Timeout T) (c : C) (g : Timeout T) (d : C) (answer : Poll O) (middle : C) → future.polls f.value c answer g.value middle → AfterValue future number sleeps work reaches answer f.delay middle Pending g.delay d → BothWait f c g d
  wait_both f c g d (Ready x) middle value rest = absurd (no_answer _ rest.0)
  wait_both f c g d Pending middle value (q, p, is) = record { middle = middle; value = value; delay = subst (λ r. SleepPolls number sleeps work reaches f.delay middle r g.delay d) (pending_late q is) p }

  module _ (watcher : C → Source → Option ℕ) (itself : (c : C) → reaches c c) (same_number : (a b : C) → reaches a b → number b ≡ number a)
      (watches : (c : C) (s : ℕ) → watcher c (of_sleep s) ≡ waker_in (value_at (sleeps c).table s)) (needs : T → Source → Type 0)
      (covers : (f : T) (c : C) (g : T) (d : C) → future.polls f c Pending g d → Covers number work reaches watcher c d (needs g)) (reach : (f : T) (c : C) (r : Poll O) (g : T) (d : C) → future.polls f c r g d → reaches c d) where
    cover_both : (f : Timeout T) (c : C) (g : Timeout T) (d : C) → BothWait f c g d → Covers number work reaches watcher c d (TimeoutNeeds needs g)
    cover_both f c g d p =
        let late : Covers number work reaches watcher p.middle d (SleepNeeds g.delay) = sleeps_cover number sleeps work reaches watcher itself same_number watches f.delay p.middle g.delay d p.delay
        in record {
          one = inl (of_sleep g.delay.number, inr refl);
          each = λ x is. elim is [
            | inl value ↦ heard_on number work reaches watcher on c c p.middle d x (itself c) ((covers f.value c g.value p.middle p.value).each x value) p.delay.reached
            | inr delay ↦ heard_on number work reaches watcher on c p.middle d d x (reach f.value c Pending g.value p.middle p.value) (late.each x delay) (itself d)
          ];
        }

    pub timeouts_cover : (f : Timeout T) (c : C) (g : Timeout T) (d : C) → TimeoutPolls future number sleeps work reaches f c Pending g d → Covers number work reaches watcher c d (TimeoutNeeds needs g)
    timeouts_cover f c g d p = cover_both f c g d (wait_both f c g d p.answer p.middle p.value p.rest)

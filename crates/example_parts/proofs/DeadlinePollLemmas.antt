-- One poll of a countdown with a deadline, and how it is given up.
use Rattle.std.proofs.Common.{◌≡◌, ℕ, true, false, Ok, Err, refl, ap, subst, ◌∙◌}
use Rattle.std.specs.Prelude.{⊤, Result}
use Rattle.mono_model.specs.Tasks.{Tasks, woken}
use Rattle.mono_model.specs.Poll.{OnPending, OnReady, call_of}
use Rattle.mono_model.specs.declared.Woke.{Woke}
use Rattle.mono_model.specs.declared.task_error.TaskError.{TaskError}
use Rattle.mono_model.specs.declared.poll.Poll.{Poll}
use Rattle.mono_model.specs.declared.poll.Poll.TheVariants.{Ready, Pending}
use Rattle.mono_task.specs.Members.{FutureOf}
use Rattle.mono_time.specs.Sleeps.{SleepTable, sleep_poll_answer, with_polled_sleep, with_removed_sleep}
use Rattle.mono_time.specs.Timeouts.{TimeoutPolls, TimeoutGives, TimeoutCancels, AfterValue, late_answer}
use Rattle.mono_model.specs.declared.error.Error.{Error}
use Rattle.mono_time.specs.declared.error.TimeoutError.{TimeoutError}
use Rattle.mono_time.specs.declared.error.TimeoutError.TheVariants.{Elapsed}
use Rattle.mono_time.specs.declared.sleeps.Sleep.{Sleep}
use Rattle.example_parts.specs.Countdowns.{is_over, answer_of, one_fewer, answered, WakesItself, CountdownPolls}
use Rattle.example_parts.specs.Nests.{Limited, Waits, IsLate, polled_once}
use Rattle.example_parts.specs.declared.nests.by_hand.Countdown.{Countdown}

abbrev pub Answer : Type 0
Answer = Result ℕ TimeoutError

abbrev timed : Countdown → Sleep → Limited
timed value delay = record { value = value; delay = delay }

pending-call : (p : Poll (Result ⊤ Error)) → call_of p ≡ Ok Pending → p ≡ Pending
pending-call (Ready (Ok x)) e = absurd (cc)
pending-call (Ready (Err x)) e = absurd (cc)
pending-call Pending e = refl

ready-call : (p : Poll (Result ⊤ Error)) → call_of p ≡ Ok (Ready tt) → p ≡ Ready (Ok tt)
ready-call (Ready (Ok x)) e = refl
ready-call (Ready (Err x)) e = absurd (cc)
ready-call Pending e = absurd (cc)

pub answer-over : (f : Countdown) → is_over f ≡ true → answer_of f ≡ Ready f.value
answer-over f over = rw over refl

pub answer-counts : (f : Countdown) → is_over f ≡ false → answer_of f ≡ Pending
answer-counts f counts = rw counts refl

module _ {C : Type 0} (number : C → ℕ) (sleeps : C → SleepTable) (work : C → Tasks ⊤) (wakes : C → ℕ → Result Woke TaskError → C → Type 0) (reaches : C → C → Type 0) where
  abbrev pub countdown : FutureOf Countdown C ℕ
  countdown = record {
    is_spent = λ f. f.has_answered;
    can_poll = λ f. ⊤;
    polls = CountdownPolls number work wakes reaches;
    gives = λ f x. ⊤;
    cancels = λ f c d. d ≡ c;
  }

  abbrev pub limited : FutureOf Limited C Answer
  limited = record {
    is_spent = λ f. f.value.has_answered;
    can_poll = λ f. ⊤;
    polls = TimeoutPolls countdown number sleeps work reaches;
    gives = λ f. TimeoutGives countdown.gives f.value;
    cancels = TimeoutCancels countdown sleeps work reaches;
  }

  -- The result of a pending poll.
  pub record LimitWaits (t : Limited) (c : C) (r : Poll Answer) (left : Limited) (d : C) : Type 0 where
    pub answer : r ≡ Pending
    pub left_is : left ≡ polled_once t
    pub sleeps_after : sleeps d ≡ with_polled_sleep (sleeps c) t.delay.number (number c)
    pub work_after : work d ≡ woken (work c) (number c)
    pub same_number : number d ≡ number c

module _ {C : Type 0} (number : C → ℕ) (sleeps : C → SleepTable) (work : C → Tasks ⊤) (wakes : C → ℕ → Result Woke TaskError → C → Type 0) (reaches : C → C → Type 0)
    (same : (c d : C) → reaches c d → number d ≡ number c) (keeps : (c d : C) (t : ℕ) (w : Result Woke TaskError) → wakes c t w d → sleeps d ≡ sleeps c) where
  pub limit_waits : (t : Limited) (c : C) (r : Poll Answer) (left : Limited) (d : C) → (limited number sleeps work wakes reaches).polls t c r left d → Waits (sleeps c) t → LimitWaits number sleeps work wakes reaches t c r left d
  limit_waits t c r left d polls waits =
      let pending : polls.answer ≡ Pending = polls.value.answer ∙ answer-counts t.value waits.counts in
      let step : (left.value ≡ one_fewer t.value) × WakesItself number work wakes reaches c polls.middle = subst (λ k. OnPending k ((left.value ≡ one_fewer t.value) × WakesItself number work wakes reaches c polls.middle)) pending polls.value.waits in
      let rest : AfterValue (countdown number sleeps work wakes reaches) number sleeps work reaches Pending t.delay polls.middle r left.delay d = subst (λ k. AfterValue (countdown number sleeps work wakes reaches) number sleeps work reaches k t.delay polls.middle r left.delay d) pending polls.rest in
      let still : sleeps polls.middle ≡ sleeps c = keeps c polls.middle (number c) step.1.woke step.1.wake in
      let num : number polls.middle ≡ number c = same c polls.middle polls.value.reached in
      let p_is : rest.0 ≡ Pending = pending-call rest.0 (rest.1.answer ∙ ap (λ s. sleep_poll_answer s t.delay.number) still ∙ waits.not_due) in
      record {
        answer = rest.2 ∙ ap late_answer p_is;
        left_is = ap (λ v. timed v left.delay) step.0 ∙ ap (timed (one_fewer t.value)) rest.1.sleep;
        sleeps_after = rest.1.sleeps_after ∙ ap (λ s. with_polled_sleep s t.delay.number (number polls.middle)) still ∙ ap (λ n. with_polled_sleep (sleeps c) t.delay.number n) num;
        work_after = rest.1.work_after ∙ step.1.work_after;
        same_number = same polls.middle d rest.1.reached ∙ num;
      }

  pub limit_cancels : (t : Limited) (c d : C) → (limited number sleeps work wakes reaches).cancels t c d → (sleeps d ≡ with_removed_sleep (sleeps c) t.delay.number) × (work d ≡ work c) × (number d ≡ number c)
  limit_cancels t c d gives =
      (gives.2.sleeps_after ∙ ap (λ m. with_removed_sleep (sleeps m) t.delay.number) gives.1, gives.2.work_after ∙ ap work gives.1, same gives.0 d gives.2.reached ∙ ap number gives.1)

  -- a poll of a countdown with no polls left: the value wins, and the delay is given up
  pub limit_ready : (t : Limited) (c : C) (r : Poll Answer) (left : Limited) (d : C) → (limited number sleeps work wakes reaches).polls t c r left d → is_over t.value ≡ true
      → (r ≡ Ready (Ok t.value.value)) × (left.delay ≡ t.delay) × (sleeps d ≡ with_removed_sleep (sleeps c) t.delay.number) × (number d ≡ number c)
  limit_ready t c r left d polls over =
      let ready : polls.answer ≡ Ready t.value.value = polls.value.answer ∙ answer-over t.value over in
      let step : (left.value ≡ answered t.value) × (polls.middle ≡ c) = subst (λ k. OnReady k ((left.value ≡ answered t.value) × (polls.middle ≡ c))) ready polls.value.ends in
      let rest : AfterValue (countdown number sleeps work wakes reaches) number sleeps work reaches (Ready t.value.value) t.delay polls.middle r left.delay d = subst (λ k. AfterValue (countdown number sleeps work wakes reaches) number sleeps work reaches k t.delay polls.middle r left.delay d) ready polls.rest in
      (rest.0, rest.1, rest.2.sleeps_after ∙ ap (λ m. with_removed_sleep (sleeps m) t.delay.number) step.1, same polls.middle d rest.2.reached ∙ ap number step.1)

  -- a poll of a countdown with polls left whose delay is due: the time has elapsed, and the delay stays
  pub limit_late : (t : Limited) (c : C) (r : Poll Answer) (left : Limited) (d : C) → (limited number sleeps work wakes reaches).polls t c r left d → IsLate (sleeps c) t
      → (r ≡ Ready (Err (Elapsed (record {})))) × (left.delay ≡ t.delay) × (sleeps d ≡ with_polled_sleep (sleeps c) t.delay.number (number c)) × (number d ≡ number c)
  limit_late t c r left d polls late =
      let pending : polls.answer ≡ Pending = polls.value.answer ∙ answer-counts t.value late.counts in
      let step : (left.value ≡ one_fewer t.value) × WakesItself number work wakes reaches c polls.middle = subst (λ k. OnPending k ((left.value ≡ one_fewer t.value) × WakesItself number work wakes reaches c polls.middle)) pending polls.value.waits in
      let rest : AfterValue (countdown number sleeps work wakes reaches) number sleeps work reaches Pending t.delay polls.middle r left.delay d = subst (λ k. AfterValue (countdown number sleeps work wakes reaches) number sleeps work reaches k t.delay polls.middle r left.delay d) pending polls.rest in
      let still : sleeps polls.middle ≡ sleeps c = keeps c polls.middle (number c) step.1.woke step.1.wake in
      let num : number polls.middle ≡ number c = same c polls.middle polls.value.reached in
      let p_is : rest.0 ≡ Ready (Ok tt) = ready-call rest.0 (rest.1.answer ∙ ap (λ s. sleep_poll_answer s t.delay.number) still ∙ late.due) in (
        rest.2 ∙ ap late_answer p_is,
        rest.1.sleep,
        rest.1.sleeps_after ∙ ap (λ s. with_polled_sleep s t.delay.number (number polls.middle)) still ∙ ap (λ n. with_polled_sleep (sleeps c) t.delay.number n) num,
        same polls.middle d rest.1.reached ∙ num,
      )

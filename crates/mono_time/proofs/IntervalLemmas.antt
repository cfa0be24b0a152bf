-- What a poll of an interval owes, at each of its ends.
use Rattle.std.proofs.Common.{◌≡◌, ◌≤◌, ℕ, true, false, Bool, inl, inr, Some, None, refl, ap, sym, subst, ◌∙◌}
use Rattle.std.specs.Prelude.{⊤, Option, Ok, Err, nat_le, if◌then◌else◌}
use Rattle.std.proofs.lemmas.Bool.{le-leb}
use Rattle.std.proofs.lemmas.Bool.Decides.{leb_tells}
use Rattle.std.proofs.lemmas.List.{get_or-set_same}
use Rattle.mono_model.specs.Ticks.{up, max_nanos}
use Rattle.mono_model.specs.Table.{value_at}
use Rattle.mono_model.specs.Tasks.{Tasks, woken_if_any}
use Rattle.mono_model.specs.SleepAnswers.{poll_of, without_waker, waker_in}
use Rattle.mono_model.specs.declared.poll.Poll.TheVariants.{Ready, Pending}
use Rattle.mono_model.specs.declared.error.Error.{Error}
use Rattle.mono_model.specs.declared.error.Error.TheVariants.{Invalid}
use Rattle.mono_time.specs.Instants.{nanos_of}
use Rattle.mono_time.specs.Sleeps.{Kept, SleepTable, fresh, armed, elapsed, polled_kept, is_kept_ready, kept_waker, changed_value, of_live_sleep, woken_by_reset, sleep_poll_answer, with_polled_sleep, sleep_reset_answer, with_reset_sleep}
use Rattle.mono_time.specs.IntervalTicks.{next_of, TickAfter, TickPolls}
use Rattle.mono_time.specs.declared.instant.Instant.{Instant}
use Rattle.mono_time.specs.declared.intervals.Interval.{Interval}
use Rattle.mono_time.proofs.SleepChangeLemmas.{given_inside}

-- ---- a sleep whose poll was ready has elapsed, and a reset of it wakes nobody
elapsed_if : (b : Bool) (x : ⊤) (tick : ℕ) (waker : Option ℕ) → Ready x ≡ poll_of b → (if b then elapsed else armed tick waker) ≡ elapsed
elapsed_if true x tick waker ready = refl
elapsed_if false x tick waker ready = absurd cc

elapsed_kept : (greatest by : ℕ) (kept : Kept) (x : ⊤) → Ready x ≡ poll_of (is_kept_ready greatest kept) → polled_kept greatest by kept ≡ elapsed
elapsed_kept greatest by (fresh tick) x ready = elapsed_if (nat_le tick greatest) x tick (Some by) ready
elapsed_kept greatest by (armed tick waker) x ready = absurd cc
elapsed_kept greatest by elapsed x ready = refl

nobody_if : (b : Bool) → (if b then kept_waker elapsed else None) ≡ None
nobody_if true = refl
nobody_if false = refl

reset_of : (t : SleepTable) (s by nanos : ℕ) (kept : Option Kept) (x : ⊤) → value_at t.table s ≡ kept → Ok (Ready x) ≡ of_live_sleep kept (λ k. poll_of (is_kept_ready t.greatest k)) →
    sleep_reset_answer (changed_value kept t s (polled_kept t.greatest by)) s nanos ≡ Ok None
reset_of t s by nanos None x at ready = absurd cc
reset_of t s by nanos (Some kept) x at ready =
    let is : Ready x ≡ poll_of (is_kept_ready t.greatest kept) = cc in
    ap (λ o. of_live_sleep o (woken_by_reset t.greatest (up nanos)))
    (get_or-set_same t.table s (Some (polled_kept t.greatest by kept)) None (given_inside t.table s kept at) ∙ ap Some (elapsed_kept t.greatest by kept x is))
    ∙ ap Ok (nobody_if (nat_le (up nanos) t.greatest))

reset-ready : (t : SleepTable) (s by nanos : ℕ) (x : ⊤) → Ok (Ready x) ≡ sleep_poll_answer t s → sleep_reset_answer (with_polled_sleep t s by) s nanos ≡ Ok None
reset-ready t s by nanos x ready = reset_of t s by nanos (value_at t.table s) x refl ready

le-true : (a b : ℕ) → a ≤ b → nat_le a b ≡ true
le-true a b l = le-leb a b l

module _ {C : Type 0} (number nanos : C → ℕ) (sleeps : C → SleepTable) (work : C → Tasks ⊤) (i : Interval) (c d : C) where
  pub ticks-waits : Ok Pending ≡ sleep_poll_answer (sleeps c) i.delay.number → sleeps d ≡ with_polled_sleep (sleeps c) i.delay.number (number c) → work d ≡ work c → TickPolls number nanos sleeps work i c (Ok Pending) i d
  ticks-waits answer after same = (subst (λ p. TickAfter number nanos sleeps work p i c (Ok Pending) i d) answer (refl, record { same = refl; sleeps_after = after }), same)

  module _ (x : ⊤) (answer : Ok (Ready x) ≡ sleep_poll_answer (sleeps c) i.delay.number) where
    pub ticks-invalid : (next : ℕ) → next ≡ next_of number nanos sleeps work i c → (next ≤ max_nanos → ⊥) → sleeps d ≡ with_polled_sleep (sleeps c) i.delay.number (number c) → work d ≡ work c → TickPolls number nanos sleeps work i c (Err Invalid) i d
    ticks-invalid next is past after same = (
      subst (λ p. TickAfter number nanos sleeps work p i c (Err Invalid) i d) answer (refl, subst (λ n. nat_le n max_nanos ≡ false) is (is_past next past), record { same = refl; sleeps_after = after }),
      same,
    )
      where
        is_past : (n : ℕ) → (n ≤ max_nanos → ⊥) → nat_le n max_nanos ≡ false
        is_past n none = elim (leb_tells n max_nanos) [
          | inl h ↦ absurd (none h.1)
          | inr h ↦ h.0
        ]

    module _ (middle : C) (deadline : Instant) (polled : sleeps middle ≡ with_polled_sleep (sleeps c) i.delay.number (number c)) (kept : work middle ≡ work c) where
      reset-here : sleep_reset_answer (sleeps middle) i.delay.number (nanos_of deadline) ≡ Ok None
      reset-here = ap (λ t. sleep_reset_answer t i.delay.number (nanos_of deadline)) polled ∙ reset-ready (sleeps c) i.delay.number (number c) (nanos_of deadline) x answer

      -- so a reset is not refused
      pub never-refused : (error : Error) → Err error ≡ without_waker (sleep_reset_answer (sleeps middle) i.delay.number (nanos_of deadline)) → ⊥
      never-refused error refused = let e = refused ∙ ap without_waker reset-here in cc

      -- and the parts of a tick
      pub tick-fits : nanos_of deadline ≡ next_of number nanos sleeps work i c → nanos_of deadline ≤ max_nanos → nat_le (next_of number nanos sleeps work i c) max_nanos ≡ true
      tick-fits is within = ap (λ n. nat_le n max_nanos) (sym is) ∙ le-true (nanos_of deadline) max_nanos within

      pub tick-sleeps : nanos_of deadline ≡ next_of number nanos sleeps work i c → sleeps d ≡ with_reset_sleep (sleeps middle) i.delay.number (nanos_of deadline) →
          sleeps d ≡ with_reset_sleep (with_polled_sleep (sleeps c) i.delay.number (number c)) i.delay.number (next_of number nanos sleeps work i c)
      tick-sleeps is after = after ∙ ap (λ t. with_reset_sleep t i.delay.number (nanos_of deadline)) polled ∙ ap (with_reset_sleep (with_polled_sleep (sleeps c) i.delay.number (number c)) i.delay.number) is

      pub tick-work : work d ≡ woken_if_any (work middle) (waker_in (sleep_reset_answer (sleeps middle) i.delay.number (nanos_of deadline))) → work d ≡ work c
      tick-work woken = woken ∙ ap (λ a. woken_if_any (work middle) (waker_in a)) reset-here ∙ kept

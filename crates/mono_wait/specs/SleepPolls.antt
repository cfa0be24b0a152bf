-- A poll of a sleep that is pending makes the task its waker.
use Rattle.std.proofs.Common.{◌≡◌, inl, inr, ℕ, true, false, Bool, cond, length, Some, None, Option, Result, Ok, refl, ap, sym, ◌∙◌}
use Rattle.std.specs.Prelude.{⊤}
use Rattle.std.proofs.lemmas.Bool.{cases_lt}
use Rattle.std.proofs.lemmas.List.{get_or-set_same, get_or_past}
use Rattle.mono_model.specs.Table.{value_at}
use Rattle.mono_model.specs.SleepAnswers.{poll_of}
use Rattle.mono_model.specs.declared.error.Error.{Error}
use Rattle.mono_model.specs.declared.poll.Poll.{Poll}
use Rattle.mono_model.specs.declared.poll.Poll.TheVariants.{Ready, Pending}
use Rattle.mono_time.specs.Sleeps.{SleepTable, Kept, fresh, armed, elapsed, kept_waker, polled_kept, is_kept_ready, sleep_poll_answer, with_polled_sleep, of_live_sleep, changed_value}
use Rattle.mono_wait.specs.Sources.{waker_in}

no_ready : {A : Type 0} (x : A) → Pending ≡ Ready x → ⊥
no_ready x e = cc

none-some : {V : Type 0} (v : V) → None ≡ Some v → ⊥
none-some v e = cc

abbrev told_by : Bool → Result (Poll ⊤) Error
told_by b = Ok (poll_of b)

pending_by : (b : Bool) → Ok Pending ≡ told_by b → b ≡ false
pending_by true e = absurd (impossible e)
  where
    impossible : Ok Pending ≡ told_by true → ⊥
    impossible e = cc
pending_by false e = refl

waits_kept : (greatest by : ℕ) (kept : Kept) → is_kept_ready greatest kept ≡ false → kept_waker (polled_kept greatest by kept) ≡ Some by
waits_kept greatest by (fresh tick) is = ap (λ b. kept_waker (cond b elapsed (armed tick (Some by)))) is
waits_kept greatest by (armed tick waker) is = refl
waits_kept greatest by elapsed is = absurd (impossible is)
  where
    impossible : true ≡ false → ⊥
    impossible e = cc

pub pending_arms : (sleeps : SleepTable) (s by : ℕ) → Ok Pending ≡ sleep_poll_answer sleeps s → waker_in (value_at (with_polled_sleep sleeps s by).table s) ≡ Some by
pending_arms sleeps s by told = by_value (value_at sleeps.table s) refl told
  where
    by_value : (v : Option Kept) → value_at sleeps.table s ≡ v → Ok Pending ≡ of_live_sleep v (λ kept. poll_of (is_kept_ready sleeps.greatest kept))
        → waker_in (value_at (changed_value v sleeps s (polled_kept sleeps.greatest by)).table s) ≡ Some by
    by_value None at told = absurd (impossible told)
      where
        impossible : Ok Pending ≡ of_live_sleep None (λ kept. poll_of (is_kept_ready sleeps.greatest kept)) → ⊥
        impossible e = cc
    by_value (Some kept) at told = elim (cases_lt s (length sleeps.table)) [
      | inl inside ↦ ap waker_in (get_or-set_same sleeps.table s (Some (polled_kept sleeps.greatest by kept)) None inside) ∙ waits_kept sleeps.greatest by kept (pending_by (is_kept_ready sleeps.greatest kept) told)
      | inr past ↦ absurd (none-some kept (sym (get_or_past sleeps.table s None past) ∙ at))
    ]

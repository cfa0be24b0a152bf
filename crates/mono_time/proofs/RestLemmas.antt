-- No call leaves a sleep armed at a tick up to the greatest, if none was before.
use Rattle.std.proofs.Common.{◌≡◌, ◌<◌, inl, inr, ℕ, zero, suc, true, false, Bool, cond, [], ◌∷◌, length, set, Some, None, refl, ap, sym, ◌∙◌, arith}
use Rattle.std.specs.Prelude.{Option, nat_le}
use Rattle.std.proofs.lemmas.Bool.{leb-false, cases_eq, cases_lt}
use Rattle.std.proofs.lemmas.List.{get_or-set_other, get_or-set_same, get_or_past, length-set}
use Rattle.mono_model.specs.Ticks.{up}
use Rattle.mono_model.specs.Table.{Table, value_at, with_value, with_next, without}
use Rattle.mono_time.specs.Sleeps.{Kept, SleepTable, fresh, armed, elapsed, at_tick, polled_kept, kept_waker, changed_value, with_polled_sleep, with_reset_sleep, with_removed_sleep, removed_value, with_added_sleep, with_table, IsNoneArmedUpTo}

some-same : (a b : Kept) → Some a ≡ Some b → a ≡ b
some-same a b e = cc

armed-tick : (t u : ℕ) (v w : Option ℕ) → armed t v ≡ armed u w → t ≡ u
armed-tick t u v w e = cc

none-armed : (t : ℕ) (w : Option ℕ) → None ≡ Some (armed t w) → ⊥
none-armed t w e = cc

elapsed-armed : (t : ℕ) (w : Option ℕ) → elapsed ≡ armed t w → ⊥
elapsed-armed t w e = cc

fresh-armed : (n t : ℕ) (w : Option ℕ) → Some (fresh n) ≡ Some (armed t w) → ⊥
fresh-armed n t w e = cc

-- a sleep that is written is not due
written : (sleeps : SleepTable) (s : ℕ) (kept : Kept) → IsNoneArmedUpTo sleeps → ((tick : ℕ) (waker : Option ℕ) → kept ≡ armed tick waker → sleeps.greatest < tick) → IsNoneArmedUpTo (with_table sleeps (with_value sleeps.table s kept))
written sleeps s kept none ahead q tick waker is = elim (cases_eq q s) [
  | inl here ↦ elim (cases_lt s (length sleeps.table)) [
    | inl inside ↦ ahead tick waker (some-same _ _ (sym (get_or-set_same sleeps.table s (Some kept) None inside) ∙ ap (value_at (set sleeps.table s (Some kept))) (sym here) ∙ is))
    | inr past ↦ absurd (none-armed tick waker (sym (get_or_past (set sleeps.table s (Some kept)) q None (omega (arith, past, here, length-set sleeps.table s (Some kept)))) ∙ is))
  ]
  | inr apart ↦ none q tick waker (sym (get_or-set_other sleeps.table s q (Some kept) None apart) ∙ is)
]

at_tick-ahead : (greatest tick later : ℕ) (v w : Option ℕ) → at_tick greatest tick v ≡ armed later w → greatest < later
at_tick-ahead greatest tick later v w is = by (nat_le tick greatest) refl is
  where
    by : (b : Bool) → nat_le tick greatest ≡ b → cond b elapsed (armed tick v) ≡ armed later w → greatest < later
    by true test e = absurd (elapsed-armed later w e)
    by false test e = omega (arith, leb-false tick greatest test, armed-tick tick later v w e)

polled-ahead : (sleeps : SleepTable) (s by later : ℕ) (w : Option ℕ) (kept : Kept) → IsNoneArmedUpTo sleeps → value_at sleeps.table s ≡ Some kept → polled_kept sleeps.greatest by kept ≡ armed later w → sleeps.greatest < later
polled-ahead sleeps s by later w (fresh tick) none at is = at_tick-ahead sleeps.greatest tick later (Some by) w is
polled-ahead sleeps s by later w (armed tick waker) none at is = omega (arith, none s tick waker at, armed-tick tick later (Some by) w is)
polled-ahead sleeps s by later w elapsed none at is = absurd (elapsed-armed later w is)

pub rests-polled : (sleeps : SleepTable) (s by : ℕ) → IsNoneArmedUpTo sleeps → IsNoneArmedUpTo (with_polled_sleep sleeps s by)
rests-polled sleeps s by none = at (value_at sleeps.table s) refl
  where
    at : (v : Option Kept) → value_at sleeps.table s ≡ v → IsNoneArmedUpTo (changed_value v sleeps s (polled_kept sleeps.greatest by))
    at None is = none
    at (Some kept) is = written sleeps s _ none (λ tick waker e. polled-ahead sleeps s by tick waker kept none is e)

pub rests-reset : (sleeps : SleepTable) (s nanos : ℕ) → IsNoneArmedUpTo sleeps → IsNoneArmedUpTo (with_reset_sleep sleeps s nanos)
rests-reset sleeps s nanos none = at (value_at sleeps.table s)
  where
    at : (v : Option Kept) → IsNoneArmedUpTo (changed_value v sleeps s (λ kept. at_tick sleeps.greatest (up nanos) (kept_waker kept)))
    at None = none
    at (Some kept) = written sleeps s _ none (λ tick waker e. at_tick-ahead sleeps.greatest (up nanos) tick (kept_waker kept) waker e)

pub rests-removed : (sleeps : SleepTable) (s : ℕ) → IsNoneArmedUpTo sleeps → IsNoneArmedUpTo (with_removed_sleep sleeps s)
rests-removed sleeps s none = at (value_at sleeps.table s)
  where
    gone : IsNoneArmedUpTo (with_table sleeps (without sleeps.table s))
    gone q tick waker is = elim (cases_eq q s) [
      | inl here ↦ elim (cases_lt s (length sleeps.table)) [
        | inl inside ↦ absurd (none-armed tick waker (sym (get_or-set_same sleeps.table s None None inside) ∙ ap (value_at (set sleeps.table s None)) (sym here) ∙ is))
        | inr past ↦ absurd (none-armed tick waker (sym (get_or_past (set sleeps.table s None) q None (omega (arith, past, here, length-set sleeps.table s None))) ∙ is))
      ]
      | inr apart ↦ none q tick waker (sym (get_or-set_other sleeps.table s q None None apart) ∙ is)
    ]

    at : (v : Option Kept) → IsNoneArmedUpTo (removed_value v sleeps s)
    at None = none
    at (Some kept) = gone

was_armed : (table : Table Kept) (n q tick : ℕ) (waker : Option ℕ) → value_at (with_next table (fresh n)) q ≡ Some (armed tick waker) → value_at table q ≡ Some (armed tick waker)
was_armed [] n zero tick waker is = absurd (fresh-armed n tick waker is)
was_armed [] n (suc q) tick waker is = is
was_armed (x ∷ xs) n zero tick waker is = is
was_armed (x ∷ xs) n (suc q) tick waker is = was_armed xs n q tick waker is

pub rests-added : (sleeps : SleepTable) (tick : ℕ) → IsNoneArmedUpTo sleeps → IsNoneArmedUpTo (with_added_sleep sleeps tick)
rests-added sleeps n none q tick waker is = none q tick waker (was_armed sleeps.table n q tick waker is)

-- The next expiration of the sleeps, for the sessions of a keeper.
use Rattle.std.proofs.Common.{◌≡◌, ◌<◌, ◌≤◌, ℕ, true, false, Some, None, Option, refl, ap, sym, ◌∙◌, subst}
use Rattle.std.specs.Prelude.{IfSome, is_some}
use Rattle.mono_model.specs.Table.{value_at}
use Rattle.mono_time.specs.SlotRegistration.{NextExpiration}
use Rattle.mono_time.specs.Sleeps.{SleepTable, armed, IsNoneArmedUpTo, IsOneArmed}
use Rattle.mono_session.specs.Expirations.{IsInTime, IsAhead}
use Rattle.mono_session.specs.Keeper.{Session, Keeper, closing_tick, is_open}
use Rattle.mono_session.specs.Refinement.{sleep_of, sleeps_from, AreTimely}
use Rattle.mono_session.proofs.SessionSleepLemmas.{value-map}

armed_tick : (a b : ℕ) (waker : Option ℕ) → Some (armed a None) ≡ Some (armed b waker) → a ≡ b
armed_tick a b waker e = cc

none_early : (k : Keeper) → AreTimely k → IsNoneArmedUpTo (sleeps_from k)
none_early k timely s tick waker at = by (value_at k.sessions s) refl (sym (value-map k.sessions s) ∙ at)
  where
    by : (v : Option Session) → value_at k.sessions s ≡ v → sleep_of v ≡ Some (armed tick waker) → k.greatest < tick
    by None e is = cc
    by (Some session) e is = subst (λ t. k.greatest < t) (armed_tick (closing_tick session) tick waker is) (timely s session e).1

pub timely_sleeps : (sleeps : SleepTable) (k : Keeper) → sleeps ≡ sleeps_from k → AreTimely k → IsNoneArmedUpTo sleeps
timely_sleeps sleeps k same timely = subst IsNoneArmedUpTo (sym same) (none_early k timely)

sleep_at : (k : Keeper) (s : ℕ) (session : Session) → value_at k.sessions s ≡ Some session → value_at (sleeps_from k).table s ≡ Some (armed (closing_tick session) None)
sleep_at k s session at = value-map k.sessions s ∙ ap sleep_of at

-- The tick is above the greatest, and at most that of each armed sleep.
abbrev IsAheadOfSleeps : SleepTable → ℕ → Type 0
IsAheadOfSleeps sleeps next = (sleeps.greatest < next) × ((s tick : ℕ) (waker : Option ℕ) → value_at sleeps.table s ≡ Some (armed tick waker) → next ≤ tick)

none_open : (reached : ℕ) (registered : ℕ → Option ℕ) (sleeps : SleepTable) (k : Keeper) → sleeps ≡ sleeps_from k → NextExpiration reached registered sleeps None → (s : ℕ) → is_open k s ≡ false
none_open reached registered sleeps k same is s = by (value_at k.sessions s) refl
  where
    by : (v : Option Session) → value_at k.sessions s ≡ v → is_some (value_at k.sessions s) ≡ false
    by None e = ap is_some e
    by (Some session) e = absurd (is s (closing_tick session) None (subst (λ (t : SleepTable). value_at t.table s ≡ Some (armed (closing_tick session) None)) (sym same) (sleep_at k s session e)))

pub next_in_time : (reached : ℕ) (registered : ℕ → Option ℕ) (sleeps : SleepTable) (k : Keeper) (r : Option ℕ) → sleeps ≡ sleeps_from k → NextExpiration reached registered sleeps r → IfSome r (IsAheadOfSleeps sleeps) → IsInTime k r
next_in_time reached registered sleeps k None same is ahead = none_open reached registered sleeps k same is
next_in_time reached registered sleeps k (Some next) same is ahead = λ s session at. (subst (λ t. IsAheadOfSleeps t next) same ahead).1 s (closing_tick session) None (sleep_at k s session at)

one_open : (k : Keeper) → IsOneArmed (sleeps_from k) → (s : ℕ) × (is_open k s ≡ true)
one_open k (s, (tick, (waker, at))) = (s, by (value_at k.sessions s) (sym (value-map k.sessions s) ∙ at))
  where
    by : (v : Option Session) → sleep_of v ≡ Some (armed tick waker) → is_some v ≡ true
    by None is = cc
    by (Some session) is = refl

pub next_ahead : (sleeps : SleepTable) (k : Keeper) (r : Option ℕ) → sleeps ≡ sleeps_from k → IfSome r (IsAheadOfSleeps sleeps) → IfSome r (λ next. IsOneArmed sleeps) → IfSome r (IsAhead k)
next_ahead sleeps k None same ahead one = tt
next_ahead sleeps k (Some next) same ahead one = ((subst (λ t. IsAheadOfSleeps t next) same ahead).0, one_open k (subst IsOneArmed same one))

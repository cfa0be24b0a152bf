-- The table of sleeps after each call on it.
use Rattle.std.proofs.Common.{◌≡◌, ◌<◌, ◌≤◌, ℕ, Some, None, Option, refl, ap, sym, ◌∙◌, arith}
use Rattle.std.specs.Prelude.{Ok, Err, IfSome}
use Rattle.std.specs.Option.{option_map}
use Rattle.std.proofs.Math.ListN.{get_or-map}
use Rattle.mono_model.specs.Table.{value_at}
use Rattle.mono_model.specs.Sleeps.{Sleeps, Sleep}
use Rattle.mono_model.specs.Sleeps as model
use Rattle.mono_model.specs.SleepActs as machine
use Rattle.mono_model.specs.Valid.{AreValidSleeps, IsValidSleep}
use Rattle.mono_model.specs.declared.error.Error.{Error}
use Rattle.mono_machine.specs.Machine.{Machine}
use Rattle.mono_machine.specs.Acts.{Outcome, for_sleep, refused}
use Rattle.mono_machine.specs.declared.events.Refusal.TheVariants as refusal
use Rattle.mono_time.specs.Sleeps.{Kept, SleepTable, armed, with_polled_sleep, polled_kept, with_reset_sleep, changed_value, with_removed_sleep, removed_value, with_added_sleep, IsNoneArmedUpTo}
use Rattle.mono_time.specs.Timers.{sleeps_of}
use Rattle.mono_time.specs.Refinement.{StandsForSleeps, seen}
use Rattle.mono_time.specs.declared.timers.Timers.{Timers}

-- what stays of a table of sleeps: the greatest tick, and whether there are timers
pub record Alike (old new : SleepTable) : Type 0 where
  pub greatest : new.greatest ≡ old.greatest
  pub is_enabled : new.is_enabled ≡ old.is_enabled

alike_changed : (v : Option Kept) (sleeps : SleepTable) (s : ℕ) (change : Kept → Kept) → Alike sleeps (changed_value v sleeps s change)
alike_changed None sleeps s change = record { greatest = refl; is_enabled = refl }
alike_changed (Some kept) sleeps s change = record { greatest = refl; is_enabled = refl }

pub alike_polled : (sleeps : SleepTable) (s by : ℕ) → Alike sleeps (with_polled_sleep sleeps s by)
alike_polled sleeps s by = alike_changed (value_at sleeps.table s) sleeps s (polled_kept sleeps.greatest by)

pub alike_reset : (sleeps : SleepTable) (s nanos : ℕ) → Alike sleeps (with_reset_sleep sleeps s nanos)
alike_reset sleeps s nanos = alike_changed (value_at sleeps.table s) sleeps s _

alike_gone : (v : Option Kept) (sleeps : SleepTable) (s : ℕ) → Alike sleeps (removed_value v sleeps s)
alike_gone None sleeps s = record { greatest = refl; is_enabled = refl }
alike_gone (Some kept) sleeps s = record { greatest = refl; is_enabled = refl }

pub alike_removed : (sleeps : SleepTable) (s : ℕ) → Alike sleeps (with_removed_sleep sleeps s)
alike_removed sleeps s = alike_gone (value_at sleeps.table s) sleeps s

pub alike_added : (sleeps : SleepTable) (tick : ℕ) → Alike sleeps (with_added_sleep sleeps tick)
alike_added sleeps tick = record { greatest = refl; is_enabled = refl }

-- a live sleep, or none
module _ {A : Type 0} (f : Sleep → A) (m : Machine) (outcome : Outcome) where
  pub live : (v : Option Sleep) (x : A) → machine.of_live v f ≡ Ok x → for_sleep v m outcome ≡ outcome
  live None x is = cc
  live (Some sleep) x is = refl

  pub gone : (v : Option Sleep) (e : Error) → machine.of_live v f ≡ Err e → for_sleep v m outcome ≡ refused refusal.NoTimer m
  gone None e is = refl
  gone (Some sleep) e is = cc

pub unchanged : {A : Type 0} (f : Sleep → A) (v : Option Sleep) (e : Error) (sleeps : Sleeps) (after : Sleep → Sleeps) → machine.of_live v f ≡ Err e → machine.if_live v sleeps after ≡ sleeps
unchanged f None e sleeps after is = refl
unchanged f (Some sleep) e sleeps after is = cc

-- between clock steps no sleep is due
none_seen : (next g : ℕ) (sleeps : Sleeps) (v : Option Sleep) → IfSome v (IsValidSleep next sleeps) → g ≡ sleeps.greatest → (tick : ℕ) (waker : Option ℕ) → option_map seen v ≡ Some (armed tick waker) → g < tick
none_seen next g sleeps None valid is tick waker at = cc
none_seen next g sleeps (Some (model.fresh nanos)) valid is tick waker at = cc
none_seen next g sleeps (Some (model.armed a)) valid is tick waker at =
    let same : a.tick ≡ tick = tick-same a.tick tick a.waker waker at in
    omega (arith, valid.0, is, same)
  where
    tick-same : (t u : ℕ) (w x : Option ℕ) → Some (armed t w) ≡ Some (armed u x) → t ≡ u
    tick-same t u w x e = cc
none_seen next g sleeps (Some model.elapsed) valid is tick waker at = cc

pub value-seen : (timers : Timers) (sleeps : Sleeps) (s : ℕ) → StandsForSleeps timers sleeps → value_at (sleeps_of timers).table s ≡ option_map seen (value_at sleeps.table s)
value-seen timers sleeps s st = ap (λ xs. value_at xs s) (sym st.table) ∙ get_or-map (option_map seen) sleeps.table s None

pub none_armed : (timers : Timers) (next : ℕ) (sleeps : Sleeps) → StandsForSleeps timers sleeps → AreValidSleeps next sleeps → IsNoneArmedUpTo (sleeps_of timers)
none_armed timers next sleeps st valid s tick waker at =
    none_seen next (sleeps_of timers).greatest sleeps (value_at sleeps.table s) (valid.each s) (sym st.same_greatest) tick waker (sym (value-seen timers sleeps s st) ∙ at)

-- The timers after a poll of the wheel.
use Rattle.std.proofs.Common.{◌≡◌, inl, inr, ℕ, true, false, Bool, cond, Some, None, Option, refl, ap, ◌∙◌, arith}
use Rattle.std.specs.Prelude.{slice_index_or, nat_le}
use Rattle.std.proofs.lemmas.Bool.{cases_lt}
use Rattle.mono_wheel.specs.Start.{start, top_level}
use Rattle.mono_wheel.specs.Model.{Timed, timed_at, timed_after, NothingDue, CameOut}
use Rattle.mono_actor.specs.Keys.{tick_in, number_in}
use Rattle.mono_actor.specs.Timers.{NoneRings, Rings}
use Rattle.mono_actor.specs.declared.timers.Alarms.{Alarms}

none-some : {X : Type 0} (x : X) → None ≡ Some x → ⊥
none-some x e = cc

same-some : {X : Type 0} (x y : X) → Some x ≡ Some y → x ≡ y
same-some x y e = cc

-- The clock advances, and each tick stays.
after-tick : (old new : ℕ) (t : Option Timed) → tick_in (timed_after old new t) ≡ tick_in t
after-tick old new None = refl
after-tick old new (Some t) = by (nat_le (start top_level old t.registered) new)
  where
    by : (b : Bool) → tick_in (Some (cond b (record { tick = t.tick; registered = t.tick }) t)) ≡ Some t.tick
    by true = refl
    by false = refl

-- A waiting key is in the wheel.
timed-of : (v : Option Timed) (tick : ℕ) → tick_in v ≡ Some tick → (timed : Timed) × (v ≡ Some timed) × (timed.tick ≡ tick)
timed-of None tick at = absurd (none-some tick at)
timed-of (Some timed) tick at = (timed, refl, same-some timed.tick tick at)

pub none_rings : (old new : Alarms) (now : ℕ) → NothingDue old.wheel new.wheel now → new.numbers ≡ old.numbers → NoneRings old new now
none_rings old new now nothing same = record {
  none = λ key tick at. elim (cases_lt now tick) [
    | inl later ↦ later
    | inr due ↦ (let found = timed-of (timed_at old.wheel key) tick at in absurd (nothing.none key tick (found.0, found.1, found.2, due)))
  ];
  elapsed = nothing.elapsed;
  ticks = λ other. ap tick_in (nothing.ticks other) ∙ after-tick old.wheel.elapsed now (timed_at old.wheel other);
  known = λ other. ap (λ rs. slice_index_or rs other false) nothing.reserved;
  numbers = λ other. ap (λ ns. number_in ns.items other) same;
}

pub rings : (old new : Alarms) (now key number : ℕ) → CameOut old.wheel new.wheel now key → new.numbers ≡ old.numbers → number ≡ number_in old.numbers.items key → Rings old new now number
rings old new now key number came same is = record {
  key = key;
  its_number = is;
  due = ap tick_in came.due.1 ∙ ap Some came.due.2;
  come = came.due.3;
  least = λ other tick at. elim (cases_lt now tick) [
    | inl later ↦ omega (arith, later, came.due.3)
    | inr due ↦ (let found = timed-of (timed_at old.wheel other) tick at in came.least other tick (found.0, found.1, found.2, due))
  ];
  gone = ap tick_in came.out;
  others = λ other apart. ap tick_in (came.others other apart) ∙ after-tick old.wheel.elapsed new.wheel.elapsed (timed_at old.wheel other);
  known = λ other. ap (λ rs. slice_index_or rs other false) came.reserved;
  numbers = λ other. ap (λ ns. number_in ns.items other) same;
}

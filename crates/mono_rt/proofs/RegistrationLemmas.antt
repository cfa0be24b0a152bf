-- The registered ticks of the sleeps, piece by piece.
use Rattle.std.proofs.Common.{◌≡◌, ℕ, List, [], ◌∷◌, ◌++◌, Some, None, Option, inl, inr, refl, ap, sym, subst, ◌∙◌, arith}
use Rattle.std.specs.Prelude.{IfSome}
use Rattle.mono_model.specs.Sleeps.{Sleeps}
use Rattle.mono_model.specs.SleepActs as sleep
use Rattle.mono_model.specs.Table.{value_at}
use Rattle.mono_time.specs.SlotRegistration.{FirstSlot, NextExpiration}
use Rattle.mono_time.specs.Sleeps.{IsNoneArmedUpTo}
use Rattle.mono_time.specs.Timers.{sleeps_of, elapsed_tick, registered_of}
use Rattle.mono_time.specs.declared.timers.Timers.{Timers}
use Rattle.mono_machine.specs.Machine.{Machine}
use Rattle.mono_machine.specs.Steps.{all_fired}
use Rattle.mono_time.specs.Registrations.{registered_after, by_act}
use Rattle.mono_time.proofs.RegistrationLemmas.{same-value}
use Rattle.mono_rt.specs.Journals.{WaitsForNext, Registers}
use Rattle.mono_rt.specs.Rounds.{Remotes, Drained}
use Rattle.mono_rt.specs.declared.parts.journals.Entry.{Entry}
use Rattle.mono_rt.specs.declared.parts.journals.Entry.TheVariants.{Ran, Now, Park}

-- If a park follows a reading of its own, an earlier reading has no effect.
any_reading : (reading : Option ℕ) (m : Machine) (r : ℕ → Option ℕ) (xs : List Entry) (new : Machine) (l : ℕ → Option ℕ) → Registers None m r xs new l → Registers reading m r xs new l
any_reading reading m r [] new l is = is
any_reading reading m r (Ran e a ∷ xs) new l (mid, step, rest) = (mid, step, any_reading reading mid (λ s. registered_after e m s (r s)) xs new l rest)
any_reading reading m r (Now n ∷ xs) new l is = is
any_reading reading m r (Park None ∷ xs) new l is = any_reading reading m r xs new l is
any_reading reading m r (Park (Some v) ∷ xs) new l is = absurd is.0

-- the same ticks
waits_same : (reading : Option ℕ) (m : Machine) (q r : ℕ → Option ℕ) (v : ℕ) → ((s : ℕ) → q s ≡ r s) → WaitsForNext m r reading v → WaitsForNext m q reading v
waits_same None m q r v same is = is
waits_same (Some n) m q r v same (next, (first, is)) = (
  next,
  (
    record { sleep = first.sleep; tick = first.tick; is_there = same first.sleep ∙ first.is_there; is_start = first.is_start; is_least = λ other later at. first.is_least other later (sym (same other) ∙ at) },
    is,
  ),
)

pub same_ticks : (reading : Option ℕ) (m : Machine) (q r : ℕ → Option ℕ) (xs : List Entry) (new : Machine) (l : ℕ → Option ℕ) → ((s : ℕ) → q s ≡ r s) → Registers reading m r xs new l → Registers reading m q xs new l
same_ticks reading m q r [] new l same (is, left) = (is, λ s. left s ∙ sym (same s))
same_ticks reading m q r (Ran e a ∷ xs) new l same (mid, step, rest) = (mid, step, same_ticks reading mid (λ s. registered_after e m s (q s)) (λ s. registered_after e m s (r s)) xs new l (λ s. ap (registered_after e m s) (same s)) rest)
same_ticks reading m q r (Now n ∷ xs) new l same is = same_ticks (Some n) m q r xs new l same is
same_ticks reading m q r (Park None ∷ xs) new l same is = same_ticks reading m q r xs new l same is
same_ticks reading m q r (Park (Some v) ∷ xs) new l same (waits, is) = (waits_same reading m q r v same waits, same_ticks reading m q r xs new l same is)

-- one after the other
pub registers_on : (reading : Option ℕ) (a b c : Machine) (q r l : ℕ → Option ℕ) (xs ys : List Entry) → Registers reading a q xs b r → Registers None b r ys c l → Registers reading a q (xs ++ ys) c l
registers_on reading a b c q r l [] ys (is, same) more =
    any_reading reading a q ys c l (same_ticks None a q r ys c l (λ s. sym (same s)) (subst (λ m. Registers None m r ys c l) is more))
registers_on reading a b c q r l (Ran e t ∷ xs) ys (mid, step, rest) more = (mid, step, registers_on reading mid b c (λ s. registered_after e a s (q s)) r l xs ys rest more)
registers_on reading a b c q r l (Now n ∷ xs) ys is more = registers_on (Some n) a b c q r l xs ys is more
registers_on reading a b c q r l (Park None ∷ xs) ys is more = registers_on reading a b c q r l xs ys is more
registers_on reading a b c q r l (Park (Some v) ∷ xs) ys (waits, is) more = (waits, registers_on reading a b c q r l xs ys is more)

-- the drained tasks
remotes_register : (ts : List ℕ) (old new end : Machine) (r l : ℕ → Option ℕ) (part rest : List Entry) → Remotes ts old part new rest → Registers None new r rest end l → Registers None old r part end l
remotes_register [] old new end r l part rest (same, is) after = subst (λ xs. Registers None old r xs end l) (sym same) (subst (λ m. Registers None m r rest end l) is after)
remotes_register (t ∷ ts) old new end r l part rest (told, (mid, (left, (entry, step, more)))) after =
    subst (λ xs. Registers None old r xs end l) (sym entry) (mid, step, remotes_register ts mid new end r l left rest more after)

pub drained_registers : (old new end : Machine) (r l : ℕ → Option ℕ) (part rest : List Entry) → Drained old part new rest → Registers None new r rest end l → Registers None old r part end l
drained_registers old new end r l part rest is after =
    remotes_register is.taken old is.mid end r l part is.left is.remotes (subst (λ xs. Registers None is.mid r xs end l) (sym is.entry) (new, is.step, after))

-- an act that leaves the sleeps and the timers
pub stays_registered : (old new : Timers) (before after : Sleeps) → new ≡ old → after ≡ before → (s : ℕ) → registered_of new s ≡ by_act (value_at before.table s) (value_at after.table s) (registered_of old s)
stays_registered old new before after timers same s =
    ap (λ t. registered_of t s) timers ∙ sym (same-value (value_at before.table s) (registered_of old s)) ∙ ap (λ x. by_act (value_at before.table s) (value_at x.table s) (registered_of old s)) (sym same)

pub fired_greatest : (sleeps : Sleeps) (fired : List ℕ) → (all_fired sleeps fired).greatest ≡ sleeps.greatest
fired_greatest sleeps [] = refl
fired_greatest sleeps (s ∷ fired) = fired_greatest (sleep.fired sleeps s) fired

-- the next expiration between two events
pub next_is : (timers : Timers) (greatest next : ℕ) → IsNoneArmedUpTo (sleeps_of timers) → elapsed_tick timers ≡ (sleeps_of timers).greatest → (sleeps_of timers).greatest ≡ greatest
    → NextExpiration (elapsed_tick timers) (registered_of timers) (sleeps_of timers) (Some next) → FirstSlot greatest (registered_of timers) next
next_is timers greatest next none rest same (inl (pending, is)) = absurd (omega (arith, rest, none pending.0 (elapsed_tick timers) pending.1.0 pending.1.1))
next_is timers greatest next none rest same (inr (not_one, first)) = subst (λ g. FirstSlot g (registered_of timers) next) (rest ∙ same) first

-- a reading and a park
pub parked_registers : (n : ℕ) (wait : Option ℕ) (m : Machine) (r : ℕ → Option ℕ) → IfSome wait (WaitsForNext m r (Some n)) → Registers None m r (Now n ∷ Park wait ∷ []) m r
parked_registers n None m r is = (refl, λ s. refl)
parked_registers n (Some v) m r is = (is, (refl, λ s. refl))

-- The registered ticks of sleeps after each event.
use Rattle.std.proofs.Common.{◌≡◌, ◌≢◌, ◌<◌, ◌≤◌, inl, inr, ℕ, ◌+◌, true, false, Bool, cond, List, [], ◌∷◌, length, drop, get_or, Some, None, Option, refl, ap, sym, subst, ◌∙◌, arith}
use Rattle.std.specs.Prelude.{nat_lt, nat_le, ◌||◌, slice_set}
use Rattle.std.specs.Option.{option_map}
use Rattle.std.proofs.lemmas.Bool.{eq-eqb, ne_eqb, cases_eq, cases_lt, le-ltb}
use Rattle.std.proofs.lemmas.List.{get_or-set_other, get_or-set_same, get_or_past, get_or_append_left, get_or_push, length_push}
use Rattle.mono_model.specs.Ticks.{up, max_nanos}
use Rattle.mono_model.specs.Table.{value_at, with_next, with_value, next_number, is_full}
use Rattle.mono_model.specs.Sleeps.{Sleeps, Sleep, Arming, fresh, armed, elapsed, with_sleep, without_sleep, armed_anew, armed_later, armed_above, after_arming}
use Rattle.mono_model.specs.SleepActs as machine
use Rattle.mono_time.specs.Sleeps as table
use Rattle.mono_time.specs.Sleeps.{SleepTable, IsNoneArmedUpTo}
use Rattle.mono_time.specs.Refinement.{StandsForSleeps, seen}
use Rattle.mono_time.specs.SlotRegistration.{RegistersOnly, polled_registered, reset_registered, stepped_registered, IsRegistered, NextExpiration, FirstSlot}
use Rattle.mono_time.specs.Timers.{sleeps_of, elapsed_tick, registered_of}
use Rattle.mono_time.specs.declared.timers.Timers.{Timers}
use Rattle.mono_machine.specs.Machine.{Machine, with_tasks, with_sleeps}
use Rattle.mono_machine.specs.Acts.{answered, act_outcome, block, for_sleep, refused, step_outcome}
use Rattle.mono_machine.specs.Acts.{reset as resetting}
use Rattle.mono_model.specs.Tasks.{spawned}
use Rattle.mono_machine.specs.Steps.{greatest_at}
use Rattle.mono_machine.proofs.RunLemmas.{first_and_rest}
use Rattle.mono_machine.specs.declared.events.Act.TheVariants as act
use Rattle.mono_machine.specs.declared.events.Blocking.{Blocking}
use Rattle.mono_machine.specs.declared.events.Blocking.TheVariants as blocking
use Rattle.mono_machine.specs.declared.events.Refusal.TheVariants as refusal
use Rattle.mono_machine.specs.declared.events.Reply.TheVariants as reply
use Rattle.mono_machine.specs.declared.events.Event.TheVariants as event
use Rattle.mono_machine.specs.declared.events.TurnStep.{TurnStep}
use Rattle.mono_time.specs.Registrations.{armed_by_act, by_act, by_clock, registered_by_act, registered_by_steps, registered_after, FollowsAct, IsNext}
use Rattle.mono_time.proofs.SleepTableLemmas.{value-seen}
use Rattle.mono_time.proofs.ClockMoveLemmas.{all-registered}

same-arm : (a b : Arming) (r : Option ℕ) → a.arm ≡ b.arm → armed_by_act (Some (armed a)) b r ≡ r
same-arm a b r is = ap (λ x. cond x r (Some b.tick)) (eq-eqb a.arm b.arm is)

other-arm : (a b : Arming) (r : Option ℕ) → a.arm ≢ b.arm → armed_by_act (Some (armed a)) b r ≡ Some b.tick
other-arm a b r apart = ap (λ x. cond x r (Some b.tick)) (ne_eqb a.arm b.arm apart)

-- a sleep that stays as it was
pub same-value : (v : Option Sleep) (r : Option ℕ) → by_act v v r ≡ r
same-value None r = refl
same-value (Some (fresh n)) r = refl
same-value (Some (armed a)) r = same-arm a a r refl
same-value (Some elapsed) r = refl

none-some : (x : Sleep) → None ≡ Some x → ⊥
none-some x e = cc

there : (sleeps : Sleeps) (s : ℕ) (v x : Sleep) → value_at sleeps.table s ≡ Some v → value_at (with_value sleeps.table s x) s ≡ Some x
there sleeps s v x is = elim (cases_lt s (length sleeps.table)) [
  | inl inside ↦ get_or-set_same sleeps.table s (Some x) None inside
  | inr past ↦ absurd (none-some v (sym (get_or_past sleeps.table s None past) ∙ is))
]

apart-there : (sleeps : Sleeps) (s q : ℕ) (x : Option Sleep) → q ≢ s → value_at (slice_set sleeps.table s x) q ≡ value_at sleeps.table q
apart-there sleeps s q x apart = get_or-set_other sleeps.table s q x None apart

-- the same sleeps, and the same registered ticks
pub sleeps-stay : (old new : Timers) (before after : Sleeps) → after ≡ before → ((q : ℕ) → registered_of new q ≡ registered_of old q) → FollowsAct old new before after
sleeps-stay old new before after same stay q = stay q ∙ sym (same-value (value_at before.table q) (registered_of old q)) ∙ ap (λ x. by_act (value_at before.table q) (value_at x.table q) (registered_of old q)) (sym same)

-- one sleep alone is registered elsewhere
one-changes : (old new : Timers) (before after : Sleeps) (s : ℕ) (tick : Option ℕ) → RegistersOnly (registered_of old) (registered_of new) s tick → ((q : ℕ) → q ≢ s → value_at after.table q ≡ value_at before.table q)
    → tick ≡ by_act (value_at before.table s) (value_at after.table s) (registered_of old s) → FollowsAct old new before after
one-changes old new before after s tick only others here q = elim (cases_eq q s) [
  | inl is ↦ subst (λ n. registered_of new n ≡ by_act (value_at before.table n) (value_at after.table n) (registered_of old n)) (sym is) (only.here ∙ here)
  | inr apart ↦ only.others q apart ∙ sym (same-value (value_at before.table q) (registered_of old q)) ∙ ap (λ v. by_act (value_at before.table q) v (registered_of old q)) (sym (others q apart))
]

-- a new sleep is fresh
new-value : (sleeps : Sleeps) (q : ℕ) (r : Option ℕ) (n : ℕ) → by_act (value_at sleeps.table q) (value_at (with_next sleeps.table (fresh n)) q) r ≡ r
new-value sleeps q r n = elim (cases_lt q (length sleeps.table)) [
  | inl before ↦ ap (λ v. by_act (value_at sleeps.table q) v r) (get_or_append_left sleeps.table (Some (fresh n) ∷ []) None q before) ∙ same-value (value_at sleeps.table q) r
  | inr not_before ↦
      let none : value_at sleeps.table q ≡ None = get_or_past sleeps.table q None not_before in
      ap (λ v. by_act v (value_at (with_next sleeps.table (fresh n)) q) r) none ∙ elim (cases_eq q (length sleeps.table)) [
        | inl last ↦ ap (λ v. by_act None v r) (get_or_push sleeps.table (Some (fresh n)) None q (sym last))
        | inr past ↦ ap (λ v. by_act None v r) (get_or_past (with_next sleeps.table (fresh n)) q None (omega (arith, not_before, past, length_push sleeps.table (Some (fresh n)))))
      ]
]

pub added-follows : (old new : Timers) (sleeps : Sleeps) (n : ℕ) → ((q : ℕ) → registered_of new q ≡ registered_of old q) → FollowsAct old new sleeps (machine.added sleeps n)
added-follows old new sleeps n stay q = stay q ∙ sym (new-value sleeps q (registered_of old q) n)

pub registered-added : (old new : Timers) (m : Machine) (n : ℕ) → ((q : ℕ) → registered_of new q ≡ registered_of old q) → FollowsAct old new m.sleeps (act_outcome (act.NewSleep n) m).machine.sleeps
registered-added old new m n stay q = by (is_full m.sleeps.table m.sleeps.limit) (nat_lt max_nanos n)
  where
    by : (b c : Bool) → registered_of new q ≡ registered_by_act m.sleeps (cond b (refused refusal.AtCapacity m) (cond c (refused refusal.Invalid m) (answered (reply.Sleep (next_number m.sleeps.table)) (with_sleeps m (machine.added m.sleeps n))))).machine.sleeps q (registered_of old q)
    by true c = sleeps-stay old new m.sleeps m.sleeps refl stay q
    by false true = sleeps-stay old new m.sleeps m.sleeps refl stay q
    by false false = added-follows old new m.sleeps n stay q

-- a poll, a reset and a removal of one sleep
module _ (old new : Timers) (sleeps : Sleeps) (stands : StandsForSleeps old sleeps) (s : ℕ) where
  seen-registered : IsRegistered (elapsed_tick old) (option_map seen (value_at sleeps.table s)) (registered_of old s)
  seen-registered = subst (λ v. IsRegistered (elapsed_tick old) v (registered_of old s)) (value-seen old sleeps s stands) (all-registered old s)

  polled-tick : (by : ℕ) (v : Option Sleep) (r : Option ℕ) → value_at sleeps.table s ≡ v → IsRegistered (elapsed_tick old) (option_map seen v) r
      → polled_registered sleeps.greatest (option_map seen v) r ≡ by_act v (value_at (machine.if_live v sleeps (λ sleep. machine.after_poll sleep sleeps s by)).table s) r
  polled-tick by None r at is = sym (ap (λ w. by_act None w r) at)
  polled-tick by (Some (fresh n)) r at is = test (nat_le (up n) sleeps.greatest)
    where
      test : (b : Bool) → cond b None (Some (up n)) ≡ by_act (Some (fresh n)) (value_at (cond b (with_sleep sleeps s elapsed) (armed_anew sleeps s (up n) (Some by))).table s) r
      test true = sym is ∙ sym (ap (λ w. by_act (Some (fresh n)) w r) (there sleeps s (fresh n) elapsed at))
      test false = sym (ap (λ w. by_act (Some (fresh n)) w r) (there sleeps s (fresh n) _ at))
  polled-tick by (Some (armed a)) r at is =
      let b : Arming = record { tick = a.tick; arm = a.arm; is_moved = a.is_moved; waker = Some by } in
      sym (ap (λ w. by_act (Some (armed a)) w r) (there sleeps s (armed a) (armed b) at) ∙ same-arm a b r refl)
  polled-tick by (Some elapsed) r at is = sym (ap (λ w. by_act (Some elapsed) w r) at)

  others-polled : (by : ℕ) (v : Option Sleep) (q : ℕ) → q ≢ s → value_at (machine.if_live v sleeps (λ sleep. machine.after_poll sleep sleeps s by)).table q ≡ value_at sleeps.table q
  others-polled by None q apart = refl
  others-polled by (Some (fresh n)) q apart = test (nat_le (up n) sleeps.greatest)
    where
      test : (b : Bool) → value_at (cond b (with_sleep sleeps s elapsed) (armed_anew sleeps s (up n) (Some by))).table q ≡ value_at sleeps.table q
      test true = apart-there sleeps s q _ apart
      test false = apart-there sleeps s q _ apart
  others-polled by (Some (armed a)) q apart = apart-there sleeps s q _ apart
  others-polled by (Some elapsed) q apart = refl

  pub registered-polled : (by : ℕ) → RegistersOnly (registered_of old) (registered_of new) s (polled_registered (sleeps_of old).greatest (value_at (sleeps_of old).table s) (registered_of old s)) → FollowsAct old new sleeps (machine.polled sleeps s by)
  registered-polled by only =
      one-changes old new sleeps (machine.polled sleeps s by) s _ only (others-polled by (value_at sleeps.table s))
      (ap (λ g. polled_registered g (value_at (sleeps_of old).table s) (registered_of old s)) (sym stands.same_greatest)
      ∙ ap (λ v. polled_registered sleeps.greatest v (registered_of old s)) (value-seen old sleeps s stands)
      ∙ polled-tick by (value_at sleeps.table s) (registered_of old s) refl seen-registered)

  reset-tick : (tick : ℕ) (v : Option Sleep) (r : Option ℕ) → value_at sleeps.table s ≡ v → IsRegistered (elapsed_tick old) (option_map seen v) r
      → reset_registered sleeps.greatest tick (option_map seen v) r ≡ by_act v (value_at (machine.if_live v sleeps (λ sleep. after_arming sleep sleeps s tick)).table s) r
  reset-tick tick None r at is = sym (ap (λ w. by_act None w r) at)
  reset-tick tick (Some (fresh n)) r at is = test (nat_le tick sleeps.greatest)
    where
      test : (b : Bool) → cond b None (Some tick) ≡ by_act (Some (fresh n)) (value_at (cond b (with_sleep sleeps s elapsed) (armed_anew sleeps s tick None)).table s) r
      test true = sym is ∙ sym (ap (λ w. by_act (Some (fresh n)) w r) (there sleeps s (fresh n) elapsed at))
      test false = sym (ap (λ w. by_act (Some (fresh n)) w r) (there sleeps s (fresh n) _ at))
  reset-tick tick (Some (armed a)) r at is = test (nat_le tick sleeps.greatest) (nat_le a.tick tick)
    where
      new_arm : a.arm ≢ sleeps.arm_count
      new_arm e = omega (arith, e, stands.arms_below s a at)

      test : (b c : Bool) → cond b None (cond c r (Some tick)) ≡ by_act (Some (armed a)) (value_at (cond b (with_sleep sleeps s elapsed) (cond c (armed_later sleeps s tick a) (armed_anew sleeps s tick a.waker))).table s) r
      test true c = sym (ap (λ w. by_act (Some (armed a)) w r) (there sleeps s (armed a) elapsed at))
      test false true =
          let b : Arming = record { tick = tick; arm = a.arm; is_moved = a.is_moved || nat_lt a.tick tick; waker = a.waker } in
          sym (ap (λ w. by_act (Some (armed a)) w r) (there sleeps s (armed a) (armed b) at) ∙ same-arm a b r refl)
      test false false =
          let b : Arming = record { tick = tick; arm = sleeps.arm_count; is_moved = false; waker = a.waker } in
          sym (ap (λ w. by_act (Some (armed a)) w r) (there sleeps s (armed a) (armed b) at) ∙ other-arm a b r new_arm)
  reset-tick tick (Some elapsed) r at is = test (nat_le tick sleeps.greatest)
    where
      test : (b : Bool) → cond b None (Some tick) ≡ by_act (Some elapsed) (value_at (cond b (with_sleep sleeps s elapsed) (armed_anew sleeps s tick None)).table s) r
      test true = sym is ∙ sym (ap (λ w. by_act (Some elapsed) w r) (there sleeps s elapsed elapsed at))
      test false = sym (ap (λ w. by_act (Some elapsed) w r) (there sleeps s elapsed _ at))

  others-above : (tick : ℕ) (sleep : Sleep) (q : ℕ) → q ≢ s → value_at (armed_above sleep sleeps s tick).table q ≡ value_at sleeps.table q
  others-above tick (fresh n) q apart = apart-there sleeps s q _ apart
  others-above tick (armed a) q apart = test (nat_le a.tick tick)
    where
      test : (c : Bool) → value_at (cond c (armed_later sleeps s tick a) (armed_anew sleeps s tick a.waker)).table q ≡ value_at sleeps.table q
      test true = apart-there sleeps s q _ apart
      test false = apart-there sleeps s q _ apart
  others-above tick elapsed q apart = apart-there sleeps s q _ apart

  others-reset : (tick : ℕ) (v : Option Sleep) (q : ℕ) → q ≢ s → value_at (machine.if_live v sleeps (λ sleep. after_arming sleep sleeps s tick)).table q ≡ value_at sleeps.table q
  others-reset tick None q apart = refl
  others-reset tick (Some sleep) q apart = test (nat_le tick sleeps.greatest)
    where
      test : (b : Bool) → value_at (cond b (with_sleep sleeps s elapsed) (armed_above sleep sleeps s tick)).table q ≡ value_at sleeps.table q
      test true = apart-there sleeps s q _ apart
      test false = others-above tick sleep q apart

  pub registered-reset : (n : ℕ) → RegistersOnly (registered_of old) (registered_of new) s (reset_registered (sleeps_of old).greatest (up n) (value_at (sleeps_of old).table s) (registered_of old s)) → FollowsAct old new sleeps (machine.reset sleeps s n)
  registered-reset n only =
      one-changes old new sleeps (machine.reset sleeps s n) s _ only (others-reset (up n) (value_at sleeps.table s))
      (ap (λ g. reset_registered g (up n) (value_at (sleeps_of old).table s) (registered_of old s)) (sym stands.same_greatest)
      ∙ ap (λ v. reset_registered sleeps.greatest (up n) v (registered_of old s)) (value-seen old sleeps s stands)
      ∙ reset-tick (up n) (value_at sleeps.table s) (registered_of old s) refl seen-registered)

  removed-tick : (v : Option Sleep) (r : Option ℕ) → value_at sleeps.table s ≡ v → IsRegistered (elapsed_tick old) (option_map seen v) r
      → None ≡ by_act v (value_at (machine.if_live v sleeps (λ sleep. without_sleep sleeps s)).table s) r
  removed-tick None r at is = sym is ∙ sym (ap (λ w. by_act None w r) at)
  removed-tick (Some x) r at is = unarmed x is ∙ sym (ap (λ w. by_act (Some x) w r) gone)
    where
      gone : value_at (without_sleep sleeps s).table s ≡ None
      gone = elim (cases_lt s (length sleeps.table)) [
        | inl inside ↦ get_or-set_same sleeps.table s None None inside
        | inr past ↦ absurd (none-some x (sym (get_or_past sleeps.table s None past) ∙ at))
      ]

      unarmed : (sleep : Sleep) → IsRegistered (elapsed_tick old) (option_map seen (Some sleep)) r → None ≡ by_act (Some sleep) None r
      unarmed (fresh n) is = sym is
      unarmed (armed a) is = refl
      unarmed elapsed is = sym is

  others-removed : (v : Option Sleep) (q : ℕ) → q ≢ s → value_at (machine.if_live v sleeps (λ sleep. without_sleep sleeps s)).table q ≡ value_at sleeps.table q
  others-removed None q apart = refl
  others-removed (Some x) q apart = apart-there sleeps s q None apart

  pub registered-removed : RegistersOnly (registered_of old) (registered_of new) s None → FollowsAct old new sleeps (machine.removed sleeps s)
  registered-removed only =
      one-changes old new sleeps (machine.removed sleeps s) s None only (others-removed (value_at sleeps.table s))
      (removed-tick (value_at sleeps.table s) (registered_of old s) refl seen-registered)

-- the sleeps after an act
pub spawn-sleeps : (m : Machine) → (act_outcome act.Spawn m).machine.sleeps ≡ m.sleeps
spawn-sleeps m = elim (is_full m.tasks.table m.tasks.limit) as (λ b. (cond b (refused refusal.AtCapacity m) (answered (reply.Task (next_number m.tasks.table)) (with_tasks m (spawned m.tasks)))).machine.sleeps ≡ m.sleeps) [
  | true ↦ refl
  | false ↦ refl
]

block-by : (b : Blocking) (output : ℕ) (m : Machine) → (block b output m).machine.sleeps ≡ m.sleeps
block-by blocking.Attached output m = refl
block-by blocking.ExecuteLocal output m = refl
block-by blocking.Panic output m = refl

pub block-sleeps : (output : ℕ) (m : Machine) → (act_outcome (act.Block output) m).machine.sleeps ≡ m.sleeps
block-sleeps output m = elim (is_full m.jobs.table m.jobs.limit) as (λ b. (cond b (refused refusal.AtCapacity m) (block m.strategy output m)).machine.sleeps ≡ m.sleeps) [
  | true ↦ refl
  | false ↦ block-by m.strategy output m
]

pub invalid-sleeps : (s n : ℕ) (m : Machine) (v : Option Sleep) → nat_lt max_nanos n ≡ true → (for_sleep v m (cond (nat_lt max_nanos n) (refused refusal.Invalid m) (resetting s n m))).machine.sleeps ≡ m.sleeps
invalid-sleeps s n m None late = refl
invalid-sleeps s n m (Some x) late = ap (λ b. (cond b (refused refusal.Invalid m) (resetting s n m)).machine.sleeps) late

pub reset-sleeps : (s n : ℕ) (m : Machine) → n ≤ max_nanos → (act_outcome (act.Reset s n) m).machine.sleeps ≡ machine.reset m.sleeps s n
reset-sleeps s n m below = by (value_at m.sleeps.table s) refl
  where
    by : (v : Option Sleep) → value_at m.sleeps.table s ≡ v → (for_sleep v m (cond (nat_lt max_nanos n) (refused refusal.Invalid m) (resetting s n m))).machine.sleeps ≡ machine.reset m.sleeps s n
    by None at = sym (ap (λ v. machine.if_live v m.sleeps (λ sleep. after_arming sleep m.sleeps s (up n))) at)
    by (Some x) at = ap (λ b. (cond b (refused refusal.Invalid m) (resetting s n m)).machine.sleeps) (le-ltb max_nanos n below)

pub registered-reset-act : (old new : Timers) (m : Machine) (s n now : ℕ) → now ≡ n → now ≤ max_nanos → StandsForSleeps old m.sleeps
    → RegistersOnly (registered_of old) (registered_of new) s (reset_registered (sleeps_of old).greatest (up now) (value_at (sleeps_of old).table s) (registered_of old s)) → FollowsAct old new m.sleeps (act_outcome (act.Reset s n) m).machine.sleeps
registered-reset-act old new m s n now is below stands only =
    subst (λ k. FollowsAct old new m.sleeps (act_outcome (act.Reset s k) m).machine.sleeps) is
    (subst (λ left. FollowsAct old new m.sleeps left) (sym (reset-sleeps s now m below)) (registered-reset old new m.sleeps stands s now only))

-- a clock step
clock-tick : (e g : ℕ) (v : Option Sleep) (r : Option ℕ) → stepped_registered e g (option_map seen v) r ≡ by_clock e g v r
clock-tick e g None r = refl
clock-tick e g (Some (fresh n)) r = refl
clock-tick e g (Some (armed a)) None = refl
clock-tick e g (Some (armed a)) (Some r) = refl
clock-tick e g (Some elapsed) r = refl

pub registered-clock : (old new : Timers) (m : Machine) (n : ℕ) → StandsForSleeps old m.sleeps → elapsed_tick old ≡ (sleeps_of old).greatest → elapsed_tick new ≡ greatest_at m n
    → (s : ℕ) → registered_of new s ≡ stepped_registered (elapsed_tick old) (elapsed_tick new) (value_at (sleeps_of old).table s) (registered_of old s)
    → registered_of new s ≡ by_clock m.sleeps.greatest (greatest_at m n) (value_at m.sleeps.table s) (registered_of old s)
registered-clock old new m n stands rest reached s stepped =
    stepped ∙ ap (λ v. stepped_registered (elapsed_tick old) (elapsed_tick new) v (registered_of old s)) (value-seen old m.sleeps s stands)
    ∙ clock-tick (elapsed_tick old) (elapsed_tick new) (value_at m.sleeps.table s) (registered_of old s)
    ∙ ap (λ e. by_clock e (elapsed_tick new) (value_at m.sleeps.table s) (registered_of old s)) (rest ∙ sym stands.same_greatest)
    ∙ ap (λ g. by_clock m.sleeps.greatest g (value_at m.sleeps.table s) (registered_of old s)) reached

pub clock-on : (old new : Timers) (m : Machine) (n now : ℕ) → now ≡ n → now ≤ max_nanos → StandsForSleeps old m.sleeps → elapsed_tick old ≡ (sleeps_of old).greatest → elapsed_tick new ≡ greatest_at m now
    → (s : ℕ) → registered_of new s ≡ stepped_registered (elapsed_tick old) (elapsed_tick new) (value_at (sleeps_of old).table s) (registered_of old s)
    → registered_of new s ≡ registered_after (event.Clock n) m s (registered_of old s)
clock-on old new m n now is below stands rest reached s stepped =
    subst (λ k. registered_of new s ≡ registered_after (event.Clock k) m s (registered_of old s)) is
    (registered-clock old new m now stands rest reached s stepped ∙ sym (ap (λ b. cond b (registered_of old s) (by_clock m.sleeps.greatest (greatest_at m now) (value_at m.sleeps.table s) (registered_of old s))) (le-ltb max_nanos now below)))

-- one more step of a turn
pub steps-more : (me : ℕ) (steps : List TurnStep) (i : ℕ) (d : TurnStep) (mid : Machine) (s : ℕ) (before after all : Option ℕ) → i < length steps
    → after ≡ registered_by_act mid.sleeps (step_outcome me (get_or steps i d) mid).machine.sleeps s before → registered_by_steps me (drop i steps) mid s before ≡ all
    → registered_by_steps me (drop (i + 1) steps) (step_outcome me (get_or steps i d) mid).machine s after ≡ all
steps-more me steps i d mid s before after all inside is told =
    ap (registered_by_steps me (drop (i + 1) steps) (step_outcome me (get_or steps i d) mid).machine s) is
    ∙ ap (λ xs. registered_by_steps me xs mid s before) (sym (first_and_rest steps i d inside)) ∙ told

-- the next expiration between two events
unregistered : (e : ℕ) (v : Option table.Kept) (r : Option ℕ) → IsRegistered e v r → ((tick : ℕ) (waker : Option ℕ) → v ≡ Some (table.armed tick waker) → ⊥) → r ≡ None
unregistered e None r is none = is
unregistered e (Some (table.fresh tick)) r is none = is
unregistered e (Some (table.armed tick waker)) r is none = absurd (none tick waker refl)
unregistered e (Some table.elapsed) r is none = is

pub next-is : (timers : Timers) (greatest : ℕ) (answer : Option ℕ) → IsNoneArmedUpTo (sleeps_of timers) → elapsed_tick timers ≡ (sleeps_of timers).greatest → (sleeps_of timers).greatest ≡ greatest
    → NextExpiration (elapsed_tick timers) (registered_of timers) (sleeps_of timers) answer → IsNext greatest (registered_of timers) answer
next-is timers greatest None none rest same next = λ s. unregistered (elapsed_tick timers) (value_at (sleeps_of timers).table s) (registered_of timers s) (all-registered timers s) (next s)
next-is timers greatest (Some next) none rest same (inl (pending, is)) = absurd (omega (arith, rest, none pending.0 (elapsed_tick timers) pending.1.0 pending.1.1))
next-is timers greatest (Some next) none rest same (inr (not_one, first)) = subst (λ g. FirstSlot g (registered_of timers) next) (rest ∙ same) first

-- No actor waits for a tick that has come.
use Rattle.std.proofs.Common.{◌≡◌, ◌≢◌, ◌<◌, ◌⊎◌, inl, inr, ℕ, ◌+◌, zero, suc, true, false, Bool, cond, List, [], ◌∷◌, length, Some, None, Option, refl, ap, sym, subst, ◌∙◌, arith}
use Rattle.std.specs.Prelude.{⊤, Result, Ok, Err, ◌==◌, nat_le, nat_lt, max, Contains, IfSome}
use Rattle.std.proofs.lemmas.Bool.{cases_eq, cases_lt}
use Rattle.std.proofs.lemmas.Bool.Decides.{eqb_tells}
use Rattle.std.proofs.lemmas.List.{get_or-set_other, get_or-set_same, get_or_past, length-set}
use Rattle.mono_model.specs.Table.{Table, value_at, with_next, with_value, without}
use Rattle.mono_model.specs.Due.{HasCome}
use Rattle.mono_actor.specs.Actors.{Mode, idle, queued, running, Actor, Actors, no_actors, with_actor, with_table, in_mode, queued_last, is_idle, wait_from, last_tick, mode_with, if_granted, spawn_answer, send_answer, with_letter, received_value, timed_value, begun_for, begun_table, rest_of, ended_value, no_turn}
use Rattle.mono_actor.specs.Calls.{Call}
use Rattle.mono_actor.specs.Calls as call
use Rattle.mono_actor.specs.Answers.{Answer}
use Rattle.mono_actor.specs.Answers as answer
use Rattle.mono_actor.specs.Steps.{waiting_in, waiting_value, queued_value, all_queued, at_tick, greatest_at, ClockStep, EndStep, Step, Run}
use Rattle.mono_actor.specs.Laws.{NoneIsEverLate}
use Rattle.mono_actor.specs.declared.answers.ActorError.{ActorError}

none-some : {X : Type 0} (x : X) → None ≡ Some x → ⊥
none-some x e = cc

same-tick : (a b : ℕ) → Some a ≡ Some b → a ≡ b
same-tick a b e = cc

-- An actor that waits from now on waits for a later tick.
abbrev IsLater : ℕ → Option ℕ → Type 0
IsLater g v = (tick : ℕ) → v ≡ Some tick → g < tick

waits_later : (g timeout : ℕ) → IsLater g (wait_from g timeout)
waits_later g timeout = elim (eqb_tells timeout 0) [
  | inl t ↦ (λ tick at. absurd (none-some tick (sym (ap (λ b. cond b None (cond (nat_lt last_tick (g + timeout)) None (Some (g + timeout)))) t.0) ∙ at)))
  | inr t ↦ (λ tick at. by (nat_lt last_tick (g + timeout)) tick (sym (ap (λ b. cond b None (cond (nat_lt last_tick (g + timeout)) None (Some (g + timeout)))) t.0) ∙ at) t.1)
]
  where
    by : (b : Bool) (tick : ℕ) → cond b None (Some (g + timeout)) ≡ Some tick → timeout ≢ 0 → g < tick
    by true tick at some = absurd (none-some tick at)
    by false tick at some = omega (arith, same-tick (g + timeout) tick at, some)

not_waiting : (g tick : ℕ) → None ≡ Some tick → g < tick
not_waiting g tick e = absurd (none-some tick e)

mode_early : (g ms : ℕ) (mode : Mode) → IsLater g (waiting_in (mode_with g ms mode))
mode_early g ms (idle waits_for) = waits_later g ms
mode_early g ms queued = not_waiting g
mode_early g ms running = not_waiting g

early_or_come : (g : ℕ) (v : Option ℕ) → IsLater g v ⊎ HasCome g v
early_or_come g None = inl (not_waiting g)
early_or_come g (Some tick) = elim (cases_lt g tick) [
  | inl before ↦ inl (λ t same. omega (arith, before, same-tick tick t same))
  | inr come ↦ inr come
]

with_next_all : {V : Type 0} (P : V → Type 0) (table : Table V) (new : V) → ((s : ℕ) (v : V) → value_at table s ≡ Some v → P v) → P new → (s : ℕ) (v : V) → value_at (with_next table new) s ≡ Some v → P v
with_next_all P [] new all fits zero v at = subst P (unsome new v at) fits
  where
    unsome : {V : Type 0} (x y : V) → Some x ≡ Some y → x ≡ y
    unsome x y e = cc
with_next_all P [] new all fits (suc s) v at = absurd (none-some v at)
with_next_all P (x ∷ xs) new all fits zero v at = all 0 v at
with_next_all P (x ∷ xs) new all fits (suc s) v at = with_next_all P xs new (λ q w. all (suc q) w) fits s v at

set_all : {V : Type 0} (P : V → Type 0) (table : Table V) (i : ℕ) (w : Option V) → ((s : ℕ) (v : V) → value_at table s ≡ Some v → P v) → ((v : V) → w ≡ Some v → P v)
    → (s : ℕ) (v : V) → value_at (Rattle.std.specs.Prelude.set table i w) s ≡ Some v → P v
set_all P table i w all fits s v at = elim (cases_eq s i) [
  | inr apart ↦ all s v (sym (get_or-set_other table i s w None apart) ∙ at)
  | inl same ↦ elim (cases_lt i (length table)) [
    | inl inside ↦ fits v (sym (ap (value_at (Rattle.std.specs.Prelude.set table i w)) same ∙ get_or-set_same table i w None inside) ∙ at)
    | inr past ↦ absurd (none-some v (sym (get_or_past (Rattle.std.specs.Prelude.set table i w) s None (omega (arith, same, past, length-set table i w))) ∙ at))
  ]
]

module _ {M : Type 0} where
  same-actor : (x y : Actor M) → Some x ≡ Some y → x ≡ y
  same-actor x y e = cc

  abbrev IsEarly : ℕ → Actor M → Type 0
  IsEarly g actor = IsLater g (waiting_in actor.mode)

  abbrev AreEarly : ℕ → Table (Actor M) → Type 0
  AreEarly g table = (a : ℕ) (actor : Actor M) → value_at table a ≡ Some actor → IsEarly g actor

  set_early : (g : ℕ) (table : Table (Actor M)) (a : ℕ) (new : Actor M) → AreEarly g table → IsEarly g new → AreEarly g (with_value table a new)
  set_early g table a new all fits = set_all (IsEarly g) table a (Some new) all (λ v same. subst (IsEarly g) (same-actor new v same) fits)

  gone_early : (g : ℕ) (table : Table (Actor M)) (a : ℕ) → AreEarly g table → AreEarly g (without table a)
  gone_early g table a all = set_all (IsEarly g) table a None all (λ v same. absurd (none-some v same))

  abbrev Early : Actors M → Type 0
  Early actors = AreEarly actors.greatest actors.table

  either_way : {A : Type 0} (r : Result A ActorError) (before after : Actors M) → Early before → Early after → Early (if_granted r before after)
  either_way (Ok x) before after old new = new
  either_way (Err e) before after old new = old

  received_early : (v : Option (Actor M)) (old : Actors M) (from to : ℕ) (message : M) → value_at old.table to ≡ v → Early old → Early (received_value v old from to message)
  received_early None old from to message at early = early
  received_early (Some actor) old from to message at early = by (is_idle actor.mode)
    where
      by : (b : Bool) → Early (cond b (queued_last old to (with_letter actor from message)) (with_actor old to (with_letter actor from message)))
      by true = set_early old.greatest old.table to (in_mode (with_letter actor from message) queued) early (not_waiting old.greatest)
      by false = set_early old.greatest old.table to (with_letter actor from message) early (early to actor at)

  timed_early : (v : Option (Actor M)) (old : Actors M) (a ms : ℕ) → Early old → Early (timed_value v old a ms)
  timed_early None old a ms early = early
  timed_early (Some actor) old a ms early = set_early old.greatest old.table a _ early (mode_early old.greatest ms actor.mode)

  begun_early : (v : Option (Actor M)) (g : ℕ) (table : Table (Actor M)) (front : ℕ) → AreEarly g table → AreEarly g (begun_table v table front)
  begun_early None g table front early = early
  begun_early (Some actor) g table front early = set_early g table front (record { mode = running; mailbox = rest_of actor.mailbox; timeout = actor.timeout }) early (not_waiting g)

  queue_early : (queue : List ℕ) (old : Actors M) → Early old → Early (begun_for queue old)
  queue_early [] old early = early
  queue_early (front ∷ rest) old early = begun_early (value_at old.table front) old.greatest old.table front early

  ended_early : (stop : Bool) (v : Option (Actor M)) (actors : Actors M) (me : ℕ) → Early actors → Early (ended_value stop v actors me)
  ended_early true v actors me early = gone_early actors.greatest actors.table me early
  ended_early false None actors me early = early
  ended_early false (Some actor) actors me early = by (length actor.mailbox == 0)
    where
      by : (b : Bool) → Early (cond b (with_actor actors me (in_mode actor (idle (wait_from actors.greatest actor.timeout)))) (queued_last actors me actor))
      by true = set_early actors.greatest actors.table me (in_mode actor (idle (wait_from actors.greatest actor.timeout))) early (waits_later actors.greatest actor.timeout)
      by false = set_early actors.greatest actors.table me (in_mode actor queued) early (not_waiting actors.greatest)

  -- A clock step: a listed actor no longer waits, and the others are not due.
  abbrev Waits : ℕ → List ℕ → Table (Actor M) → Type 0
  Waits g due table = (a : ℕ) (actor : Actor M) → value_at table a ≡ Some actor → IsEarly g actor ⊎ Contains due a

  one_less : (g x : ℕ) (due : List ℕ) (v : Option (Actor M)) (actors : Actors M) → value_at actors.table x ≡ v → Waits g (x ∷ due) actors.table → Waits g due (queued_value v actors x).table
  one_less g x due None actors at waits a actor its = elim (waits a actor its) [
    | inl early ↦ inl early
    | inr c ↦ inr (later c)
  ]
    where
      later : Contains (x ∷ due) a → Contains due a
      later (zero, inside, same) = absurd (none-some actor (sym at ∙ ap (value_at actors.table) same ∙ its))
      later (suc k, inside, same) = (k, omega (arith, inside), same)
  one_less g x due (Some was) actors at waits a actor its = elim (cases_eq a x) [
    | inl same ↦ inl (subst (IsEarly g) (same-actor (in_mode was queued) actor (sym (ap (value_at (with_value actors.table x (in_mode was queued))) same ∙ get_or-set_same actors.table x (Some (in_mode was queued)) None (given x was at)) ∙ its)) (not_waiting g))
    | inr apart ↦ elim (waits a actor (sym (get_or-set_other actors.table x a (Some (in_mode was queued)) None apart) ∙ its)) [
      | inl early ↦ inl early
      | inr c ↦ inr (later c apart)
    ]
  ]
    where
      given : (s : ℕ) (v : Actor M) → value_at actors.table s ≡ Some v → s < length actors.table
      given s v is = elim (cases_lt s (length actors.table)) [ inl inside ↦ inside | inr past ↦ absurd (none-some v (sym (get_or_past actors.table s None past) ∙ is)) ]

      later : Contains (x ∷ due) a → (a ≢ x) → Contains due a
      later (zero, inside, same) apart = absurd (apart (sym same))
      later (suc k, inside, same) apart = (k, omega (arith, inside), same)

  queued_tick : (v : Option (Actor M)) (actors : Actors M) (x : ℕ) → (queued_value v actors x).greatest ≡ actors.greatest
  queued_tick None actors x = refl
  queued_tick (Some actor) actors x = refl

  all_tick : (actors : Actors M) (due : List ℕ) → (all_queued actors due).greatest ≡ actors.greatest
  all_tick actors [] = refl
  all_tick actors (x ∷ due) = all_tick (queued_value (value_at actors.table x) actors x) due ∙ queued_tick (value_at actors.table x) actors x

  all_early : (g : ℕ) (actors : Actors M) (due : List ℕ) → Waits g due actors.table → AreEarly g (all_queued actors due).table
  all_early g actors [] waits = λ a actor at. elim (waits a actor at) [ inl early ↦ early | inr c ↦ absurd (omega (arith, c.1)) ]
  all_early g actors (x ∷ due) waits = all_early g (queued_value (value_at actors.table x) actors x) due (one_less g x due (value_at actors.table x) actors refl waits)

  clock_early : (old : Actors M) (n : ℕ) (told : Answer M) (mid : Actors M) → ClockStep old n told mid → Early old → Early mid
  clock_early old n (answer.Due due) mid step early =
      let g : ℕ = greatest_at old n in
      subst Early (sym step.3)
      (subst (λ t. AreEarly t (all_queued (at_tick old g) due).table) (sym (all_tick (at_tick old g) due))
      (all_early g (at_tick old g) due (λ a actor at. elim (early_or_come g (waiting_in actor.mode)) [
        | inl later ↦ inl later
        | inr come ↦ inr ((step.2.all_due a).1 (subst (λ v. HasCome g (waiting_value v)) (sym at) come))
      ])))
  clock_early old n answer.Invalid mid step early = subst Early (sym step.2) early
  clock_early old n (answer.Refused e) mid step early = absurd step
  clock_early old n (answer.Actor x) mid step early = absurd step
  clock_early old n (answer.Posted what) mid step early = absurd step
  clock_early old n answer.Done mid step early = absurd step
  clock_early old n (answer.Turn x got) mid step early = absurd step
  clock_early old n (answer.Ended how) mid step early = absurd step

  turn_early : (turn : Option ℕ) (stop : Bool) (old : Actors M) (told : Answer M) (mid : Actors M) → EndStep turn stop old told mid → Early old → Early mid
  turn_early None stop old told mid step early = absurd step
  turn_early (Some me) stop old told mid step early = subst Early (sym step.1) (ended_early stop (value_at old.table me) (no_turn old) me early)

  step_early : (old : Actors M) (c : Call M) (told : Answer M) (mid : Actors M) → Step old c told mid → Early old → Early mid
  step_early old call.Spawn told mid step early =
      subst Early (sym step.1) (either_way (spawn_answer old) old (with_table old (with_next old.table (record { mode = idle None; mailbox = []; timeout = 0 }))) early
      (with_next_all (IsEarly old.greatest) old.table (record { mode = idle None; mailbox = []; timeout = 0 }) early (not_waiting old.greatest)))
  step_early old (call.Send from to message) told mid step early =
      subst Early (sym step.1) (either_way (send_answer old from to) old _ early (received_early (value_at old.table to) old from to message refl early))
  step_early old (call.Timeout x ms) told mid step early = subst Early (sym step.1) (timed_early (value_at old.table x) old x ms early)
  step_early old call.Begin told mid step early = subst Early (sym step.2) (queue_early old.queue old early)
  step_early old (call.End stop) told mid step early = turn_early old.turn stop old told mid step early
  step_early old (call.Clock n) told mid step early = clock_early old n told mid step early

  run_early : (calls : List (Call M)) (answers : List (Answer M)) (old new : Actors M) → Run old calls answers new → Early old → Early new
  run_early [] [] old new run early = subst Early (sym run) early
  run_early [] (told ∷ answers) old new run early = absurd run
  run_early (c ∷ calls) [] old new run early = absurd run
  run_early (c ∷ calls) (told ∷ answers) old new (mid, step, run) early = run_early calls answers mid new run (step_early old c told mid step early)

  each_wait : (v : Option (Actor M)) (g : ℕ) → ((actor : Actor M) → v ≡ Some actor → IsEarly g actor) → IfSome (waiting_value v) (λ tick. g < tick)
  each_wait None g all = tt
  each_wait (Some actor) g all = by (waiting_in actor.mode) refl
    where
      by : (w : Option ℕ) → waiting_in actor.mode ≡ w → IfSome w (λ tick. g < tick)
      by None is = tt
      by (Some tick) is = all actor refl tick is

pub none_is_ever_late : (M : Type 0) → NoneIsEverLate M
none_is_ever_late M calls answers most_actors most_messages new a run =
    each_wait (value_at new.table a) new.greatest (run_early calls answers (no_actors most_actors most_messages) new run (λ q actor at. absurd (none-some actor at)) a)

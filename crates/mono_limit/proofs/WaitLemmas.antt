-- When the wait of a retry ends.
use Rattle.std.proofs.Common.{◌≡◌, ◌≢◌, ◌<◌, ◌≤◌, ◌⊎◌, inl, inr, ℕ, zero, suc, true, false, Bool, cond, List, [], ◌∷◌, length, Some, None, Option, refl, ap, sym, subst, ◌∙◌, arith}
use Rattle.std.specs.Prelude.{⊤, Result, Ok, Err, max, nat_le, ◌==◌, ◌||◌, AllPairs, Contains, IfSome}
use Rattle.std.proofs.lemmas.Bool.{cases_eq, cases_lt}
use Rattle.std.proofs.lemmas.Bool.Decides.{leb_tells, eqb_tells}
use Rattle.std.proofs.lemmas.List.{get_or-set_other, get_or-set_same, get_or_past, length-append}
use Rattle.mono_model.specs.Table.{Table, value_at, with_next}
use Rattle.mono_model.specs.Due.{HasCome}
use Rattle.mono_model.specs.Valid.{times, once_if}
use Rattle.mono_limit.specs.Buckets.{Bucket}
use Rattle.mono_limit.specs.declared.schedules.Schedule.{Schedule}
use Rattle.mono_limit.specs.Schedules.{waiting_value, new_retry, at_once}
use Rattle.mono_limit.specs.Limiter.{Limits, if_granted, bucket_answer, TakesFrom, retry_answer, fail_answer, failed_value, done_answer}
use Rattle.mono_limit.specs.Calls.{Call}
use Rattle.mono_limit.specs.Calls as call
use Rattle.mono_limit.specs.Answers.{Answer, of_bucket, of_take, of_retry, of_fail, of_done}
use Rattle.mono_limit.specs.Answers as answer
use Rattle.mono_limit.specs.Steps.{waiting_at, greatest_at, at_tick, ended_value, after_waits, ClockStep, Step, Run}
use Rattle.mono_limit.specs.Laws.{is_on, has_call_on, due_by, times_due, DueInTime, NoneDueUnasked}
use Rattle.mono_limit.specs.declared.LimitError.{LimitError}
use Rattle.mono_limit.specs.declared.Take.{Take}
use Rattle.mono_limit.specs.declared.Next.{Next}
use Rattle.mono_limit.specs.declared.Next.TheVariants.{Again, GaveUp}

true-false : true ≡ false → ⊥
true-false e = cc

none-some : {X : Type 0} (x : X) → None ≡ Some x → ⊥
none-some x e = cc

-- ---- lists
pub times-none : (xs : List ℕ) (s : ℕ) → (Contains xs s → ⊥) → times xs s ≡ 0
times-none [] s out = refl
times-none (x ∷ xs) s out = elim (eqb_tells x s) [
  | inl t ↦ absurd (out (0, omega arith, t.1))
  | inr t ↦ omega (arith, ap once_if t.0, times-none xs s (λ c. out (suc c.0, omega (arith, c.1), c.2)))
]

pub times-once : (xs : List ℕ) (s : ℕ) → AllPairs (λ a b. a ≢ b) xs → Contains xs s → times xs s ≡ 1
times-once [] s pairs (k, inside, at) = absurd (omega (arith, inside))
times-once (x ∷ xs) s pairs c = elim (eqb_tells x s) [
  | inl t ↦ omega (arith, ap once_if t.0, times-none xs s (λ more. pairs 0 (suc more.0) s (omega arith) (omega (arith, more.1)) (t.1 ∙ sym more.2)))
  | inr t ↦ omega (arith, ap once_if t.0, times-once xs s (λ i j d below inside. pairs (suc i) (suc j) d (omega (arith, below)) (omega (arith, inside))) (later c t.1))
]
  where
    later : (c : Contains (x ∷ xs) s) → (x ≢ s) → Contains xs s
    later (zero, inside, at) apart = absurd (apart at)
    later (suc k, inside, at) apart = (k, omega (arith, inside), at)

pub is_in_or_out : (xs : List ℕ) (s : ℕ) → Contains xs s ⊎ (Contains xs s → ⊥)
is_in_or_out [] s = inr (λ c. omega (arith, c.1))
is_in_or_out (x ∷ xs) s = elim (cases_eq x s) [
  | inl same ↦ inl (0, omega arith, same)
  | inr apart ↦ elim (is_in_or_out xs s) [
    | inl c ↦ inl (suc c.0, omega (arith, c.1), c.2)
    | inr out ↦ inr (out_of out apart)
  ]
]
  where
    out_of : (Contains xs s → ⊥) → (x ≢ s) → Contains (x ∷ xs) s → ⊥
    out_of out apart (zero, inside, at) = apart at
    out_of out apart (suc k, inside, at) = out (k, omega (arith, inside), at)

given : {V : Type 0} (table : Table V) (s : ℕ) (v : V) → value_at table s ≡ Some v → s < length table
given table s v at = elim (cases_lt s (length table)) [ inl inside ↦ inside | inr past ↦ absurd (none-some v (sym (get_or_past table s None past) ∙ at)) ]

value_before : {V : Type 0} (table : Table V) (v : V) (s : ℕ) → s < length table → value_at (with_next table v) s ≡ value_at table s
value_before [] v s inside = absurd (omega (arith, inside))
value_before (x ∷ xs) v zero inside = refl
value_before (x ∷ xs) v (suc s) inside = value_before xs v s (omega (arith, inside))

pub value_last : {V : Type 0} (table : Table V) (v : V) → value_at (with_next table v) (length table) ≡ Some v
value_last [] v = refl
value_last (x ∷ xs) v = value_last xs v

not_on : (a s : ℕ) → (a == s) ≡ false → s ≢ a
not_on a s e = elim (eqb_tells a s) [ inl t ↦ absurd (true-false (sym t.0 ∙ e)) | inr t ↦ λ same. t.1 (sym same) ]

or_left : (a b : Bool) → (a || b) ≡ false → a ≡ false
or_left true b e = e
or_left false b e = refl

or_right : (a b : Bool) → (a || b) ≡ false → b ≡ false
or_right true b e = absurd (true-false e)
or_right false b e = e

-- ---- a call that is not on the retry leaves its wait and the clock
abbrev Stays : Limits → ℕ → Limits → Type 0
Stays old r new = (waiting_at new r ≡ waiting_at old r) × (new.greatest ≡ old.greatest)

module _ (old : Limits) (r : ℕ) where
  either_way : {A : Type 0} (result : Result A LimitError) (after : Limits) → Stays old r after → Stays old r (if_granted result old after)
  either_way (Ok x) after stays = stays
  either_way (Err e) after stays = (refl, refl)

  new_waits_not : (base cap most : ℕ) → waiting_value (value_at (with_next old.retries (new_retry base cap most)) r) ≡ waiting_at old r
  new_waits_not base cap most = elim (cases_lt r (length old.retries)) [
    | inl inside ↦ ap waiting_value (value_before old.retries (new_retry base cap most) r inside)
    | inr past ↦ elim (cases_eq r (length old.retries)) [
      | inl last ↦ ap (λ q. waiting_value (value_at (with_next old.retries (new_retry base cap most)) q)) last ∙ ap waiting_value (value_last old.retries (new_retry base cap most)) ∙ sym (ap waiting_value (get_or_past old.retries r None past))
      | inr later ↦
          ap waiting_value (get_or_past (with_next old.retries (new_retry base cap most)) r None (omega (arith, past, later, length-append old.retries (Some (new_retry base cap most) ∷ []))))
          ∙ sym (ap waiting_value (get_or_past old.retries r None past))
    ]
  ]

  set_other : (other : ℕ) (w : Option Schedule) → r ≢ other → waiting_value (value_at (Rattle.std.specs.Prelude.set old.retries other w) r) ≡ waiting_at old r
  set_other other w apart = ap waiting_value (get_or-set_other old.retries other r w None apart)

  of_failed : (v : Option Schedule) (result : Result Next LimitError) (other : ℕ) → r ≢ other → Stays old r (failed_value v result old other)
  of_failed None result other apart = (refl, refl)
  of_failed (Some retry) (Ok (Again tick)) other apart = (set_other other _ apart, refl)
  of_failed (Some retry) (Ok GaveUp) other apart = (set_other other None apart, refl)
  of_failed (Some retry) (Err e) other apart = (refl, refl)

  of_takes : (v : Option Bucket) (from n : ℕ) (result : Result Take LimitError) (mid : Limits) → TakesFrom v old from n result mid → Stays old r mid
  of_takes None from n result mid (refused, stays) = (ap (λ l. waiting_at l r) stays, ap (λ (l : Limits). l.greatest) stays)
  of_takes (Some bucket) from n (Ok take) mid (fits, (left, takes, goes)) = (ap (λ l. waiting_at l r) goes, ap (λ (l : Limits). l.greatest) goes)
  of_takes (Some bucket) from n (Err e) mid (much, refused, stays) = (ap (λ l. waiting_at l r) stays, ap (λ (l : Limits). l.greatest) stays)

  moved : (mid x : Limits) → mid ≡ x → Stays old r x → Stays old r mid
  moved mid x same stays = subst (Stays old r) (sym same) stays

-- ---- a clock step ends the waits of those that it lists
ended_other : (v : Option Schedule) (limits : Limits) (x r : ℕ) → r ≢ x → waiting_at (ended_value v limits x) r ≡ waiting_at limits r
ended_other None limits x r apart = refl
ended_other (Some retry) limits x r apart = ap waiting_value (get_or-set_other limits.retries x r (Some (at_once retry)) None apart)

ended_here : (v : Option Schedule) (limits : Limits) (x : ℕ) → value_at limits.retries x ≡ v → waiting_at (ended_value v limits x) x ≡ None
ended_here None limits x at = ap waiting_value at
ended_here (Some retry) limits x at = ap waiting_value (get_or-set_same limits.retries x (Some (at_once retry)) None (given limits.retries x retry at))

ended_greatest : (v : Option Schedule) (limits : Limits) (x : ℕ) → (ended_value v limits x).greatest ≡ limits.greatest
ended_greatest None limits x = refl
ended_greatest (Some retry) limits x = refl

pub all_greatest : (limits : Limits) (due : List ℕ) → (after_waits limits due).greatest ≡ limits.greatest
all_greatest limits [] = refl
all_greatest limits (x ∷ due) = all_greatest (ended_value (value_at limits.retries x) limits x) due ∙ ended_greatest (value_at limits.retries x) limits x

all_none : (limits : Limits) (due : List ℕ) (r : ℕ) → waiting_at limits r ≡ None → waiting_at (after_waits limits due) r ≡ None
all_none limits [] r none = none
all_none limits (x ∷ due) r none = all_none (ended_value (value_at limits.retries x) limits x) due r (elim (cases_eq r x) [
  | inl same ↦ ap (waiting_at (ended_value (value_at limits.retries x) limits x)) same ∙ ended_here (value_at limits.retries x) limits x refl
  | inr apart ↦ ended_other (value_at limits.retries x) limits x r apart ∙ none
])

pub all_others : (limits : Limits) (due : List ℕ) (r : ℕ) → (Contains due r → ⊥) → waiting_at (after_waits limits due) r ≡ waiting_at limits r
all_others limits [] r out = refl
all_others limits (x ∷ due) r out =
    all_others (ended_value (value_at limits.retries x) limits x) due r (λ c. out (suc c.0, omega (arith, c.1), c.2)) ∙ ended_other (value_at limits.retries x) limits x r (λ same. out (0, omega arith, sym same))

pub all_ended : (limits : Limits) (due : List ℕ) (r : ℕ) → Contains due r → waiting_at (after_waits limits due) r ≡ None
all_ended limits [] r (k, within, at) = absurd (omega (arith, within))
all_ended limits (x ∷ due) r (zero, within, at) =
    all_none (ended_value (value_at limits.retries x) limits x) due r (ap (waiting_at (ended_value (value_at limits.retries x) limits x)) (sym at) ∙ ended_here (value_at limits.retries x) limits x refl)
all_ended limits (x ∷ due) r (suc k, within, at) = all_ended (ended_value (value_at limits.retries x) limits x) due r (k, omega (arith, within), at)

-- ---- no other answer lists a retry
due-bucket : (x : Result ℕ LimitError) (r : ℕ) → times (due_by (of_bucket x)) r ≡ 0
due-bucket (Ok b) r = refl
due-bucket (Err e) r = refl

due-take : (x : Result Take LimitError) (r : ℕ) → times (due_by (of_take x)) r ≡ 0
due-take (Ok take) r = refl
due-take (Err e) r = refl

due-retry : (x : Result ℕ LimitError) (r : ℕ) → times (due_by (of_retry x)) r ≡ 0
due-retry (Ok b) r = refl
due-retry (Err e) r = refl

due-fail : (x : Result Next LimitError) (r : ℕ) → times (due_by (of_fail x)) r ≡ 0
due-fail (Ok next) r = refl
due-fail (Err e) r = refl

due-done : (x : Result ⊤ LimitError) (r : ℕ) → times (due_by (of_done x)) r ≡ 0
due-done (Ok u) r = refl
due-done (Err e) r = refl

none_due : (a b : Answer) (r : ℕ) → a ≡ b → times (due_by b) r ≡ 0 → times (due_by a) r ≡ 0
none_due a b r same none = ap (λ x. times (due_by x) r) same ∙ none

-- The wait continues, or has ended.
abbrev GoesOn : Limits → ℕ → Answer → Limits → Type 0
GoesOn old r a mid = (waiting_at mid r ≡ waiting_at old r) × (times (due_by a) r ≡ 0) × (old.greatest ≤ mid.greatest) × ((tick : ℕ) → waiting_at old r ≡ Some tick → old.greatest < tick → mid.greatest < tick)

abbrev HasEnded : Limits → ℕ → Answer → Limits → Type 0
HasEnded old r a mid = (tick : ℕ) × (waiting_at old r ≡ Some tick) × (waiting_at mid r ≡ None) × (times (due_by a) r ≡ 1) × (tick ≤ mid.greatest) × (old.greatest ≤ mid.greatest)

come_with : (g : ℕ) (v : Option ℕ) → HasCome g v → (tick : ℕ) × (v ≡ Some tick) × (tick ≤ g)
come_with g None come = absurd come
come_with g (Some tick) come = (tick, refl, come)

module _ (old : Limits) (r : ℕ) where
  goes_on : (a b : Answer) (mid : Limits) → a ≡ b → times (due_by b) r ≡ 0 → Stays old r mid → GoesOn old r a mid
  goes_on a b mid same none stays = (stays.0, none_due a b r same none, omega (arith, stays.1), λ tick at early. omega (arith, early, stays.1))

  clock_goes : (n : ℕ) (a : Answer) (mid : Limits) → ClockStep old n a mid → GoesOn old r a mid ⊎ HasEnded old r a mid
  clock_goes n (answer.Due due) mid step =
      let g : ℕ = greatest_at old n in
      let grown : mid.greatest ≡ g = ap (λ (l : Limits). l.greatest) step.2 ∙ all_greatest (at_tick old g) due in
      elim (is_in_or_out due r) [
        | inl c ↦ (
            let come = come_with g (waiting_at old r) ((step.1.all_due r).0 c) in
            inr (come.0, come.1, ap (λ l. waiting_at l r) step.2 ∙ all_ended (at_tick old g) due r c, times-once due r step.1.no_doubles c, omega (arith, come.2, grown), omega (arith, grown)))
        | inr out ↦ inl (
          ap (λ l. waiting_at l r) step.2 ∙ all_others (at_tick old g) due r out,
          times-none due r out,
          omega (arith, grown),
          λ tick at early. elim (cases_lt g tick) [
            | inl before ↦ omega (arith, before, grown)
            | inr come ↦ absurd (out ((step.1.all_due r).1 (subst (HasCome g) (sym at) come)))
          ],
        )
      ]
  clock_goes n (answer.Refused e) mid step = inl (goes_on (answer.Refused e) (answer.Refused e) mid refl refl (moved old r mid old step.2 (refl, refl)))
  clock_goes n (answer.Bucket b) mid step = absurd step
  clock_goes n (answer.Took take) mid step = absurd step
  clock_goes n (answer.Retry q) mid step = absurd step
  clock_goes n (answer.Failed next) mid step = absurd step
  clock_goes n answer.Done mid step = absurd step

  step_goes : (c : Call) (a : Answer) (mid : Limits) → is_on r c ≡ false → Step old c a mid → GoesOn old r a mid ⊎ HasEnded old r a mid
  step_goes (call.Bucket burst period) a mid off step = inl (goes_on a _ mid step.0 (due-bucket _ r) (moved old r mid _ step.1 (either_way old r (bucket_answer old burst period) _ (refl, refl))))
  step_goes (call.Take b n) a mid off (result, told, takes) = inl (goes_on a _ mid told (due-take _ r) (of_takes old r (value_at old.buckets b) b n result mid takes))
  step_goes (call.Retry base cap most) a mid off step =
      inl (goes_on a _ mid step.0 (due-retry _ r) (moved old r mid _ step.1 (either_way old r (retry_answer old base cap most) _ (new_waits_not old r base cap most, refl))))
  step_goes (call.Fail q) a mid off step = inl (goes_on a _ mid step.0 (due-fail _ r) (moved old r mid _ step.1 (of_failed old r (value_at old.retries q) (fail_answer old q) q (not_on q r off))))
  step_goes (call.Done q) a mid off step =
      inl (goes_on a _ mid step.0 (due-done _ r) (moved old r mid _ step.1 (either_way old r (done_answer old q) _ (set_other old r q None (not_on q r off), refl))))
  step_goes (call.Clock n) a mid off step = clock_goes n a mid step

unasked : (calls : List Call) (answers : List Answer) (old new : Limits) (r : ℕ) → waiting_at old r ≡ None → has_call_on r calls ≡ false → Run old calls answers new → times_due r answers ≡ 0
unasked [] [] old new r at off run = refl
unasked [] (a ∷ answers) old new r at off run = absurd run
unasked (c ∷ calls) [] old new r at off run = absurd run
unasked (c ∷ calls) (a ∷ answers) old new r at off (mid, step, run) = elim (step_goes old r c a mid (or_left (is_on r c) _ off) step) [
  | inl goes ↦ omega (arith, goes.1, unasked calls answers mid new r (goes.0 ∙ at) (or_right (is_on r c) _ off) run)
  | inr ended ↦ absurd (none-some ended.0 (sym at ∙ ended.1))
]

pub none_due_unasked : NoneDueUnasked
none_due_unasked calls answers old new r valid at off run = unasked calls answers old new r at off run

le-tells : (a b : ℕ) → a ≤ b → nat_le a b ≡ true
le-tells a b le = elim (leb_tells a b) [ inl t ↦ t.0 | inr t ↦ absurd (omega (arith, t.1, le)) ]

gt-tells : (a b : ℕ) → b < a → nat_le a b ≡ false
gt-tells a b lt = elim (leb_tells a b) [ inl t ↦ absurd (omega (arith, t.1, lt)) | inr t ↦ t.0 ]

same-tick : (a b : ℕ) → Some a ≡ Some b → a ≡ b
same-tick a b e = cc

grows : (calls : List Call) (answers : List Answer) (old new : Limits) (r : ℕ) → has_call_on r calls ≡ false → Run old calls answers new → old.greatest ≤ new.greatest
grows [] [] old new r off run = omega (arith, ap (λ (l : Limits). l.greatest) run)
grows [] (a ∷ answers) old new r off run = absurd run
grows (c ∷ calls) [] old new r off run = absurd run
grows (c ∷ calls) (a ∷ answers) old new r off (mid, step, run) =
    let rest = grows calls answers mid new r (or_right (is_on r c) _ off) run in
    elim (step_goes old r c a mid (or_left (is_on r c) _ off) step) [ inl goes ↦ omega (arith, goes.2, rest) | inr ended ↦ omega (arith, ended.5, rest) ]

in_time : (calls : List Call) (answers : List Answer) (old new : Limits) (r tick : ℕ) → old.greatest < tick → waiting_at old r ≡ Some tick → has_call_on r calls ≡ false → Run old calls answers new
    → times_due r answers ≡ cond (nat_le tick new.greatest) 1 0
in_time [] [] old new r tick early at off run = sym (ap {B = ℕ} (λ (b : Bool). cond b 1 0) (gt-tells tick new.greatest (omega (arith, early, ap (λ (l : Limits). l.greatest) run))))
in_time [] (a ∷ answers) old new r tick early at off run = absurd run
in_time (c ∷ calls) [] old new r tick early at off run = absurd run
in_time (c ∷ calls) (a ∷ answers) old new r tick early at off (mid, step, run) =
    let later : has_call_on r calls ≡ false = or_right (is_on r c) _ off in
    elim (step_goes old r c a mid (or_left (is_on r c) _ off) step) [
      | inl goes ↦ omega (arith, goes.1, in_time calls answers mid new r tick (goes.3 tick at early) (goes.0 ∙ at) later run)
      | inr ended ↦
          omega (
            arith,
            ended.3,
            unasked calls answers mid new r ended.2 later run,
            ap {B = ℕ} (λ (b : Bool). cond b 1 0) (le-tells tick new.greatest (omega (arith, ended.4, same-tick ended.0 tick (sym ended.1 ∙ at), grows calls answers mid new r later run))),
          )
    ]

pub due_in_time : DueInTime
due_in_time calls answers old new r tick valid at off run =
    in_time calls answers old new r tick (subst (λ v. IfSome v (λ t. old.greatest < t)) at (valid.none_is_late r)) at off run

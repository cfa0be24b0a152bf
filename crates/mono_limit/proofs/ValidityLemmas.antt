-- The invariant between any two calls, and the filling of a bucket from which no call takes.
use Rattle.std.proofs.Common.{◌≡◌, ◌<◌, ◌≤◌, inl, inr, ℕ, ◌+◌, ◌-◌, ◌*◌, zero, suc, true, false, Bool, cond, List, [], ◌∷◌, length, Some, None, Option, refl, ap, sym, subst, ◌∙◌, arith}
use Rattle.std.specs.Prelude.{⊤, Result, Ok, Err, min, max, ◌^◌, ◌==◌, ◌||◌, nat_lt, nat_le, is_some, Contains, IfSome, option_map}
use Rattle.std.proofs.lemmas.Bool.{cases_eq, cases_lt, lt-ltb}
use Rattle.std.proofs.lemmas.Bool.Decides.{eqb_tells}
use Rattle.std.proofs.lemmas.List.{get_or-set_other, get_or-set_same, get_or_past, length-set}
use Rattle.mono_model.specs.Table.{Table, value_at, next_number, with_next, with_value, without, is_full}
use Rattle.mono_model.specs.Due.{HasCome}
use Rattle.mono_limit.specs.Buckets.{Bucket, IsValidBucket, with_tokens, full_bucket, periods_at, filled, filled_at_once, Takes}
use Rattle.mono_limit.specs.declared.schedules.Schedule.{Schedule}
use Rattle.mono_limit.specs.Schedules.{waiting_value, new_retry, failed_until, at_once}
use Rattle.mono_limit.specs.Delays.{delay}
use Rattle.mono_limit.specs.Limiter.{Limits, no_limits, last_tick, is_out_of_range, if_granted, bucket_answer, with_bucket, with_buckets, TakesFrom, retry_answer, with_retry, with_retries, next_of, fail_value, fail_answer, failed_value, again_at, done_answer, done}
use Rattle.mono_limit.specs.Calls.{Call}
use Rattle.mono_limit.specs.Calls as call
use Rattle.mono_limit.specs.Answers.{Answer, of_take}
use Rattle.mono_limit.specs.Answers as answer
use Rattle.mono_limit.specs.Steps.{waiting_at, greatest_at, at_tick, ended_value, after_waits, ClockStep, Step, Run}
use Rattle.mono_limit.specs.Laws.{AreEverValid, FillsByTheClock, granted_by, granted}
use Rattle.mono_limit.proofs.FillLemmas.{fills_at_once, further}
use Rattle.mono_limit.proofs.RateLemmas.{value_before, given, waits_stay, value_mapped, same-bucket}
use Rattle.mono_limit.proofs.WaitLemmas.{all_others, all_ended, is_in_or_out}
use Rattle.mono_limit.specs.declared.LimitError.{LimitError}
use Rattle.mono_limit.specs.declared.LimitError.TheVariants.{AtCapacity, BadBucket, BadRetry, Invalid, Waiting}
use Rattle.mono_limit.specs.declared.Take.{Take}
use Rattle.mono_limit.specs.declared.Take.TheVariants.{Granted, Short}
use Rattle.mono_limit.specs.declared.Next.{Next}
use Rattle.mono_limit.specs.declared.Next.TheVariants.{Again, GaveUp}

true-false : true ≡ false → ⊥
true-false e = cc

none-some : {X : Type 0} (x : X) → None ≡ Some x → ⊥
none-some x e = cc

err-ok : {A : Type 0} (e : LimitError) (x : A) → Err e ≡ Ok x → ⊥
err-ok e x same = cc

same-retry : (x y : Schedule) → Some x ≡ Some y → x ≡ y
same-retry x y e = cc

or_left : (a b : Bool) → (a || b) ≡ false → a ≡ false
or_left true b e = e
or_left false b e = refl

or_right : (a b : Bool) → (a || b) ≡ false → b ≡ false
or_right true b e = absurd (true-false e)
or_right false b e = e

positive : (n : ℕ) → (n == 0) ≡ false → 0 < n
positive n e = elim (eqb_tells n 0) [ inl t ↦ absurd (true-false (sym t.0 ∙ e)) | inr t ↦ omega (arith, t.1) ]

not_below : (a b : ℕ) → nat_lt a b ≡ false → b ≤ a
not_below a b e = elim (cases_lt a b) [ inl l ↦ absurd (true-false (sym (lt-ltb a b l) ∙ e)) | inr h ↦ h ]

-- a granted answer passed both tests
passed : {A : Type 0} (full bad : Bool) (e f : LimitError) (x y : A) → cond full (Err e) (cond bad (Err f) (Ok x)) ≡ Ok y → bad ≡ false
passed true bad e f x y same = absurd (err-ok e y same)
passed false true e f x y same = absurd (err-ok f y same)
passed false false e f x y same = refl

by_result : {A : Type 0} (P : Limits → Type 0) (r : Result A LimitError) (before after : Limits) → P before → ((x : A) → r ≡ Ok x → P after) → P (if_granted r before after)
by_result P (Ok x) before after old new = new x refl
by_result P (Err e) before after old new = old

-- ---- buckets
abbrev AreBucketsValid : ℕ → Table Bucket → Type 0
AreBucketsValid g table = (b : ℕ) (bucket : Bucket) → value_at table b ≡ Some bucket → IsValidBucket g bucket

with_next_all : {V : Type 0} (P : V → Type 0) (table : Table V) (new : V) → ((s : ℕ) (v : V) → value_at table s ≡ Some v → P v) → P new → (s : ℕ) (v : V) → value_at (with_next table new) s ≡ Some v → P v
with_next_all P [] new all fits zero v at = subst P (unsome new v at) fits
  where
    unsome : {V : Type 0} (x y : V) → Some x ≡ Some y → x ≡ y
    unsome x y e = cc
with_next_all P [] new all fits (suc s) v at = absurd (none-some v at)
with_next_all P (x ∷ xs) new all fits zero v at = all 0 v at
with_next_all P (x ∷ xs) new all fits (suc s) v at = with_next_all P xs new (λ q w. all (suc q) w) fits s v at

set_all : {V : Type 0} (P : V → Type 0) (table : Table V) (i : ℕ) (w : Option V) → ((s : ℕ) (v : V) → value_at table s ≡ Some v → P v) → ((v : V) → w ≡ Some v → P v)
    → (s : ℕ) (v : V) → value_at (Rattle.std.specs.Prelude.set table i w) s ≡ Some v → P v
set_all P table i w all fits s v at = elim (cases_eq s i) [
  | inr apart ↦ all s v (sym (get_or-set_other table i s w None apart) ∙ at)
  | inl same ↦ elim (cases_lt i (length table)) [
    | inl inside ↦ fits v (sym (ap (value_at (Rattle.std.specs.Prelude.set table i w)) same ∙ get_or-set_same table i w None inside) ∙ at)
    | inr past ↦ absurd (none-some v (sym (get_or_past (Rattle.std.specs.Prelude.set table i w) s None (omega (arith, same, past, length-set table i w))) ∙ at))
  ]
]

-- ---- retries
pub record IsTimely (g : ℕ) (retry : Schedule) : Type 0 where
  pub has_base : 0 < retry.base
  pub has_cap : 0 < retry.cap
  pub early : (tick : ℕ) → retry.waits_for ≡ Some tick → g < tick

abbrev AreTimely : ℕ → Table Schedule → Type 0
AreTimely g table = (r : ℕ) (retry : Schedule) → value_at table r ≡ Some retry → IsTimely g retry

power : (k : ℕ) → 0 < 2 ^ k
power zero = omega arith
power (suc k) = omega (arith, power k)

product : (a b : ℕ) → 0 < a → 0 < b → 0 < a * b
product zero b pa pb = absurd (omega (arith, pa))
product (suc a) zero pa pb = absurd (omega (arith, pb))
product (suc a) (suc b) pa pb = omega arith

delay_positive : (base cap k : ℕ) → 0 < base → 0 < cap → 0 < delay base cap k
delay_positive base cap k some_base some_cap = omega (arith, product base (2 ^ (k - 1)) some_base (power (k - 1)), some_cap)

same-tick : (a b : ℕ) → Some a ≡ Some b → a ≡ b
same-tick a b e = cc

record Holds (limits : Limits) : Type 0 where
  pub buckets : AreBucketsValid limits.greatest limits.buckets
  pub retries : AreTimely limits.greatest limits.retries

with_bucket_holds : (old : Limits) (burst period : ℕ) → Holds old → Holds (with_bucket old burst period)
with_bucket_holds old burst period holds = by_result Holds (bucket_answer old burst period) old _ holds (λ n granted. record {
  buckets = with_next_all (IsValidBucket old.greatest) old.buckets (full_bucket burst period old.greatest) holds.buckets (record {
    has_period = positive period (or_left (period == 0) _ (or_right (is_out_of_range burst) (is_out_of_range period) (passed (is_full old.buckets old.most_buckets) (is_out_of_range burst || is_out_of_range period) AtCapacity BadBucket (next_number old.buckets) n granted)));
    holds = omega arith;
    began = omega arith;
  });
  retries = holds.retries;
})

with_retry_holds : (old : Limits) (base cap most : ℕ) → Holds old → Holds (with_retry old base cap most)
with_retry_holds old base cap most holds = by_result Holds (retry_answer old base cap most) old _ holds (λ n granted.
    let fine : ((base == 0) || (nat_lt cap base || is_out_of_range most)) ≡ false = passed (is_full old.retries old.most_retries) ((base == 0) || (nat_lt cap base || is_out_of_range most)) AtCapacity BadRetry (next_number old.retries) n granted in
    let some_base : 0 < base = positive base (or_left (base == 0) _ fine) in
    let some_cap : base ≤ cap = not_below cap base (or_left (nat_lt cap base) _ (or_right (base == 0) _ fine)) in
    record {
      buckets = holds.buckets;
      retries = with_next_all (IsTimely old.greatest) old.retries (new_retry base cap most) holds.retries (record { has_base = some_base; has_cap = omega (arith, some_base, some_cap); early = λ tick at. absurd (none-some tick at) });
    })

-- a retry that fails waits for a later tick
abbrev ok_next : Next → Result Next LimitError
ok_next next = Ok next

again_is : (waits last late : Bool) (tick t : ℕ) → cond waits (Err Waiting) (cond last (Ok GaveUp) (cond late (Err Invalid) (Ok (Again tick)))) ≡ Ok (Again t) → tick ≡ t
again_is true last late tick t e = absurd (err-ok Waiting (Again t) e)
again_is false true late tick t e = absurd (gave e)
  where
    gave : ok_next GaveUp ≡ ok_next (Again t) → ⊥
    gave same = cc
again_is false false true tick t e = absurd (err-ok Invalid (Again t) e)
again_is false false false tick t e = again e
  where
    again : ok_next (Again tick) ≡ ok_next (Again t) → tick ≡ t
    again same = cc

-- a wait is for a tick above the greatest
pub again_later : (retry : Schedule) (g tick : ℕ) → 0 < retry.base → 0 < retry.cap → next_of retry g ≡ Ok (Again tick) → g < tick
again_later retry g tick has_base has_cap is =
    let again : again_at retry g ≡ tick = again_is (is_some retry.waits_for) (retry.failures + 1 == retry.most) (nat_lt last_tick (again_at retry g)) (again_at retry g) tick is in
    omega (arith, again, delay_positive retry.base retry.cap (retry.failures + 1) has_base has_cap)

failed_holds : (old : Limits) (r : ℕ) (v : Option Schedule) (result : Result Next LimitError) → value_at old.retries r ≡ v → fail_value v old ≡ result → Holds old → Holds (failed_value v result old r)
failed_holds old r None result at is holds = holds
failed_holds old r (Some retry) (Ok (Again tick)) at is holds =
    let was : IsTimely old.greatest retry = holds.retries r retry at in
    let again : again_at retry old.greatest ≡ tick = again_is (is_some retry.waits_for) (retry.failures + 1 == retry.most) (nat_lt last_tick (again_at retry old.greatest)) (again_at retry old.greatest) tick is in
    record {
      buckets = holds.buckets;
      retries = set_all (IsTimely old.greatest) old.retries r (Some (failed_until retry (retry.failures + 1) tick)) holds.retries (λ v same.
          subst (IsTimely old.greatest) (same-retry (failed_until retry (retry.failures + 1) tick) v same) (record {
            has_base = was.has_base;
            has_cap = was.has_cap;
            early = λ t its. omega (arith, same-tick tick t its, again, delay_positive retry.base retry.cap (retry.failures + 1) was.has_base was.has_cap);
          }));
    }
failed_holds old r (Some retry) (Ok GaveUp) at is holds = record { buckets = holds.buckets; retries = set_all (IsTimely old.greatest) old.retries r None holds.retries (λ v same. absurd (none-some v same)) }
failed_holds old r (Some retry) (Err e) at is holds = holds

done_holds : (old : Limits) (r : ℕ) → Holds old → Holds (done old r)
done_holds old r holds = by_result Holds (done_answer old r) old _ holds (λ x granted. record { buckets = holds.buckets; retries = set_all (IsTimely old.greatest) old.retries r None holds.retries (λ v same. absurd (none-some v same)) })

taken_valid : (g n : ℕ) (take : Take) (bucket left : Bucket) → IsValidBucket g bucket → Takes g bucket n take left → IsValidBucket g left
taken_valid g n Granted bucket left valid (enough, is) = subst (IsValidBucket g) (sym is) (record { has_period = valid.has_period; holds = omega (arith, valid.holds); began = valid.began })
taken_valid g n (Short tick) bucket left valid (least, is) = subst (IsValidBucket g) (sym is) valid

take_holds : (old mid : Limits) (b n : ℕ) (v : Option Bucket) (result : Result Take LimitError) → value_at old.buckets b ≡ v → TakesFrom v old b n result mid → Holds old → Holds mid
take_holds old mid b n None result at (refused, stays) holds = subst Holds (sym stays) holds
take_holds old mid b n (Some bucket) (Ok take) at (fits, (left, takes, goes)) holds = subst Holds (sym goes) (record {
  buckets = set_all (IsValidBucket old.greatest) old.buckets b (Some left) holds.buckets (λ v same. subst (IsValidBucket old.greatest) (same-bucket left v same) (taken_valid old.greatest n take bucket left (holds.buckets b bucket at) takes));
  retries = holds.retries;
})
take_holds old mid b n (Some bucket) (Err e) at (much, refused, stays) holds = subst Holds (sym stays) holds

-- ---- a clock step
some_of : (f : Bucket → Bucket) (v : Option Bucket) (w : Bucket) → option_map f v ≡ Some w → (x : Bucket) × (v ≡ Some x) × (f x ≡ w)
some_of f None w e = absurd (none-some w e)
some_of f (Some x) w e = (x, refl, same-bucket (f x) w e)

filled_valid : (from to : ℕ) (bucket : Bucket) → from ≤ to → IsValidBucket from bucket → IsValidBucket to (filled from to bucket)
filled_valid from to bucket ahead valid =
    subst (IsValidBucket to) (sym (fills_at_once from to bucket valid ahead)) (record { has_period = valid.has_period; holds = omega arith; began = omega (arith, valid.began, ahead) })

abbrev HasDelay : Schedule → Type 0
HasDelay retry = (0 < retry.base) × (0 < retry.cap)

abbrev AllHaveDelay : Limits → Type 0
AllHaveDelay limits = (r : ℕ) (retry : Schedule) → value_at limits.retries r ≡ Some retry → HasDelay retry

ended_delay : (v : Option Schedule) (limits : Limits) (x : ℕ) → value_at limits.retries x ≡ v → AllHaveDelay limits → AllHaveDelay (ended_value v limits x)
ended_delay None limits x at all = all
ended_delay (Some retry) limits x at all = set_all HasDelay limits.retries x (Some (at_once retry)) all (λ v same. subst HasDelay (same-retry (at_once retry) v same) (all x retry at))

waits_delay : (limits : Limits) (due : List ℕ) → AllHaveDelay limits → AllHaveDelay (after_waits limits due)
waits_delay limits [] all = all
waits_delay limits (x ∷ due) all = waits_delay (ended_value (value_at limits.retries x) limits x) due (ended_delay (value_at limits.retries x) limits x refl all)

clock_holds : (old mid : Limits) (n : ℕ) (a : Answer) → ClockStep old n a mid → Holds old → Holds mid
clock_holds old mid n (answer.Due due) step holds = subst Holds (sym step.2) (record { buckets = fill; retries = timely })
  where
    stay : ((after_waits (at_tick old (greatest_at old n)) due).buckets ≡ (at_tick old (greatest_at old n)).buckets) × ((after_waits (at_tick old (greatest_at old n)) due).greatest ≡ greatest_at old n)
    stay = waits_stay (at_tick old (greatest_at old n)) due

    fill : AreBucketsValid (after_waits (at_tick old (greatest_at old n)) due).greatest (after_waits (at_tick old (greatest_at old n)) due).buckets
    fill b bucket at =
        let found = some_of (filled old.greatest (greatest_at old n)) (value_at old.buckets b) bucket
        (sym (value_mapped (filled old.greatest (greatest_at old n)) old.buckets b) ∙ ap (λ (t : Table Bucket). value_at t b) (sym stay.0) ∙ at) in
        subst (λ g. IsValidBucket g bucket) (sym stay.1)
        (subst (IsValidBucket (greatest_at old n)) found.2 (filled_valid old.greatest (greatest_at old n) found.0 (omega arith) (holds.buckets b found.0 found.1)))

    timely : AreTimely (after_waits (at_tick old (greatest_at old n)) due).greatest (after_waits (at_tick old (greatest_at old n)) due).retries
    timely r retry at = record {
      has_base = (waits_delay (at_tick old (greatest_at old n)) due (λ q v its. ((holds.retries q v its).has_base, (holds.retries q v its).has_cap)) r retry at).0;
      has_cap = (waits_delay (at_tick old (greatest_at old n)) due (λ q v its. ((holds.retries q v its).has_base, (holds.retries q v its).has_cap)) r retry at).1;
      early = λ tick its. omega (arith, stay.1, still r tick (ap waiting_value at ∙ its));
    }
      where
        still : (r tick : ℕ) → waiting_at (after_waits (at_tick old (greatest_at old n)) due) r ≡ Some tick → greatest_at old n < tick
        still r tick its = elim (is_in_or_out due r) [
          | inl c ↦ absurd (none-some tick (sym (all_ended (at_tick old (greatest_at old n)) due r c) ∙ its))
          | inr out ↦ elim (cases_lt (greatest_at old n) tick) [
            | inl before ↦ before
            | inr come ↦ absurd (out ((step.1.all_due r).1 (subst (HasCome (greatest_at old n)) (sym (sym (all_others (at_tick old (greatest_at old n)) due r out) ∙ its)) come)))
          ]
        ]
clock_holds old mid n (answer.Refused e) step holds = subst Holds (sym step.2) holds
clock_holds old mid n (answer.Bucket b) step holds = absurd step
clock_holds old mid n (answer.Took take) step holds = absurd step
clock_holds old mid n (answer.Retry q) step holds = absurd step
clock_holds old mid n (answer.Failed next) step holds = absurd step
clock_holds old mid n answer.Done step holds = absurd step

step_holds : (old mid : Limits) (c : Call) (a : Answer) → Step old c a mid → Holds old → Holds mid
step_holds old mid (call.Bucket burst period) a step holds = subst Holds (sym step.1) (with_bucket_holds old burst period holds)
step_holds old mid (call.Take b n) a (result, told, takes) holds = take_holds old mid b n (value_at old.buckets b) result refl takes holds
step_holds old mid (call.Retry base cap most) a step holds = subst Holds (sym step.1) (with_retry_holds old base cap most holds)
step_holds old mid (call.Fail r) a step holds = subst Holds (sym step.1) (failed_holds old r (value_at old.retries r) (fail_answer old r) refl refl holds)
step_holds old mid (call.Done r) a step holds = subst Holds (sym step.1) (done_holds old r holds)
step_holds old mid (call.Clock n) a step holds = clock_holds old mid n a step holds

run_holds : (calls : List Call) (answers : List Answer) (old new : Limits) → Run old calls answers new → Holds old → Holds new
run_holds [] [] old new run holds = subst Holds (sym run) holds
run_holds [] (a ∷ answers) old new run holds = absurd run
run_holds (c ∷ calls) [] old new run holds = absurd run
run_holds (c ∷ calls) (a ∷ answers) old new (mid, step, run) holds = run_holds calls answers mid new run (step_holds old mid c a step holds)

each_bucket : (v : Option Bucket) (g : ℕ) → ((bucket : Bucket) → v ≡ Some bucket → IsValidBucket g bucket) → IfSome v (IsValidBucket g)
each_bucket None g all = tt
each_bucket (Some bucket) g all = all bucket refl

each_wait : (v : Option Schedule) (g : ℕ) → ((retry : Schedule) → v ≡ Some retry → IsTimely g retry) → IfSome (waiting_value v) (λ tick. g < tick)
each_wait None g all = tt
each_wait (Some retry) g all = by retry.waits_for refl
  where
    by : (w : Option ℕ) → retry.waits_for ≡ w → IfSome w (λ tick. g < tick)
    by None is = tt
    by (Some tick) is = (all retry refl).early tick is

pub are_ever_valid : AreEverValid
are_ever_valid calls answers most_buckets most_retries new run =
    let holds : Holds new = run_holds calls answers (no_limits most_buckets most_retries) new run (record { buckets = λ b bucket at. absurd (none-some bucket at); retries = λ r retry at. absurd (none-some retry at) }) in
    record {
      buckets = λ b. each_bucket (value_at new.buckets b) new.greatest (holds.buckets b);
      none_is_late = λ r. each_wait (value_at new.retries r) new.greatest (holds.retries r);
    }

-- ---- a bucket of which nothing is granted
abbrev Fills : Limits → ℕ → Bucket → Limits → Type 0
Fills old b bucket mid = value_at mid.buckets b ≡ Some (filled old.greatest mid.greatest bucket)

fills_same : (g : ℕ) (bucket : Bucket) → IsValidBucket g bucket → filled g g bucket ≡ bucket
fills_same g bucket valid = fills_at_once g g bucket valid (omega arith) ∙ ap (with_tokens bucket) (omega (arith, valid.holds))

grow : (bucket : Bucket) (from to : ℕ) → IsValidBucket from bucket → from ≤ to → periods_at bucket from ≤ periods_at bucket to
grow bucket from to valid ahead = subst (λ t. periods_at bucket from ≤ periods_at bucket t) (omega (arith, ahead)) (further bucket from valid.has_period valid.began (to - from))

-- tick by tick to one tick and on to another
fills_on : (from mid to : ℕ) (bucket : Bucket) → IsValidBucket from bucket → from ≤ mid → mid ≤ to → filled mid to (filled from mid bucket) ≡ filled from to bucket
fills_on from mid to bucket valid ahead on =
    ap (filled mid to) (fills_at_once from mid bucket valid ahead)
    ∙ fills_at_once mid to (filled_at_once from mid bucket) (record { has_period = valid.has_period; holds = omega arith; began = omega (arith, valid.began, ahead) }) on
    ∙ ap (with_tokens bucket) (omega (arith, grow bucket from mid valid ahead, grow bucket mid to (record { has_period = valid.has_period; holds = valid.holds; began = omega (arith, valid.began, ahead) }) on))
    ∙ sym (fills_at_once from to bucket valid (omega (arith, ahead, on)))

module _ (old : Limits) (b : ℕ) (bucket : Bucket) (is : value_at old.buckets b ≡ Some bucket) (valid : IsValidBucket old.greatest bucket) where
  stays : (mid : Limits) → value_at mid.buckets b ≡ Some bucket → mid.greatest ≡ old.greatest → Fills old b bucket mid
  stays mid at tick = at ∙ ap Some (sym (ap (λ g. filled old.greatest g bucket) tick ∙ fills_same old.greatest bucket valid))

  moves : (mid x : Limits) → mid ≡ x → Fills old b bucket x → Fills old b bucket mid
  moves mid x same fills = subst (Fills old b bucket) (sym same) fills

  fill_either : {A : Type 0} (r : Result A LimitError) (after : Limits) → Fills old b bucket after → Fills old b bucket (if_granted r old after)
  fill_either (Ok x) after fills = fills
  fill_either (Err e) after fills = stays old is refl

  fill_failed : (v : Option Schedule) (result : Result Next LimitError) (r : ℕ) → Fills old b bucket (failed_value v result old r)
  fill_failed None result r = stays old is refl
  fill_failed (Some retry) (Ok (Again tick)) r = stays (with_retries old (with_value old.retries r (failed_until retry (retry.failures + 1) tick))) is refl
  fill_failed (Some retry) (Ok GaveUp) r = stays (with_retries old (without old.retries r)) is refl
  fill_failed (Some retry) (Err e) r = stays old is refl

  fill_left : (from n : ℕ) (found left : Bucket) (take : Take) → value_at old.buckets from ≡ Some found → Takes old.greatest found n take left → granted_by b (call.Take from n) (answer.Took take) ≡ 0
      → Fills old b bucket (with_buckets old (with_value old.buckets from left))
  fill_left from n found left take at takes none = elim (eqb_tells from b) [
    | inr there ↦ stays (with_buckets old (with_value old.buckets from left)) (get_or-set_other old.buckets from b (Some left) None (λ e. there.1 (sym e)) ∙ is) refl
    | inl here ↦
        stays (with_buckets old (with_value old.buckets from left)) (ap (value_at (with_value old.buckets from left)) (sym here.1) ∙ get_or-set_same old.buckets from (Some left) None (given old.buckets from found at)
        ∙ ap Some (unchanged take takes none here.0 ∙ same-bucket found bucket (sym at ∙ ap (value_at old.buckets) here.1 ∙ is))) refl
  ]
    where
      unchanged : (take : Take) → Takes old.greatest found n take left → granted_by b (call.Take from n) (answer.Took take) ≡ 0 → (from == b) ≡ true → left ≡ found
      unchanged Granted takes none here = takes.1 ∙ ap (with_tokens found) (omega (arith, none, ap {B = ℕ} (λ (x : Bool). cond x n 0) here))
      unchanged (Short tick) takes none here = takes.1

  fill_taken : (from n : ℕ) (v : Option Bucket) (result : Result Take LimitError) (mid : Limits) → value_at old.buckets from ≡ v → TakesFrom v old from n result mid → granted_by b (call.Take from n) (of_take result) ≡ 0 → Fills old b bucket mid
  fill_taken from n None result mid at (refused, same) none = moves mid old same (stays old is refl)
  fill_taken from n (Some found) (Ok take) mid at (fits, (left, takes, goes)) none = moves mid _ goes (fill_left from n found left take at takes none)
  fill_taken from n (Some found) (Err e) mid at (much, refused, same) none = moves mid old same (stays old is refl)

  fill_clock : (n : ℕ) (a : Answer) (mid : Limits) → ClockStep old n a mid → Fills old b bucket mid × (old.greatest ≤ mid.greatest)
  fill_clock n (answer.Due due) mid step =
      let g : ℕ = greatest_at old n in
      let stay = waits_stay (at_tick old g) due in
      let grown : mid.greatest ≡ g = ap (λ (l : Limits). l.greatest) step.2 ∙ stay.1 in (
        ap (λ (l : Limits). value_at l.buckets b) step.2 ∙ ap (λ (t : Table Bucket). value_at t b) stay.0 ∙ value_mapped (filled old.greatest g) old.buckets b ∙ ap (option_map (filled old.greatest g)) is
            ∙ ap (λ x. Some (filled old.greatest x bucket)) (sym grown),
        omega (arith, grown),
      )
  fill_clock n (answer.Refused e) mid step = (moves mid old step.2 (stays old is refl), omega (arith, ap (λ (l : Limits). l.greatest) step.2))
  fill_clock n (answer.Bucket q) mid step = absurd step
  fill_clock n (answer.Took take) mid step = absurd step
  fill_clock n (answer.Retry q) mid step = absurd step
  fill_clock n (answer.Failed next) mid step = absurd step
  fill_clock n answer.Done mid step = absurd step

  granted_tick : {A : Type 0} (r : Result A LimitError) (after : Limits) → after.greatest ≡ old.greatest → (if_granted r old after).greatest ≡ old.greatest
  granted_tick (Ok x) after same = same
  granted_tick (Err e) after same = refl

  failed_tick : (v : Option Schedule) (result : Result Next LimitError) (r : ℕ) → (failed_value v result old r).greatest ≡ old.greatest
  failed_tick None result r = refl
  failed_tick (Some retry) (Ok (Again tick)) r = refl
  failed_tick (Some retry) (Ok GaveUp) r = refl
  failed_tick (Some retry) (Err e) r = refl

  taken_tick : (v : Option Bucket) (from n : ℕ) (result : Result Take LimitError) (mid : Limits) → TakesFrom v old from n result mid → mid.greatest ≡ old.greatest
  taken_tick None from n result mid (refused, same) = ap (λ (l : Limits). l.greatest) same
  taken_tick (Some found) from n (Ok take) mid (fits, (left, takes, goes)) = ap (λ (l : Limits). l.greatest) goes
  taken_tick (Some found) from n (Err e) mid (much, refused, same) = ap (λ (l : Limits). l.greatest) same

  tick_of : (mid x : Limits) → mid ≡ x → x.greatest ≡ old.greatest → old.greatest ≤ mid.greatest
  tick_of mid x same tick = omega (arith, ap (λ (l : Limits). l.greatest) same, tick)

  step_fills : (c : Call) (a : Answer) (mid : Limits) → Step old c a mid → granted_by b c a ≡ 0 → Fills old b bucket mid × (old.greatest ≤ mid.greatest)
  step_fills (call.Bucket burst period) a mid step none =
      (moves mid _ step.1 (fill_either (bucket_answer old burst period) (with_buckets old (with_next old.buckets (full_bucket burst period old.greatest))) (stays (with_buckets old (with_next old.buckets (full_bucket burst period old.greatest))) (value_before old.buckets _ b (given old.buckets b bucket is) ∙ is) refl)), tick_of mid _ step.1 (granted_tick (bucket_answer old burst period) (with_buckets old (with_next old.buckets (full_bucket burst period old.greatest))) refl))
  step_fills (call.Take from n) a mid (result, told, takes) none =
      (fill_taken from n (value_at old.buckets from) result mid refl takes (ap (granted_by b (call.Take from n)) (sym told) ∙ none), omega (arith, taken_tick (value_at old.buckets from) from n result mid takes))
  step_fills (call.Retry base cap most) a mid step none =
      (moves mid _ step.1 (fill_either (retry_answer old base cap most) (with_retries old (with_next old.retries (new_retry base cap most))) (stays (with_retries old (with_next old.retries (new_retry base cap most))) is refl)), tick_of mid _ step.1 (granted_tick (retry_answer old base cap most) (with_retries old (with_next old.retries (new_retry base cap most))) refl))
  step_fills (call.Fail r) a mid step none =
      (moves mid _ step.1 (fill_failed (value_at old.retries r) (fail_answer old r) r), tick_of mid _ step.1 (failed_tick (value_at old.retries r) (fail_answer old r) r))
  step_fills (call.Done r) a mid step none = (moves mid _ step.1 (fill_either (done_answer old r) (with_retries old (without old.retries r)) (stays (with_retries old (without old.retries r)) is refl)), tick_of mid _ step.1 (granted_tick (done_answer old r) (with_retries old (without old.retries r)) refl))
  step_fills (call.Clock n) a mid step none = fill_clock n a mid step

run_fills : (calls : List Call) (answers : List Answer) (old new : Limits) (b : ℕ) (bucket : Bucket) → value_at old.buckets b ≡ Some bucket → IsValidBucket old.greatest bucket → Run old calls answers new
    → granted b calls answers ≡ 0 → Fills old b bucket new × (old.greatest ≤ new.greatest)
run_fills [] [] old new b bucket is valid run none = (moves old b bucket is valid new old run (stays old b bucket is valid old is refl), omega (arith, ap (λ (l : Limits). l.greatest) run))
run_fills [] (a ∷ answers) old new b bucket is valid run none = absurd run
run_fills (c ∷ calls) [] old new b bucket is valid run none = absurd run
run_fills (c ∷ calls) (a ∷ answers) old new b bucket is valid (mid, step, run) none =
    let one = step_fills old b bucket is valid c a mid step (omega (arith, none)) in
    let rest = run_fills calls answers mid new b (filled old.greatest mid.greatest bucket) one.0 (filled_valid old.greatest mid.greatest bucket one.1 valid) run (omega (arith, none)) in
    (rest.0 ∙ ap Some (fills_on old.greatest mid.greatest new.greatest bucket valid one.1 rest.1), omega (arith, one.1, rest.1))

pub fills_by_the_clock : FillsByTheClock
fills_by_the_clock calls answers old new b bucket valid is run none =
    (run_fills calls answers old new b bucket is (subst (λ v. IfSome v (IsValidBucket old.greatest)) is (valid.buckets b)) run none).0

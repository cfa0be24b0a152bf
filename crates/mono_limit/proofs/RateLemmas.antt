-- No bucket grants more than its rate.
use Rattle.std.proofs.Common.{◌≡◌, ◌<◌, ◌≤◌, inl, inr, ℕ, ◌+◌, ◌-◌, zero, suc, Bool, cond, List, [], ◌∷◌, length, Some, None, Option, map, refl, ap, sym, subst, ◌∙◌, arith}
use Rattle.std.specs.Prelude.{Result, Ok, Err, IfSome, option_map}
use Rattle.std.proofs.lemmas.Bool.{cases_lt}
use Rattle.std.proofs.lemmas.Bool.Decides.{eqb_tells}
use Rattle.std.proofs.lemmas.List.{get_or-set_other, get_or-set_same, get_or_past}
use Rattle.mono_model.specs.Table.{Table, value_at, with_next, with_value}
use Rattle.mono_limit.specs.Buckets.{Bucket, IsValidBucket, with_tokens, periods_at, filled, filled_at_once, Takes}
use Rattle.mono_limit.specs.declared.schedules.Schedule.{Schedule}
use Rattle.mono_limit.specs.Limiter.{Limits, if_granted, bucket_answer, with_bucket, with_buckets, TakesFrom, retry_answer, fail_answer, failed_value, done_answer}
use Rattle.mono_limit.specs.Calls.{Call}
use Rattle.mono_limit.specs.Calls as call
use Rattle.mono_limit.specs.Answers.{Answer, of_take}
use Rattle.mono_limit.specs.Answers as answer
use Rattle.mono_limit.specs.Steps.{greatest_at, at_tick, ended_value, after_waits, ClockStep, Step, Run}
use Rattle.mono_limit.specs.Laws.{granted_by, granted, RateIsKept}
use Rattle.mono_limit.proofs.FillLemmas.{fills_at_once, further}
use Rattle.mono_limit.specs.declared.LimitError.{LimitError}
use Rattle.mono_limit.specs.declared.Take.{Take}
use Rattle.mono_limit.specs.declared.Take.TheVariants.{Granted, Short}
use Rattle.mono_limit.specs.declared.Next.{Next}
use Rattle.mono_limit.specs.declared.Next.TheVariants.{Again, GaveUp}

none-some : {X : Type 0} (x : X) → None ≡ Some x → ⊥
none-some x e = cc

pub same-bucket : (x y : Bucket) → Some x ≡ Some y → x ≡ y
same-bucket x y e = cc

pub given : {V : Type 0} (table : Table V) (s : ℕ) (v : V) → value_at table s ≡ Some v → s < length table
given table s v at = elim (cases_lt s (length table)) [ inl inside ↦ inside | inr past ↦ absurd (none-some v (sym (get_or_past table s None past) ∙ at)) ]

pub value_before : {V : Type 0} (table : Table V) (v : V) (s : ℕ) → s < length table → value_at (with_next table v) s ≡ value_at table s
value_before [] v s inside = absurd (omega (arith, inside))
value_before (x ∷ xs) v zero inside = refl
value_before (x ∷ xs) v (suc s) inside = value_before xs v s (omega (arith, inside))

pub value_mapped : (f : Bucket → Bucket) (table : Table Bucket) (b : ℕ) → value_at (map (option_map f) table) b ≡ option_map f (value_at table b)
value_mapped f [] b = refl
value_mapped f (x ∷ xs) zero = refl
value_mapped f (x ∷ xs) (suc b) = value_mapped f xs b

-- the ends of waits change no bucket
pub ended_stays : (v : Option Schedule) (limits : Limits) (r : ℕ) → ((ended_value v limits r).buckets ≡ limits.buckets) × ((ended_value v limits r).greatest ≡ limits.greatest)
ended_stays None limits r = (refl, refl)
ended_stays (Some retry) limits r = (refl, refl)

pub waits_stay : (limits : Limits) (due : List ℕ) → ((after_waits limits due).buckets ≡ limits.buckets) × ((after_waits limits due).greatest ≡ limits.greatest)
waits_stay limits [] = (refl, refl)
waits_stay limits (r ∷ due) =
    let rest = waits_stay (ended_value (value_at limits.retries r) limits r) due in
    let one = ended_stays (value_at limits.retries r) limits r in
    (rest.0 ∙ one.0, rest.1 ∙ one.1)

-- The bucket after a step that granted `got` tokens.
pub record Left (old : Limits) (b : ℕ) (bucket : Bucket) (got : ℕ) (new : Limits) : Type 0 where
  pub left : Bucket
  pub at : value_at new.buckets b ≡ Some left
  pub valid : IsValidBucket new.greatest left
  pub periods : (tick : ℕ) → periods_at left tick ≡ periods_at bucket tick
  pub kept : got + left.tokens ≤ bucket.tokens + (periods_at bucket new.greatest - periods_at bucket old.greatest)
  pub grown : periods_at bucket old.greatest ≤ periods_at bucket new.greatest

module _ (old : Limits) (b : ℕ) (bucket : Bucket) (is : value_at old.buckets b ≡ Some bucket) (valid : IsValidBucket old.greatest bucket) where
  -- the bucket is as it was, and so is the clock
  same : (new : Limits) → value_at new.buckets b ≡ Some bucket → new.greatest ≡ old.greatest → Left old b bucket 0 new
  same new at tick = record {
    left = bucket;
    at = at;
    valid = subst (λ g. IsValidBucket g bucket) (sym tick) valid;
    periods = λ t. refl;
    kept = omega arith;
    grown = omega (arith, ap (periods_at bucket) tick);
  }

  moved : (got : ℕ) (mid x : Limits) → mid ≡ x → Left old b bucket got x → Left old b bucket got mid
  moved got mid x e left = subst (Left old b bucket got) (sym e) left

  either_way : {A : Type 0} (r : Result A LimitError) (after : Limits) → Left old b bucket 0 after → Left old b bucket 0 (if_granted r old after)
  either_way (Ok x) after left = left
  either_way (Err e) after left = same old is refl

  of_bucket_call : (burst period : ℕ) → Left old b bucket 0 (with_bucket old burst period)
  of_bucket_call burst period = either_way (bucket_answer old burst period) _ (same _ (value_before old.buckets _ b (given old.buckets b bucket is) ∙ is) refl)

  of_failed : (v : Option Schedule) (r : Result Next LimitError) (n : ℕ) → Left old b bucket 0 (failed_value v r old n)
  of_failed None r n = same old is refl
  of_failed (Some retry) (Ok (Again tick)) n = same _ is refl
  of_failed (Some retry) (Ok GaveUp) n = same _ is refl
  of_failed (Some retry) (Err e) n = same old is refl

  -- The tokens granted of this bucket, or of another.
  of_takes : (from n : ℕ) (found : Bucket) (take : Take) (after : Bucket) → value_at old.buckets from ≡ Some found → Takes old.greatest found n take after
      → Left old b bucket (granted_by b (call.Take from n) (answer.Took take)) (with_buckets old (with_value old.buckets from after))
  of_takes from n found Granted after at takes = elim (eqb_tells from b) [
    | inl here ↦
        let the_same : found ≡ bucket = same-bucket found bucket (sym at ∙ ap (value_at old.buckets) here.1 ∙ is) in
        let left : after ≡ with_tokens bucket (bucket.tokens - n) = takes.1 ∙ ap (λ (x : Bucket). with_tokens x (x.tokens - n)) the_same in
        let enough : n ≤ bucket.tokens = subst (λ (x : Bucket). n ≤ x.tokens) the_same takes.0 in
        record {
          left = with_tokens bucket (bucket.tokens - n);
          at = ap (value_at (with_value old.buckets from after)) (sym here.1) ∙ get_or-set_same old.buckets from (Some after) None (given old.buckets from found at) ∙ ap Some left;
          valid = record { has_period = valid.has_period; holds = omega (arith, valid.holds); began = valid.began };
          periods = λ t. refl;
          kept = omega (arith, ap {B = ℕ} (λ (x : Bool). cond x n 0) here.0, enough);
          grown = omega arith;
        }
    | inr there ↦
        subst (λ got. Left old b bucket got (with_buckets old (with_value old.buckets from after))) (sym (ap {B = ℕ} (λ (x : Bool). cond x n 0) there.0))
        (same _ (get_or-set_other old.buckets from b (Some after) None (λ e. there.1 (sym e)) ∙ is) refl)
  ]
  of_takes from n found (Short tick) after at takes = elim (eqb_tells from b) [
    | inl here ↦
        same _ (ap (value_at (with_value old.buckets from after)) (sym here.1) ∙ get_or-set_same old.buckets from (Some after) None (given old.buckets from found at)
        ∙ ap Some (takes.1 ∙ same-bucket found bucket (sym at ∙ ap (value_at old.buckets) here.1 ∙ is))) refl
    | inr there ↦ same _ (get_or-set_other old.buckets from b (Some after) None (λ e. there.1 (sym e)) ∙ is) refl
  ]

  of_take_call : (from n : ℕ) (v : Option Bucket) (r : Result Take LimitError) (mid : Limits) → value_at old.buckets from ≡ v → TakesFrom v old from n r mid → Left old b bucket (granted_by b (call.Take from n) (of_take r)) mid
  of_take_call from n None r mid at (refused, stays) =
      subst (λ x. Left old b bucket (granted_by b (call.Take from n) (of_take x)) mid) (sym refused) (moved 0 mid old stays (same old is refl))
  of_take_call from n (Some found) (Ok take) mid at (fits, (after, takes, goes)) = moved _ mid _ goes (of_takes from n found take after at takes)
  of_take_call from n (Some found) (Err e) mid at (much, refused, stays) = moved 0 mid old stays (same old is refl)

  -- a clock step fills the bucket
  clock_fills : (g : ℕ) (new : Limits) → old.greatest ≤ g → new.greatest ≡ g → new.buckets ≡ map (option_map (filled old.greatest g)) old.buckets → (periods_at bucket old.greatest ≤ periods_at bucket g) → Left old b bucket 0 new
  clock_fills g new ahead tick fills grow = record {
    left = filled_at_once old.greatest g bucket;
    at = ap (λ (t : Table Bucket). value_at t b) fills ∙ value_mapped (filled old.greatest g) old.buckets b ∙ ap (option_map (filled old.greatest g)) is ∙ ap Some (fills_at_once old.greatest g bucket valid ahead);
    valid = record { has_period = valid.has_period; holds = omega arith; began = omega (arith, valid.began, ahead, tick) };
    periods = λ t. refl;
    kept = omega (arith, ap (periods_at bucket) tick, grow);
    grown = omega (arith, ap (periods_at bucket) tick, grow);
  }

periods_grow : (bucket : Bucket) (from to : ℕ) → 0 < bucket.period → bucket.origin ≤ from → from ≤ to → periods_at bucket from ≤ periods_at bucket to
periods_grow bucket from to positive began ahead = subst (λ t. periods_at bucket from ≤ periods_at bucket t) (omega (arith, ahead)) (further bucket from positive began (to - from))

module _ (old : Limits) (b : ℕ) (bucket : Bucket) (is : value_at old.buckets b ≡ Some bucket) (valid : IsValidBucket old.greatest bucket) where
  clock_left : (n : ℕ) (a : Answer) (mid : Limits) → ClockStep old n a mid → Left old b bucket 0 mid
  clock_left n (answer.Due due) mid step =
      let stay = waits_stay (at_tick old (greatest_at old n)) due in
      clock_fills old b bucket is valid (greatest_at old n) mid (omega arith) (ap (λ (l : Limits). l.greatest) step.2 ∙ stay.1) (ap (λ (l : Limits). l.buckets) step.2 ∙ stay.0)
      (periods_grow bucket old.greatest (greatest_at old n) valid.has_period valid.began (omega arith))
  clock_left n (answer.Refused e) mid step = moved old b bucket is valid 0 mid old step.2 (same old b bucket is valid old is refl)
  clock_left n (answer.Bucket q) mid step = absurd step
  clock_left n (answer.Took take) mid step = absurd step
  clock_left n (answer.Retry q) mid step = absurd step
  clock_left n (answer.Failed next) mid step = absurd step
  clock_left n answer.Done mid step = absurd step

  step_left : (c : Call) (a : Answer) (mid : Limits) → Step old c a mid → Left old b bucket (granted_by b c a) mid
  step_left (call.Bucket burst period) a mid step = moved old b bucket is valid 0 mid _ step.1 (of_bucket_call old b bucket is valid burst period)
  step_left (call.Take from n) a mid (r, told, takes) =
      subst (λ x. Left old b bucket (granted_by b (call.Take from n) x) mid) (sym told) (of_take_call old b bucket is valid from n (value_at old.buckets from) r mid refl takes)
  step_left (call.Retry base cap most) a mid step = moved old b bucket is valid 0 mid _ step.1 (either_way old b bucket is valid (retry_answer old base cap most) _ (same old b bucket is valid _ is refl))
  step_left (call.Fail r) a mid step = moved old b bucket is valid 0 mid _ step.1 (of_failed old b bucket is valid (value_at old.retries r) (fail_answer old r) r)
  step_left (call.Done r) a mid step = moved old b bucket is valid 0 mid _ step.1 (either_way old b bucket is valid (done_answer old r) _ (same old b bucket is valid _ is refl))
  step_left (call.Clock n) a mid step = clock_left n a mid step

run_left : (calls : List Call) (answers : List Answer) (old new : Limits) (b : ℕ) (bucket : Bucket) → value_at old.buckets b ≡ Some bucket → IsValidBucket old.greatest bucket
    → Run old calls answers new → Left old b bucket (granted b calls answers) new
run_left [] [] old new b bucket is valid run = moved old b bucket is valid 0 new old run (same old b bucket is valid old is refl)
run_left [] (a ∷ answers) old new b bucket is valid run = absurd run
run_left (c ∷ calls) [] old new b bucket is valid run = absurd run
run_left (c ∷ calls) (a ∷ answers) old new b bucket is valid (mid, step, run) =
    let one = step_left old b bucket is valid c a mid step in
    let rest = run_left calls answers mid new b one.left one.at one.valid run in
    record {
      left = rest.left;
      at = rest.at;
      valid = rest.valid;
      periods = λ t. rest.periods t ∙ one.periods t;
      kept = omega (arith, one.kept, rest.kept, one.grown, rest.grown, one.periods mid.greatest, one.periods new.greatest);
      grown = omega (arith, one.grown, rest.grown, one.periods mid.greatest, one.periods new.greatest);
    }

pub rate_is_kept : RateIsKept
rate_is_kept calls answers old new b bucket valid is run =
    let left = run_left calls answers old new b bucket is (subst (λ v. IfSome v (IsValidBucket old.greatest)) is (valid.buckets b)) run in
    omega (arith, left.kept)

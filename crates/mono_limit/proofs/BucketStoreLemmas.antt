-- The buckets that are kept, whatever changes of them.
use Rattle.std.proofs.Common.{◌≡◌, ◌<◌, ◌≤◌, inl, inr, ℕ, ◌-◌, zero, suc, true, false, cond, List, [], ◌∷◌, ◌++◌, length, get_or, set, Some, None, Option, refl, ap, sym, subst, ◌∙◌, arith}
use Rattle.std.specs.Prelude.{Result, Ok, Err, map, option_map, ◌||◌, ◌==◌, ◌^◌}
use Rattle.std.proofs.lemmas.Bool.{cases_eq, cases_lt, le-leb}
use Rattle.std.proofs.lemmas.List.{map-set, get_or-map, get_or_past, get_or-set_same, get_or-set_other, get_or_push, get_or_append_left, length-set, length-map, length-append}
use Rattle.mono_model.specs.Table.{Table, value_at, count_of, next_number, is_full, with_next, with_value}
use Rattle.mono_model.proofs.CountLemmas.{counted, counted-count_of}
use Rattle.mono_limit.specs.Buckets.{Bucket, full_bucket, periods_at, filled, with_tokens}
use Rattle.mono_limit.specs.BucketTable.{IsStored, AreStored, bucket_at, ended_at, TakesOf}
use Rattle.mono_limit.specs.Limiter.{Limits, with_buckets, with_retries, if_granted, is_out_of_range, bucket_answer, with_bucket, TakeAnswers, TakesFrom}
use Rattle.mono_limit.specs.Limits.{buckets_at}
use Rattle.mono_limit.specs.Schedules.{ended_row, ended_rows}
use Rattle.mono_limit.specs.Steps.{after_waits, ended_value, at_tick, greatest_at}
use Rattle.mono_limit.specs.declared.buckets.StoredBucket.{StoredBucket}
use Rattle.mono_limit.specs.declared.schedules.Schedule.{Schedule}
use Rattle.mono_limit.specs.declared.LimitError.{LimitError}
use Rattle.mono_limit.specs.declared.LimitError.TheVariants.{AtCapacity, BadBucket}
use Rattle.mono_limit.specs.declared.Take.{Take}
use Rattle.mono_limit.proofs.FillLemmas.{fills_at_once, further}
use Rattle.mono_limit.proofs.TakeLemmas.{valid}

counted-buckets : (g : ℕ) (stored : List StoredBucket) → counted (buckets_at g stored) ≡ length stored
counted-buckets g [] = refl
counted-buckets g (one ∷ stored) = omega (arith, counted-buckets g stored)

pub count_of-buckets : (g : ℕ) (stored : List StoredBucket) → count_of (buckets_at g stored) ≡ length stored
count_of-buckets g stored = sym (counted-count_of (buckets_at g stored)) ∙ counted-buckets g stored

pub length-buckets : (g : ℕ) (stored : List StoredBucket) → length (buckets_at g stored) ≡ length stored
length-buckets g stored = length-map stored (λ b. Some (bucket_at g b))

-- ---- one more bucket
pub stored-push : (g : ℕ) (stored : List StoredBucket) (one : StoredBucket) → AreStored g stored → IsStored g one → AreStored g (stored ++ one ∷ [])
stored-push g stored one are is b default inside = elim (cases_lt b (length stored)) [
  | inl before ↦ subst (IsStored g) (sym (get_or_append_left stored (one ∷ []) default b before)) (are b default before)
  | inr last ↦ subst (IsStored g) (sym (get_or_push stored one default b (omega (arith, last, inside, length-append stored (one ∷ []))))) is
]

-- A further bucket, whose period is in range, is appended to the others.
in-range : (n : ℕ) → is_out_of_range n ≡ false → 0 < n
in-range zero none = absurd cc
in-range (suc n) none = omega arith

pub stored-further : (g : ℕ) (old middle new : List StoredBucket) (one : StoredBucket) → middle ≡ old → new ≡ middle ++ one ∷ [] → AreStored g old →
    is_out_of_range one.period ≡ false → one.tokens ≤ one.burst → one.origin ≤ g → one.ended ≡ 0 → AreStored g new
stored-further g old middle new one kept pushed are period full began ended =
    subst (AreStored g) (sym (pushed ∙ ap (λ xs. xs ++ one ∷ []) kept))
    (stored-push g old one are record { has_period = in-range one.period period; holds = full; began = began; no_more = omega (arith, ended) })

-- ---- a bucket changes
pub stored-set : (g : ℕ) (stored : List StoredBucket) (b : ℕ) (one : StoredBucket) → AreStored g stored → IsStored g one → AreStored g (set stored b one)
stored-set g stored b one are is q default inside = elim (cases_eq q b) [
  | inl here ↦ subst (IsStored g) (sym (ap (λ k. get_or (set stored b one) k default) here ∙ get_or-set_same stored b one default (omega (arith, here, inside, length-set stored b one)))) is
  | inr apart ↦ subst (IsStored g) (sym (get_or-set_other stored b q one default apart)) (are q default (omega (arith, inside, length-set stored b one)))
]

bucket-at : (g : ℕ) (stored : List StoredBucket) (b : ℕ) (one : StoredBucket) → b < length stored → get_or stored b one ≡ one → value_at (buckets_at g stored) b ≡ Some (bucket_at g one)
bucket-at g stored b one inside at = get_or-map (λ x. Some (bucket_at g x)) stored b one None inside ∙ ap (λ x. Some (bucket_at g x)) at

set-same : {V : Type 0} (xs : List V) (i : ℕ) (v d : V) → i < length xs → get_or xs i d ≡ v → set xs i v ≡ xs
set-same [] i v d inside at = refl
set-same (x ∷ xs) zero v d inside at = ap (λ y. y ∷ xs) (sym at)
set-same (x ∷ xs) (suc i) v d inside at = ap (λ ys. x ∷ ys) (set-same xs i v d (omega (arith, inside)) at)

pub no_bucket : (g : ℕ) (stored : List StoredBucket) (b : ℕ) → length stored ≤ b → value_at (buckets_at g stored) b ≡ None
no_bucket g stored b past = get_or_past (buckets_at g stored) b None (omega (arith, past, length-buckets g stored))

module _ (old : Limits) (stored : List StoredBucket) (are : old.buckets ≡ buckets_at old.greatest stored) (b n : ℕ) (one left : StoredBucket) (inside : b < length stored) (at : get_or stored b one ≡ one) where
  there : value_at old.buckets b ≡ Some (bucket_at old.greatest one)
  there = ap (λ xs. value_at xs b) are ∙ bucket-at old.greatest stored b one inside at

  written : (bucket : Bucket) → bucket_at old.greatest left ≡ bucket → buckets_at old.greatest (set stored b left) ≡ with_value old.buckets b bucket
  written bucket same = map-set (λ x. Some (bucket_at old.greatest x)) stored b left ∙ ap (λ xs. set xs b (Some (bucket_at old.greatest left))) (sym are) ∙ ap (λ x. with_value old.buckets b x) same

  taken : (result : Result Take LimitError) → TakesOf old.greatest (bucket_at old.greatest one) n result (bucket_at old.greatest left)
      → TakesFrom (Some (bucket_at old.greatest one)) old b n result (with_buckets old (buckets_at old.greatest (set stored b left)))
  taken (Ok take) (fits, takes) = (fits, (bucket_at old.greatest left, takes, ap (with_buckets old) (written (bucket_at old.greatest left) refl)))
  taken (Err error) (much, refused, stays) = (much, refused, ap (with_buckets old) (written (bucket_at old.greatest one) stays ∙ set-same old.buckets b (Some (bucket_at old.greatest one)) None (omega (arith, inside, ap length are, length-buckets old.greatest stored)) there))

  pub takes : (result : Result Take LimitError) → TakesOf old.greatest (bucket_at old.greatest one) n result (bucket_at old.greatest left)
      → TakeAnswers old b n result (with_buckets old (buckets_at old.greatest (set stored b left)))
  takes result of = subst (λ v. TakesFrom v old b n result (with_buckets old (buckets_at old.greatest (set stored b left)))) (sym there) (taken result of)

-- ---- the clock goes on
later_stored : (g h : ℕ) (one : StoredBucket) → g ≤ h → IsStored g one → (IsStored h one) × (bucket_at h one ≡ filled g h (bucket_at g one))
later_stored g h one le is =
    let more : ended_at g one ≤ ended_at h one = subst (λ x. ended_at g one ≤ periods_at (bucket_at g one) x) (omega (arith, le)) (further (bucket_at g one) g is.has_period is.began (h - g)) in (
      record { has_period = is.has_period; holds = is.holds; began = omega (arith, is.began, le); no_more = omega (arith, more, is.no_more) },
      sym (fills_at_once g h (bucket_at g one) (valid g one is) le ∙ ap (with_tokens (bucket_at g one)) (omega (arith, more, is.no_more))),
    )

pub buckets-later : (g h : ℕ) (stored : List StoredBucket) → g ≤ h → AreStored g stored → buckets_at h stored ≡ map (option_map (filled g h)) (buckets_at g stored)
buckets-later g h [] le are = refl
buckets-later g h (one ∷ stored) le are =
    ap (λ x. Some x ∷ buckets_at h stored) (later_stored g h one le (are 0 one (omega arith))).1
    ∙ ap (λ xs. Some (filled g h (bucket_at g one)) ∷ xs) (buckets-later g h stored le (λ b default inside. are (suc b) default (omega (arith, inside))))

-- the waits end in the table alone
ended-limits : (v : Option Schedule) (limits : Limits) (r : ℕ) → ended_value v limits r ≡ with_retries limits (ended_row v limits.retries r)
ended-limits None limits r = refl
ended-limits (Some retry) limits r = refl

pub after_waits-is : (limits : Limits) (due : List ℕ) → after_waits limits due ≡ with_retries limits (ended_rows limits.retries due)
after_waits-is limits [] = refl
after_waits-is limits (r ∷ due) =
    ap (λ x. after_waits x due) (ended-limits (value_at limits.retries r) limits r)
    ∙ after_waits-is (with_retries limits (ended_row (value_at limits.retries r) limits.retries r)) due

abbrev left_with : Limits → Table Bucket → Table Schedule → ℕ → ℕ → Limits
left_with old buckets rows greatest most = record { buckets = buckets; retries = rows; greatest = greatest; most_buckets = old.most_buckets; most_retries = most }

-- The limiter after a clock step: the buckets have filled, and the waits of the due retries have ended.
pub clocked : (old : Limits) (stored : List StoredBucket) (n : ℕ) (due : List ℕ) (rows : Table Schedule) (greatest most : ℕ) → AreStored old.greatest stored → greatest ≡ greatest_at old n
    → rows ≡ ended_rows old.retries due → most ≡ old.most_retries → old.buckets ≡ buckets_at old.greatest stored
    → left_with old (buckets_at greatest stored) rows greatest most ≡ after_waits (at_tick old (greatest_at old n)) due
clocked old stored n due rows greatest most are is ended same buckets =
    let le : old.greatest ≤ greatest = omega (arith, is) in
    let filled_up : buckets_at greatest stored ≡ map (option_map (filled old.greatest greatest)) old.buckets = buckets-later old.greatest greatest stored le are ∙ ap (map (option_map (filled old.greatest greatest))) (sym buckets) in
    ap (λ xs. left_with old xs rows greatest most) filled_up
    ∙ ap (λ xs. left_with old (map (option_map (filled old.greatest greatest)) old.buckets) xs greatest most) ended
    ∙ ap (left_with old (map (option_map (filled old.greatest greatest)) old.buckets) (ended_rows old.retries due) greatest) same
    ∙ ap (λ g. with_retries (at_tick old g) (ended_rows old.retries due)) is
    ∙ sym (after_waits-is (at_tick old (greatest_at old n)) due)

-- no further bucket is given out
pub full_up : (old : Limits) (stored : List StoredBucket) → old.buckets ≡ buckets_at old.greatest stored → (burst period : ℕ) → old.most_buckets ≤ length stored
    → (Err AtCapacity ≡ bucket_answer old burst period) × (old ≡ with_bucket old burst period)
full_up old stored are burst period full =
    let is : is_full old.buckets old.most_buckets ≡ true = ap (λ b. b || (next_number old.buckets == 2 ^ 64 - 1)) (le-leb old.most_buckets (count_of old.buckets) (omega (arith, full, ap count_of are, count_of-buckets old.greatest stored))) in
    let answer : bucket_answer old burst period ≡ Err AtCapacity = ap (λ b. cond b (Err AtCapacity) (cond (is_out_of_range burst || is_out_of_range period) (Err BadBucket) (Ok (next_number old.buckets)))) is in (
      sym answer,
      sym (ap (λ r. if_granted r old (with_buckets old (with_next old.buckets (full_bucket burst period old.greatest)))) answer),
    )

-- The buckets and the retries, and the answer and the outcome of each call.
use Rattle.std.specs.Prelude.{◌≡◌, ⊤, ℕ, ◌+◌, ◌-◌, ◌^◌, Bool, true, false, ◌==◌, ◌||◌, if◌then◌else◌, [], Option, Some, None, Result, Ok, Err, is_some, nat_lt, nat_le}
use Rattle.mono_model.specs.Table.{Table, value_at, next_number, with_next, with_value, without, is_full}
use Rattle.mono_limit.specs.Buckets.{Bucket, full_bucket, Takes}
use Rattle.mono_limit.specs.declared.schedules.Schedule.{Schedule}
use Rattle.mono_limit.specs.Schedules.{new_retry, failed_until}
use Rattle.mono_limit.specs.Delays.{delay}
use Rattle.mono_limit.specs.declared.LimitError.{LimitError}
use Rattle.mono_limit.specs.declared.LimitError.TheVariants.{AtCapacity, Invalid, BadBucket, TooMany, Waiting, BadRetry, NoBucket, NoRetry}
use Rattle.mono_limit.specs.declared.Take.{Take}
use Rattle.mono_limit.specs.declared.Next.{Next}
use Rattle.mono_limit.specs.declared.Next.TheVariants.{Again, GaveUp}

-- The buckets, the live retries, the greatest tick of the clock so far, and the greatest number of each.
pub record Limits : Type 0 where
  pub buckets : Table Bucket
  pub retries : Table Schedule
  pub greatest : ℕ
  pub most_buckets : ℕ
  pub most_retries : ℕ

abbrev pub no_limits : ℕ → ℕ → Limits
no_limits most_buckets most_retries = record { buckets = []; retries = []; greatest = 0; most_buckets = most_buckets; most_retries = most_retries }

abbrev pub with_buckets : Limits → Table Bucket → Limits
with_buckets limits buckets = record { buckets = buckets; retries = limits.retries; greatest = limits.greatest; most_buckets = limits.most_buckets; most_retries = limits.most_retries }

abbrev pub with_retries : Limits → Table Schedule → Limits
with_retries limits retries = record { buckets = limits.buckets; retries = retries; greatest = limits.greatest; most_buckets = limits.most_buckets; most_retries = limits.most_retries }

-- The greatest tick for which a retry waits.
abbrev pub last_tick : ℕ
last_tick = 2 ^ 63 - 1

abbrev pub is_out_of_range : ℕ → Bool
is_out_of_range n = (n == 0) || nat_le (2 ^ 32) n

-- A refused call changes nothing.
abbrev pub if_granted : {A : Type 0} → Result A LimitError → Limits → Limits → Limits
if_granted (Ok x) before after = after
if_granted (Err error) before after = before

abbrev pub bucket_answer : Limits → ℕ → ℕ → Result ℕ LimitError
bucket_answer limits burst period =
    if is_full limits.buckets limits.most_buckets then Err AtCapacity
    else if is_out_of_range burst || is_out_of_range period then Err BadBucket
    else Ok (next_number limits.buckets)

abbrev pub with_bucket : Limits → ℕ → ℕ → Limits
with_bucket limits burst period =
    if_granted (bucket_answer limits burst period) limits (with_buckets limits (with_next limits.buckets (full_bucket burst period limits.greatest)))

-- A call takes tokens from a bucket, or is refused for the bucket's number or for the number of tokens.
abbrev pub TakesFrom : Option Bucket → Limits → ℕ → ℕ → Result Take LimitError → Limits → Type 0
TakesFrom None old b n result new = (result ≡ Err NoBucket) × (new ≡ old)
TakesFrom (Some bucket) old b n (Ok take) new =
    (nat_lt bucket.burst n ≡ false) × ((left : Bucket) × Takes old.greatest bucket n take left × (new ≡ with_buckets old (with_value old.buckets b left)))
TakesFrom (Some bucket) old b n (Err error) new = (nat_lt bucket.burst n ≡ true) × (error ≡ TooMany) × (new ≡ old)

abbrev pub TakeAnswers : Limits → ℕ → ℕ → Result Take LimitError → Limits → Type 0
TakeAnswers old b n result new = TakesFrom (value_at old.buckets b) old b n result new

abbrev pub retry_answer : Limits → ℕ → ℕ → ℕ → Result ℕ LimitError
retry_answer limits base cap most =
    if is_full limits.retries limits.most_retries then Err AtCapacity
    else if (base == 0) || (nat_lt cap base || is_out_of_range most) then Err BadRetry
    else Ok (next_number limits.retries)

abbrev pub with_retry : Limits → ℕ → ℕ → ℕ → Limits
with_retry limits base cap most =
    if_granted (retry_answer limits base cap most) limits (with_retries limits (with_next limits.retries (new_retry base cap most)))

-- A failure: the last allowed one ends the retry, and after any other it waits.
abbrev pub again_at : Schedule → ℕ → ℕ
again_at retry greatest = greatest + delay retry.base retry.cap (retry.failures + 1)

abbrev pub next_of : Schedule → ℕ → Result Next LimitError
next_of retry greatest =
    if is_some retry.waits_for then Err Waiting
    else if retry.failures + 1 == retry.most then Ok GaveUp
    else if nat_lt last_tick (again_at retry greatest) then Err Invalid
    else Ok (Again (again_at retry greatest))

abbrev pub fail_value : Option Schedule → Limits → Result Next LimitError
fail_value None limits = Err NoRetry
fail_value (Some retry) limits = next_of retry limits.greatest

abbrev pub fail_answer : Limits → ℕ → Result Next LimitError
fail_answer limits r = fail_value (value_at limits.retries r) limits

abbrev pub failed_value : Option Schedule → Result Next LimitError → Limits → ℕ → Limits
failed_value None answer limits r = limits
failed_value (Some retry) (Ok (Again tick)) limits r = with_retries limits (with_value limits.retries r (failed_until retry (retry.failures + 1) tick))
failed_value (Some retry) (Ok GaveUp) limits r = with_retries limits (without limits.retries r)
failed_value (Some retry) (Err error) limits r = limits

abbrev pub failed : Limits → ℕ → Limits
failed limits r = failed_value (value_at limits.retries r) (fail_answer limits r) limits r

-- The end of a retry.
abbrev pub done_value : Option Schedule → Result ⊤ LimitError
done_value None = Err NoRetry
done_value (Some retry) = Ok tt

abbrev pub done_answer : Limits → ℕ → Result ⊤ LimitError
done_answer limits r = done_value (value_at limits.retries r)

abbrev pub done : Limits → ℕ → Limits
done limits r = if_granted (done_answer limits r) limits (with_retries limits (without limits.retries r))

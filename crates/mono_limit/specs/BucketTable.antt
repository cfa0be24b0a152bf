-- A bucket in the table: with the tokens that it had once a number of its periods had ended.
use Rattle.std.specs.Prelude.{◌≡◌, ◌<◌, ◌≤◌, ℕ, ◌+◌, ◌-◌, ◌/◌, min, true, false, List, length, slice_index_or, Result, Ok, Err, nat_lt}
use Rattle.mono_limit.specs.Buckets.{Bucket, Takes}
use Rattle.mono_limit.specs.declared.buckets.StoredBucket.{StoredBucket}
use Rattle.mono_limit.specs.declared.LimitError.{LimitError}
use Rattle.mono_limit.specs.declared.LimitError.TheVariants.{TooMany}
use Rattle.mono_limit.specs.declared.Take.{Take}

-- The number of its periods that have ended up to the tick g.
abbrev pub ended_at : ℕ → StoredBucket → ℕ
ended_at g stored = (g - stored.origin) / stored.period

-- The bucket at the greatest tick g.
abbrev pub bucket_at : ℕ → StoredBucket → Bucket
bucket_at g stored = record {
  burst = stored.burst;
  period = stored.period;
  origin = stored.origin;
  tokens = min stored.burst (stored.tokens + (ended_at g stored - stored.ended));
}

-- The invariant of a stored bucket at the greatest tick g.
pub record IsStored (g : ℕ) (stored : StoredBucket) : Type 0 where
  pub has_period : 0 < stored.period
  pub holds : stored.tokens ≤ stored.burst
  pub began : stored.origin ≤ g
  pub no_more : stored.ended ≤ ended_at g stored

-- Tokens are taken from a bucket, or their number is refused.
abbrev pub TakesOf : ℕ → Bucket → ℕ → Result Take LimitError → Bucket → Type 0
TakesOf g old n (Ok take) new = (nat_lt old.burst n ≡ false) × Takes g old n take new
TakesOf g old n (Err error) new = (nat_lt old.burst n ≡ true) × (error ≡ TooMany) × (new ≡ old)

abbrev pub AreStored : ℕ → List StoredBucket → Type 0
AreStored g stored = (b : ℕ) (default : StoredBucket) → b < length stored → IsStored g (slice_index_or stored b default)

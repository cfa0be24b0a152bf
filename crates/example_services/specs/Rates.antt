-- The rate of each bucket over the calls of all tasks.
use Rattle.std.specs.Prelude.{◌≡◌, ◌+◌, ◌-◌, ◌≤◌, ℕ, Some}
use Rattle.mono_model.specs.Table.{value_at}
use Rattle.mono_limit.specs.Buckets.{Bucket, periods_at}
use Rattle.mono_limit.specs.Laws.{AreValid}
use Rattle.mono_limit.specs.Limits.{limits_of}
use Rattle.mono_sync.specs.Runs.{Leads}
use Rattle.mono_serve.specs.BucketCalls.{Step}
use Rattle.mono_serve.specs.Laws.{RateIsKept, given}
use Rattle.mono_serve.specs.declared.buckets.Buckets.{Buckets}

-- Over some calls, all that were made in between, a bucket gives at most the tokens that it had before, and one for
-- each period that has ended.
pub record KeepsRates (u v : Buckets) : Type 0 where
  pub led : Leads Step u v
  pub rate : (b : ℕ) (bucket : Bucket) → AreValid (limits_of u.limiter) → value_at (limits_of u.limiter).buckets b ≡ Some bucket
      → given b led.events ≤ bucket.tokens + (periods_at bucket (limits_of v.limiter).greatest - periods_at bucket (limits_of u.limiter).greatest)

pub keeps_rates : RateIsKept → (u v : Buckets) → Leads Step u v → KeepsRates u v
keeps_rates law u v led = record { led = led; rate = λ b bucket valid is. law led.events u v b bucket valid is led.run }

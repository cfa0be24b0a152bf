-- Taking tokens from a stored bucket.
use Rattle.std.proofs.Common.{◌≡◌, ◌<◌, ◌≤◌, ℕ, ◌+◌, ◌-◌, ◌*◌, refl, ap, subst, arith}
use Rattle.std.specs.Prelude.{Ok}
use Rattle.std.proofs.lemmas.Bool.{le-ltb}
use Rattle.mono_limit.specs.Buckets.{IsValidBucket, IsLeastTick, tick_of_enough}
use Rattle.mono_limit.specs.BucketTable.{IsStored, bucket_at, ended_at, TakesOf}
use Rattle.mono_limit.specs.declared.buckets.StoredBucket.{StoredBucket}
use Rattle.mono_limit.specs.declared.Take.TheVariants.{Short}
use Rattle.mono_limit.proofs.FillLemmas.{enough_at_tick}

pub valid : (g : ℕ) (stored : StoredBucket) → IsStored g stored → IsValidBucket g (bucket_at g stored)
valid g stored is = record { has_period = is.has_period; holds = omega arith; began = is.began }

-- a bucket that is filled up to g has too few tokens
pub too_few : (g n : ℕ) (stored : StoredBucket) → IsStored g stored → stored.ended ≡ ended_at g stored → stored.tokens < n → n ≤ stored.burst
    → TakesOf g (bucket_at g stored) n (Ok (Short (stored.origin + (stored.ended + (n - stored.tokens)) * stored.period))) (bucket_at g stored)
too_few g n stored is ended short within =
    let same : (bucket_at g stored).tokens ≡ stored.tokens = omega (arith, ended, is.holds) in
    let tick : tick_of_enough g (bucket_at g stored) n ≡ stored.origin + (stored.ended + (n - stored.tokens)) * stored.period =
    ap (λ x. stored.origin + x * stored.period) (omega (arith, same, ended)) in (
      le-ltb stored.burst n within,
      (subst (IsLeastTick g (bucket_at g stored) n) tick (enough_at_tick g (bucket_at g stored) n (valid g stored is) (omega (arith, same, short)) within), refl),
    )

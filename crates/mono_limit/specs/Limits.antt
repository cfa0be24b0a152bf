-- The view of a limiter as its buckets and retries.
use Rattle.std.specs.Prelude.{◌≡◌, ℕ, List, ◌++◌, map, Some}
use Rattle.mono_model.specs.Table.{Table}
use Rattle.mono_time.specs.Timers.{credit_left}
use Rattle.mono_limit.specs.Buckets.{Bucket}
use Rattle.mono_limit.specs.BucketTable.{bucket_at}
use Rattle.mono_limit.specs.Limiter.{Limits}
use Rattle.mono_limit.specs.Answers.{Due}
use Rattle.mono_limit.specs.Steps.{ClockStep}
use Rattle.mono_limit.specs.declared.buckets.StoredBucket.{StoredBucket}
use Rattle.mono_limit.specs.Retries.{greatest_of}
use Rattle.mono_limit.specs.declared.limiter.Limiter.{Limiter}

-- The buckets at the greatest tick g.
abbrev pub buckets_at : ℕ → List StoredBucket → Table Bucket
buckets_at g stored = map (λ b. Some (bucket_at g b)) stored

abbrev pub limits_of : Limiter → Limits
limits_of limiter = record {
  buckets = buckets_at (greatest_of limiter.retries) limiter.buckets.items;
  retries = limiter.retries.rows.table;
  greatest = greatest_of limiter.retries;
  most_buckets = limiter.most_buckets;
  most_retries = limiter.retries.most;
}

-- The number of steps that the wheel has still to take for the waiting retries.
abbrev pub credit_of : Limiter → ℕ
credit_of limiter = credit_left limiter.retries.timers

-- A clock step appends the retries that are due to a list.
abbrev pub ListsInto : Limits → ℕ → List ℕ → List ℕ → Limits → Type 0
ListsInto old n before after new = (due : List ℕ) × (after ≡ before ++ due) × ClockStep old n (Due due) new

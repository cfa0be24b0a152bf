-- Laws that hold over any calls of buckets.
use Rattle.std.specs.Prelude.{◌≡◌, ◌≤◌, ◌<◌, ℕ, ◌+◌, ◌-◌, ◌==◌, if◌then◌else◌, List, [], ◌∷◌, Some, Bool, true, false}
use Rattle.std.specs.List.{find, list_any}
use Rattle.mono_model.specs.Table.{value_at}
use Rattle.mono_limit.specs.Buckets.{Bucket, periods_at}
use Rattle.mono_limit.specs.Laws.{AreValid}
use Rattle.mono_limit.specs.Limits.{limits_of}
use Rattle.mono_sync.specs.Runs.{Run}
use Rattle.mono_serve.specs.declared.buckets.Waiter.{Waiter}
use Rattle.mono_serve.specs.declared.buckets.Buckets.{Buckets}
use Rattle.mono_serve.specs.declared.buckets.Asked.{Asked}
use Rattle.mono_serve.specs.declared.buckets.Asked.TheVariants.{Granted}
use Rattle.mono_serve.specs.BucketCalls.{is_first, Event, asked, Step}

-- How many tokens of a bucket one call gave, and how many several calls gave.
abbrev pub given_by : ℕ → Event → ℕ
given_by b (asked nanos ticket bucket n me Granted) = if bucket == b then n else 0
given_by b e = 0

abbrev pub given : ℕ → List Event → ℕ
given b [] = 0
given b (e ∷ es) = given_by b e + given b es

-- Over any calls of any tasks, a bucket gives at most the tokens that it had before, and one for each period that has
-- ended.
abbrev pub RateIsKept : Type 0
RateIsKept = (es : List Event) (u v : Buckets) (b : ℕ) (bucket : Bucket) → AreValid (limits_of u.limiter) → value_at (limits_of u.limiter).buckets b ≡ Some bucket → Run Step u es v
    → given b es ≤ bucket.tokens + (periods_at bucket (limits_of v.limiter).greatest - periods_at bucket (limits_of u.limiter).greatest)

-- The waiting tasks have rising tickets, the first at least `low`, the last below the next ticket.
abbrev pub Rises : ℕ → List Waiter → ℕ → Type 0
Rises low [] next = low ≤ next
Rises low (w ∷ ws) next = (low ≤ w.ticket) × (w.ticket < next) × Rises (w.ticket + 1) ws next

-- Tickets rise along the line, whatever was called. So the first that waits for a bucket, which alone is given tokens,
-- has its least ticket.
abbrev pub FirstComeFirstServed : Type 0
FirstComeFirstServed = (es : List Event) (u v : Buckets) → Rises 0 u.waiters.items u.next → Run Step u es v → Rises 0 v.waiters.items v.next

-- Whether this task is owed a wake.
abbrev pub is_owed : Buckets → ℕ → Bool
is_owed a t = list_any (λ (w : Waiter). w.task == t) a.due.items

-- The future that comes to be the first for its bucket, by a call of another one, is owed a wake. So while nothing is
-- owed, each first future drew its ticket as the first, or its task was woken once it was the first.
abbrev pub FirstIsOwed : Type 0
FirstIsOwed = (e : Event) (a b : Buckets) (bucket : ℕ) (w : Waiter) → Step a e b → w.ticket < a.next → find (λ (v : Waiter). v.bucket == bucket) b.waiters.items ≡ Some w → is_first a.waiters.items bucket w.ticket ≡ false → is_owed b w.task ≡ true

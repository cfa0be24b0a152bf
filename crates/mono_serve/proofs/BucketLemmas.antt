-- The calls of the buckets are calls of their limiter.
use Rattle.std.proofs.Common.{◌≡◌, ◌==◌, ◌+◌, ◌-◌, ◌≤◌, ℕ, Bool, true, false, MatchBool, if◌then◌else◌, List, [], ◌∷◌, ◌++◌, Option, Some, None, Result, Ok, Err, IsOk, refl, sym, ap, subst, ◌∙◌, inl, inr, arith}
use Rattle.std.specs.declared.alloc.AllocError.{AllocError}
use Rattle.mono_model.specs.Memory.{OrLacksMemory}
use Rattle.mono_limit.specs.Limiter.{Limits, TakeAnswers, bucket_answer, with_bucket}
use Rattle.mono_limit.specs.Limits.{limits_of}
use Rattle.mono_limit.specs.Calls.{Call}
use Rattle.mono_limit.specs.Calls as call
use Rattle.mono_limit.specs.Answers.{Answer, of_bucket, of_take}
use Rattle.mono_limit.specs.Answers as answer
use Rattle.mono_limit.specs.Steps as limit
use Rattle.mono_limit.specs.Laws as law
use Rattle.mono_limit.specs.declared.LimitError.{LimitError}
use Rattle.mono_limit.specs.declared.LimitError.TheVariants.{Memory}
use Rattle.mono_limit.specs.declared.Take.{Take}
use Rattle.mono_limit.specs.declared.Take.TheVariants as take
use Rattle.mono_limit.proofs.RateLemmas as limit_rate
use Rattle.mono_sync.specs.Runs.{Run}
use Rattle.mono_serve.specs.declared.buckets.Buckets.{Buckets}
use Rattle.mono_serve.specs.declared.buckets.Asked.TheVariants.{Granted, Waits, Short, Refused}
use Rattle.mono_serve.specs.BucketCalls.{is_there, place_of, TriesAt, Joins, GivesUp, GivesUpAt, Event, added, entered, asked, gave_up, handed, Step}
use Rattle.mono_serve.specs.Laws.{given_by, given, RateIsKept}

-- The calls of the limiter that lead from u to v, by which a bucket b gives so many tokens.
record Calls (b : ℕ) (u v : Limits) (tokens : ℕ) : Type 0 where
  calls : List Call
  answers : List Answer
  run : limit.Run u calls answers v
  gives : law.granted b calls answers ≡ tokens

none : (b : ℕ) (u v : Limits) → v ≡ u → Calls b u v 0
none b u v same = record { calls = []; answers = []; run = same; gives = refl }

along : (b : ℕ) (u v : Limits) (m n : ℕ) → m ≡ n → Calls b u v m → Calls b u v n
along b u v m n same c = subst (λ k. Calls b u v k) same c

by_bucket : (b burst period : ℕ) (u v : Limits) (r : Result ℕ LimitError) → OrLacksMemory Memory (bucket_answer u burst period) u (with_bucket u burst period) (λ limits. v ≡ limits) r → Calls b u v 0
by_bucket b burst period u v r (inl (told, left)) = record { calls = call.Bucket burst period ∷ []; answers = of_bucket (bucket_answer u burst period) ∷ []; run = (v, (refl, left), refl); gives = refl }
by_bucket b burst period u v r (inr (ok, told, left)) = none b u v left

-- How many tokens of the bucket b a take of n tokens gives.
abbrev taken : ℕ → ℕ → ℕ → Result Take LimitError → ℕ
taken b bucket n r = law.granted_by b (call.Take bucket n) (of_take r)

tried : (b nanos bucket n : ℕ) (u v : Limits) (r : Result Take LimitError) → TriesAt u nanos bucket n r v → Calls b u v (taken b bucket n r)
tried b nanos bucket n u v r (inl (due, m, clock, takes)) = record {
  calls = call.Clock nanos ∷ call.Take bucket n ∷ [];
  answers = answer.Due due ∷ of_take r ∷ [];
  run = (m, clock, (v, (r, refl, takes), refl));
  gives = omega arith;
}
tried b nanos bucket n u v r (inr (refused, same)) = subst (λ x. Calls b u v (taken b bucket n x)) (sym refused) (none b u v same)

same_end : (b : ℕ) (u v w : Limits) (n : ℕ) → w ≡ v → Calls b u v n → Calls b u w n
same_end b u v w n same made = subst (λ x. Calls b u x n) (sym same) made

left_limits : (x y : Buckets) (me : ℕ) (o : Option ℕ) → GivesUpAt o x me y → limits_of y.limiter ≡ limits_of x.limiter
left_limits x y me None same = ap (λ (z : Buckets). limits_of z.limiter) same
left_limits x y me (Some i) s = ap limits_of s.5

joined_limits : (x y : Buckets) (bucket task : ℕ) (r : Result ℕ AllocError) → Joins x bucket task r y → limits_of y.limiter ≡ limits_of x.limiter
joined_limits x y bucket task (Ok t) s = ap limits_of s.4
joined_limits x y bucket task (Err e) s = ap limits_of s.1

entered_limits : (x y : Buckets) (ticket bucket task : ℕ) (r : Result ℕ AllocError) (c : Bool) → MatchBool c ((r ≡ Ok ticket) × (y ≡ x)) ((m : Buckets) × GivesUp x ticket task m × Joins m bucket task r y)
    → limits_of y.limiter ≡ limits_of x.limiter
entered_limits x y ticket bucket task r true s = ap (λ (z : Buckets). limits_of z.limiter) s.1
entered_limits x y ticket bucket task r false (m, left, joins) = joined_limits m y bucket task r joins ∙ left_limits x m task (place_of x.waiters.items ticket) left

by_step : (b : ℕ) (e : Event) (x y : Buckets) → Step x e y → Calls b (limits_of x.limiter) (limits_of y.limiter) (given_by b e)
by_step b (added burst period r) x y s = by_bucket b burst period (limits_of x.limiter) (limits_of y.limiter) r s.0
by_step b (entered None bucket task r) x y s = none b (limits_of x.limiter) (limits_of y.limiter) (joined_limits x y bucket task r s)
by_step b (entered (Some ticket) bucket task r) x y s = none b (limits_of x.limiter) (limits_of y.limiter) (entered_limits x y ticket bucket task r (is_there x.waiters.items ticket bucket task) s)
by_step b (asked nanos ticket bucket n me Waits) x y s = none b (limits_of x.limiter) (limits_of y.limiter) (ap (λ (z : Buckets). limits_of z.limiter) s.1)
by_step b (asked nanos ticket bucket n me Granted) x y (m, tries, left) =
    same_end b (limits_of x.limiter) (limits_of m.limiter) (limits_of y.limiter) _ (left_limits m y me (place_of m.waiters.items ticket) left) (tried b nanos bucket n (limits_of x.limiter) (limits_of m.limiter) (Ok take.Granted) tries.1)
by_step b (asked nanos ticket bucket n me (Short tick)) x y s = tried b nanos bucket n (limits_of x.limiter) (limits_of y.limiter) (Ok (take.Short tick)) s.1
by_step b (asked nanos ticket bucket n me (Refused error)) x y (m, tries, left) =
    same_end b (limits_of x.limiter) (limits_of m.limiter) (limits_of y.limiter) _ (left_limits m y me (place_of m.waiters.items ticket) left) (tried b nanos bucket n (limits_of x.limiter) (limits_of m.limiter) (Err error) tries.1)
by_step b (gave_up ticket me) x y s = none b (limits_of x.limiter) (limits_of y.limiter) (left_limits x y me (place_of x.waiters.items ticket) s)
by_step b (handed task) x y s = none b (limits_of x.limiter) (limits_of y.limiter) (ap limits_of s.3)

run_on : (xs ys : List Call) (zs bs : List Answer) (u v w : Limits) → limit.Run u xs zs v → limit.Run v ys bs w → limit.Run u (xs ++ ys) (zs ++ bs) w
run_on [] ys [] bs u v w same more = subst (λ m. limit.Run m ys bs w) same more
run_on [] ys (a ∷ zs) bs u v w none more = absurd none
run_on (x ∷ xs) ys [] bs u v w none more = absurd none
run_on (x ∷ xs) ys (a ∷ zs) bs u v w (mid, step, rest) more = (mid, step, run_on xs ys zs bs mid v w rest more)

granted_on : (b : ℕ) (xs ys : List Call) (zs bs : List Answer) (u v : Limits) → limit.Run u xs zs v → law.granted b (xs ++ ys) (zs ++ bs) ≡ law.granted b xs zs + law.granted b ys bs
granted_on b [] ys [] bs u v run = omega arith
granted_on b [] ys (a ∷ zs) bs u v run = absurd run
granted_on b (x ∷ xs) ys [] bs u v run = absurd run
granted_on b (x ∷ xs) ys (a ∷ zs) bs u v (mid, step, rest) = omega (arith, granted_on b xs ys zs bs mid v rest)

calls_on : (b m n : ℕ) (u v w : Limits) → Calls b u v m → Calls b v w n → Calls b u w (m + n)
calls_on b m n u v w p q = record {
  calls = p.calls ++ q.calls;
  answers = p.answers ++ q.answers;
  run = run_on p.calls q.calls p.answers q.answers u v w p.run q.run;
  gives = omega (arith, granted_on b p.calls q.calls p.answers q.answers u v p.run, p.gives, q.gives);
}

by_run : (b : ℕ) (es : List Event) (x y : Buckets) → Run Step x es y → Calls b (limits_of x.limiter) (limits_of y.limiter) (given b es)
by_run b [] x y same = none b (limits_of x.limiter) (limits_of y.limiter) (ap (λ (z : Buckets). limits_of z.limiter) same)
by_run b (e ∷ es) x y (m, step, rest) = calls_on b (given_by b e) (given b es) (limits_of x.limiter) (limits_of m.limiter) (limits_of y.limiter) (by_step b e x m step) (by_run b es m y rest)

pub rate : RateIsKept
rate es u v b bucket valid is run =
    let made = by_run b es u v run in
    let kept = limit_rate.rate_is_kept made.calls made.answers (limits_of u.limiter) (limits_of v.limiter) b bucket valid is made.run in
    omega (arith, kept, made.gives)

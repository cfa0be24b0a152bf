-- The steps of the limiter: from old it may answer the call like this and become new.
use Rattle.std.specs.Prelude.{◌≡◌, ◌<◌, ◌≤◌, ℕ, max, List, [], ◌∷◌, map, Option, Some, None, option_map, Result}
use Rattle.mono_model.specs.Ticks.{max_nanos, down}
use Rattle.mono_model.specs.Table.{value_at, with_value}
use Rattle.mono_model.specs.Due.{ListsDue}
use Rattle.mono_limit.specs.Buckets.{filled}
use Rattle.mono_limit.specs.declared.schedules.Schedule.{Schedule}
use Rattle.mono_limit.specs.Schedules.{at_once, waiting_value}
use Rattle.mono_limit.specs.Limiter.{Limits, with_retries, bucket_answer, with_bucket, TakeAnswers, retry_answer, with_retry, fail_answer, failed, done_answer, done}
use Rattle.mono_limit.specs.Calls.{Call}
use Rattle.mono_limit.specs.Calls as call
use Rattle.mono_limit.specs.Answers.{Answer, of_bucket, of_take, of_retry, of_fail, of_done}
use Rattle.mono_limit.specs.Answers as answer
use Rattle.mono_limit.specs.declared.LimitError.{LimitError}
use Rattle.mono_limit.specs.declared.LimitError.TheVariants as error
use Rattle.mono_limit.specs.declared.Take.{Take}

abbrev pub waiting_at : Limits → ℕ → Option ℕ
waiting_at limits r = waiting_value (value_at limits.retries r)

-- The greatest tick once the clock shows n.
abbrev pub greatest_at : Limits → ℕ → ℕ
greatest_at limits n = max limits.greatest (down n)

-- Every bucket fills tick by tick up to the tick g, which becomes the greatest.
abbrev pub at_tick : Limits → ℕ → Limits
at_tick limits g = record {
  buckets = map (option_map (filled limits.greatest g)) limits.buckets;
  retries = limits.retries;
  greatest = g;
  most_buckets = limits.most_buckets;
  most_retries = limits.most_retries;
}

-- The waits of these retries have ended.
abbrev pub ended_value : Option Schedule → Limits → ℕ → Limits
ended_value None limits r = limits
ended_value (Some retry) limits r = with_retries limits (with_value limits.retries r (at_once retry))

abbrev pub after_waits : Limits → List ℕ → Limits
after_waits limits [] = limits
after_waits limits (r ∷ due) = after_waits (ended_value (value_at limits.retries r) limits r) due

-- A clock step ends the waits of exactly the retries whose tick has come, in ascending ticks.
abbrev pub ClockStep : Limits → ℕ → Answer → Limits → Type 0
ClockStep old n (answer.Due due) new =
    (n ≤ max_nanos) × ListsDue waiting_value old.retries (greatest_at old n) due × (new ≡ after_waits (at_tick old (greatest_at old n)) due)
ClockStep old n (answer.Refused refusal) new = (max_nanos < n) × (refusal ≡ error.Invalid) × (new ≡ old)
ClockStep old n (answer.Bucket b) new = ⊥
ClockStep old n (answer.Took take) new = ⊥
ClockStep old n (answer.Retry r) new = ⊥
ClockStep old n (answer.Failed next) new = ⊥
ClockStep old n answer.Done new = ⊥

abbrev pub Step : Limits → Call → Answer → Limits → Type 0
Step old (call.Bucket burst period) a new = (a ≡ of_bucket (bucket_answer old burst period)) × (new ≡ with_bucket old burst period)
Step old (call.Take b n) a new = (result : Result Take LimitError) × (a ≡ of_take result) × TakeAnswers old b n result new
Step old (call.Retry base cap most) a new = (a ≡ of_retry (retry_answer old base cap most)) × (new ≡ with_retry old base cap most)
Step old (call.Fail r) a new = (a ≡ of_fail (fail_answer old r)) × (new ≡ failed old r)
Step old (call.Done r) a new = (a ≡ of_done (done_answer old r)) × (new ≡ done old r)
Step old (call.Clock n) a new = ClockStep old n a new

-- One step after another, with one answer for each call.
abbrev pub Run : Limits → List Call → List Answer → Limits → Type 0
Run old [] [] new = new ≡ old
Run old (c ∷ calls) (a ∷ answers) new = (mid : Limits) × Step old c a mid × Run mid calls answers new
Run old [] (a ∷ answers) new = ⊥
Run old (c ∷ calls) [] new = ⊥

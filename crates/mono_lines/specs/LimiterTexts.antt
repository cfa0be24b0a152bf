-- The text of the limiter's calls and answers. Each has one spelling.
use Rattle.std.specs.Prelude.{◌≡◌, ◌^◌, ◌<◌, ℕ, List, [], ◌++◌, codes, decimal, flat_map, map}
use Rattle.mono_text.specs.LineText.{number_part}
use Rattle.mono_text.specs.Services.{answer_line, AnswersAll}
use Rattle.mono_limit.specs.Limiter.{Limits}
use Rattle.mono_limit.specs.Limits.{limits_of}
use Rattle.mono_limit.specs.declared.limiter.Limiter.{Limiter}
use Rattle.mono_limit.specs.Calls.{Call}
use Rattle.mono_limit.specs.Calls as call
use Rattle.mono_limit.specs.Answers.{Answer}
use Rattle.mono_limit.specs.Answers as answer
use Rattle.mono_limit.specs.Steps.{Step, Run}
use Rattle.mono_limit.specs.declared.LimitError.{LimitError}
use Rattle.mono_limit.specs.declared.LimitError.TheVariants as error
use Rattle.mono_limit.specs.declared.Take.TheVariants.{Granted, Short}
use Rattle.mono_limit.specs.declared.Next.TheVariants.{Again, GaveUp}
use Rattle.mono_lines.specs.declared.limit.calls.LimiterCall.{LimiterCall}
use Rattle.mono_lines.specs.declared.limit.calls.LimiterCall.TheVariants as line

-- ---- calls

-- The line of a call, without its line feed.
abbrev pub call_text : LimiterCall → List ℕ
call_text (line.Bucket burst period) = codes "bucket " ++ decimal burst ++ codes " " ++ decimal period
call_text (line.Take b n) = codes "take " ++ decimal b ++ codes " " ++ decimal n
call_text (line.Retry base cap most) = codes "retry " ++ decimal base ++ codes " " ++ decimal cap ++ codes " " ++ decimal most
call_text (line.Fail r) = codes "fail " ++ decimal r
call_text (line.Done r) = codes "done " ++ decimal r
call_text (line.Clock n) = codes "clock " ++ decimal n

-- The calls that have a line: numbers below 2 ^ 64, and nanoseconds below 2 ^ 128.
abbrev pub FitsCall : LimiterCall → Type 0
FitsCall (line.Bucket burst period) = (burst < 2 ^ 64) × (period < 2 ^ 64)
FitsCall (line.Take b n) = (b < 2 ^ 64) × (n < 2 ^ 64)
FitsCall (line.Retry base cap most) = (base < 2 ^ 64) × (cap < 2 ^ 64) × (most < 2 ^ 64)
FitsCall (line.Fail r) = r < 2 ^ 64
FitsCall (line.Done r) = r < 2 ^ 64
FitsCall (line.Clock n) = n < 2 ^ 128

-- The model's call for a line's call.
abbrev pub call_of : LimiterCall → Call
call_of (line.Bucket burst period) = call.Bucket burst period
call_of (line.Take b n) = call.Take b n
call_of (line.Retry base cap most) = call.Retry base cap most
call_of (line.Fail r) = call.Fail r
call_of (line.Done r) = call.Done r
call_of (line.Clock n) = call.Clock n

-- ---- answers

-- The text of a refusal. Out of memory has none: no step answers it.
abbrev pub refusal_text : LimitError → List ℕ
refusal_text error.Memory = []
refusal_text error.AtCapacity = codes "at-capacity"
refusal_text error.Invalid = codes "invalid"
refusal_text error.BadBucket = codes "bad-bucket"
refusal_text error.TooMany = codes "too-many"
refusal_text error.Waiting = codes "waiting"
refusal_text error.BadRetry = codes "bad-retry"
refusal_text error.NoBucket = codes "no-bucket"
refusal_text error.NoRetry = codes "no-retry"

abbrev pub answer_text : Answer → List ℕ
answer_text (answer.Bucket b) = codes "bucket " ++ decimal b
answer_text (answer.Took Granted) = codes "granted"
answer_text (answer.Took (Short tick)) = codes "short " ++ decimal tick
answer_text (answer.Retry r) = codes "retry " ++ decimal r
answer_text (answer.Failed (Again tick)) = codes "again " ++ decimal tick
answer_text (answer.Failed GaveUp) = codes "gave-up"
answer_text answer.Done = codes "ok"
answer_text (answer.Due due) = codes "due" ++ flat_map number_part due
answer_text (answer.Refused error) = codes "refused " ++ refusal_text error

-- The model that contracts see of a limiter.
abbrev pub ShowsLimits : Limiter → Limits → Type 0
ShowsLimits limiter limits = limits_of limiter ≡ limits

-- The line's call is a step of the limiter, and the text is that of its answer.
abbrev pub StepsAs : Limits → LimiterCall → List ℕ → Limits → Type 0
StepsAs old c text new = (a : Answer) × Step old (call_of c) a new × (text ≡ answer_text a)

-- The same, with the answer's line appended to the output.
abbrev pub StepInto : Limits → LimiterCall → List ℕ → List ℕ → Limits → Type 0
StepInto old c before after new = (text : List ℕ) × StepsAs old c text new × (after ≡ before ++ answer_line text)

-- The answers to the lines are those of one run of the lines' calls.
abbrev pub AreOneRun : Type 0
AreOneRun = (old : Limits) (said : List LimiterCall) (texts : List (List ℕ)) (last : Limits) → AnswersAll StepsAs old said texts last
    → (answers : List Answer) × Run old (map call_of said) answers last × (texts ≡ map answer_text answers)

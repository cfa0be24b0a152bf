-- The text of the sessions' calls and answers. Each has one spelling.
use Rattle.std.specs.Prelude.{◌≡◌, ◌<◌, ◌^◌, ℕ, List, [], ◌++◌, codes, decimal, flat_map}
use Rattle.mono_text.specs.LineText.{number_part}
use Rattle.mono_session.specs.Keeper.{Keeper}
use Rattle.mono_session.specs.Calls.{Call}
use Rattle.mono_session.specs.Calls as call
use Rattle.mono_session.specs.Answers.{Answer}
use Rattle.mono_session.specs.Answers as answer
use Rattle.mono_session.specs.Steps.{Step}
use Rattle.mono_session.specs.declared.error.SessionError.{SessionError}
use Rattle.mono_session.specs.declared.error.SessionError.TheVariants as error
use Rattle.mono_lines.specs.declared.session.calls.SessionCall.{SessionCall}
use Rattle.mono_lines.specs.declared.session.calls.SessionCall.TheVariants as line

-- The line of a call, without its line feed.
abbrev pub call_text : SessionCall → List ℕ
call_text (line.Open limit) = codes "open " ++ decimal limit
call_text (line.Beat s) = codes "beat " ++ decimal s
call_text (line.Close s) = codes "close " ++ decimal s
call_text (line.Acquire s key) = codes "acquire " ++ decimal s ++ codes " " ++ decimal key
call_text (line.Release s key) = codes "release " ++ decimal s ++ codes " " ++ decimal key
call_text (line.Owner key) = codes "owner " ++ decimal key
call_text (line.Clock n) = codes "clock " ++ decimal n

-- The calls that have a line: numbers below 2 ^ 64, and nanoseconds below 2 ^ 128.
abbrev pub FitsCall : SessionCall → Type 0
FitsCall (line.Open limit) = limit < 2 ^ 64
FitsCall (line.Beat s) = s < 2 ^ 64
FitsCall (line.Close s) = s < 2 ^ 64
FitsCall (line.Acquire s key) = (s < 2 ^ 64) × (key < 2 ^ 64)
FitsCall (line.Release s key) = (s < 2 ^ 64) × (key < 2 ^ 64)
FitsCall (line.Owner key) = key < 2 ^ 64
FitsCall (line.Clock n) = n < 2 ^ 128

-- The model's call for a line's call.
abbrev pub call_of : SessionCall → Call
call_of (line.Open limit) = call.Open limit
call_of (line.Beat s) = call.Beat s
call_of (line.Close s) = call.Close s
call_of (line.Acquire s key) = call.Acquire s key
call_of (line.Release s key) = call.Release s key
call_of (line.Owner key) = call.Owner key
call_of (line.Clock n) = call.Clock n

-- The name of a refusal; the sessions never answer out of memory.
abbrev pub error_text : SessionError → List ℕ
error_text error.AtCapacity = codes "at-capacity"
error_text error.Invalid = codes "invalid"
error_text error.NoSession = codes "no-session"
error_text error.ZeroLimit = codes "zero-limit"
error_text error.Doubled = codes "doubled"
error_text error.NotIn = codes "not-in"
error_text error.Memory = []

-- The line of an answer, without its line feed.
abbrev pub answer_text : Answer → List ℕ
answer_text (answer.Session s) = codes "session " ++ decimal s
answer_text answer.Done = codes "ok"
answer_text answer.Held = codes "held"
answer_text answer.Waits = codes "waits"
answer_text (answer.Owner s) = codes "owner " ++ decimal s
answer_text answer.Free = codes "free"
answer_text (answer.Closed sessions) = codes "closed" ++ flat_map number_part sessions
answer_text (answer.Refused e) = codes "refused " ++ error_text e

-- The line's call is a step of the sessions, and the text is that of its answer.
abbrev pub StepsAs : Keeper → SessionCall → List ℕ → Keeper → Type 0
StepsAs old c text new = (a : Answer) × Step old (call_of c) a new × (text ≡ answer_text a)

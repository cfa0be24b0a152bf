-- The text of requests. Each has one spelling.
use Rattle.std.specs.Prelude.{◌≡◌, ◌<◌, ◌^◌, ℕ, ◌==◌, if◌then◌else◌, List, ◌++◌, length, Option, Some, None, codes, decimal}
use Rattle.lease_core.specs.declared.requests.Call.{Call}
use Rattle.lease_core.specs.declared.requests.Call.TheVariants as call
use Rattle.lease_core.specs.declared.requests.Request.{Request}
use Rattle.lease_lines.specs.declared.calls.KeyCall.{KeyCall}

-- The line of a call on a key, without its line feed.
abbrev pub call_text : ℕ → Call → List ℕ
call_text key (call.Open limit) = codes "open " ++ decimal key ++ codes " " ++ decimal limit
call_text key (call.Beat s) = codes "beat " ++ decimal key ++ codes " " ++ decimal s
call_text key (call.Close s) = codes "close " ++ decimal key ++ codes " " ++ decimal s
call_text key (call.Acquire s) = codes "acquire " ++ decimal key ++ codes " " ++ decimal s
call_text key (call.Release s) = codes "release " ++ decimal key ++ codes " " ++ decimal s
call_text key (call.Try s) = codes "try " ++ decimal key ++ codes " " ++ decimal s
call_text key call.Owner = codes "owner " ++ decimal key
call_text key call.Count = codes "stats " ++ decimal key
call_text key (call.Bucket burst period) = codes "bucket " ++ decimal key ++ codes " " ++ decimal burst ++ codes " " ++ decimal period
call_text key (call.Take b n) = codes "take " ++ decimal key ++ codes " " ++ decimal b ++ codes " " ++ decimal n
call_text key call.Spawn = codes "spawn " ++ decimal key
call_text key (call.Send from to message) = codes "send " ++ decimal key ++ codes " " ++ decimal from ++ codes " " ++ decimal to ++ codes " " ++ decimal message
call_text key call.Receive = codes "receive " ++ decimal key

-- The calls that have a line: their numbers are below 2 ^ 64.
abbrev pub FitsCall : Call → Type 0
FitsCall (call.Open limit) = limit < 2 ^ 64
FitsCall (call.Beat s) = s < 2 ^ 64
FitsCall (call.Close s) = s < 2 ^ 64
FitsCall (call.Acquire s) = s < 2 ^ 64
FitsCall (call.Release s) = s < 2 ^ 64
FitsCall (call.Try s) = s < 2 ^ 64
FitsCall call.Owner = Unit {0}
FitsCall call.Count = Unit {0}
FitsCall (call.Bucket burst period) = (burst < 2 ^ 64) × (period < 2 ^ 64)
FitsCall (call.Take b n) = (b < 2 ^ 64) × (n < 2 ^ 64)
FitsCall call.Spawn = Unit {0}
FitsCall (call.Send from to message) = (from < 2 ^ 64) × (to < 2 ^ 64) × (message < 2 ^ 64)
FitsCall call.Receive = Unit {0}

-- The line spells the request, which has this number.
abbrev pub Spells : ℕ → List ℕ → Request → Type 0
Spells number line request = (request.number ≡ number) × (line ≡ call_text request.key request.call)

-- The line spells no request.
abbrev pub SpellsNone : List ℕ → Type 0
SpellsNone line = (key : ℕ) (c : Call) → key < 2 ^ 64 → FitsCall c → line ≡ call_text key c → ⊥

-- The call of a whole line, if it spells one.
abbrev pub whole : Option (KeyCall × List ℕ) → Option KeyCall
whole None = None
whole (Some found) = if length found.1 == 0 then Some found.0 else None

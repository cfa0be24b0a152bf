-- Why a line may not follow in a script, or which line is missing, by the bytes of the script alone.
use Rattle.std.specs.Prelude.{ℕ, ◌==◌, ◌-◌, ◌||◌, ◌&&◌, Bool, true, false, if◌then◌else◌, nat_lt, List, [], ◌∷◌, Option, Some, None, codes}
use Rattle.mono_text.specs.Lines.{Line, lines}
use Rattle.mono_text.specs.Memory.{counted}
use Rattle.mono_text.specs.Words.{words, first_of, is_text, is_among, number_of, line_at}
use Rattle.mono_text.specs.Wrongs.{Wrong, wrong_of, whole, or_else}
use Rattle.mono_text.specs.Gaps.{gaps_wrong, ends_in}
use Rattle.mono_text.specs.Forms.{Forms, begins_form}
use Rattle.mono_text.specs.Reasons.{first_reason, wrong_among, lacks}
use Rattle.mono_text.specs.declared.scripts.Seen.{Seen}
use Rattle.mono_text.specs.declared.reasons.Reason.{Reason}
use Rattle.mono_text.specs.declared.reasons.Reason.TheVariants.{NoLineFeed, CarriageReturn, NeedlessReport, OtherForm, EndsEarly, NoLimits, LateLimits, NoTask, NoDone, ManyKinds, LongBody, NoKind, NoOwnTask, NoOwnJob, HandleGone}

abbrev pub seen_of : Bool → ℕ → ℕ → ℕ → ℕ → Seen
seen_of is_open kinds body tasks jobs = record { is_open = is_open; kinds = kinds; body = body; tasks = tasks; jobs = jobs }

-- the state after a line with this first word
abbrev pub seen_after : Seen → List ℕ → Seen
seen_after s word =
    if is_text word (codes "task") then seen_of true (counted s.kinds) 0 0 0
    else if is_text word (codes "done") then seen_of false s.kinds 0 0 0
    else if is_text word (codes "spawn") then seen_of s.is_open s.kinds (counted s.body) (counted s.tasks) s.jobs
    else if is_text word (codes "block") then seen_of s.is_open s.kinds (counted s.body) s.tasks (counted s.jobs)
    else seen_of s.is_open s.kinds (counted s.body) s.tasks s.jobs

-- the state before line n, counted from 1
abbrev pub seen_before : ℕ → List Line → Seen → Seen
seen_before n [] s = s
seen_before n (l ∷ ls) s = if nat_lt 1 n then seen_before (n - 1) ls (seen_after s (first_of (words l.bytes))) else s

abbrev pub kinds_with : ℕ → Line → ℕ
kinds_with count l = if l.is_ended && is_text l.bytes (codes "task") then counted count else count

-- how many lines are `task`, in addition to those that were counted
abbrev pub kinds_from : ℕ → List Line → ℕ
kinds_from count [] = count
kinds_from count (l ∷ ls) = kinds_from (kinds_with count l) ls

-- `limits` may come only first, a kind's line only in a kind, and `task` only outside.
abbrev pub place_wrong : ℕ → Seen → List ℕ → Option Reason
place_wrong n seen word =
    if n == 1 then (if is_text word (codes "limits") then None else Some NoLimits)
    else if is_text word (codes "limits") then Some LateLimits
    else if seen.is_open
    then (if is_text word (codes "task") then Some NoDone
    else if is_text word (codes "done") then None
    else if nat_lt 126 seen.body then Some LongBody else None)
    else if is_text word (codes "task") then (if nat_lt 63 seen.kinds then Some ManyKinds else None)
    else Some NoTask

-- the number names a kind, an own task or an own job
abbrev pub number_wrong : ℕ → Seen → List ℕ → ℕ → Reason
number_wrong kinds seen word k =
    if is_text word (codes "spawn") then (if nat_lt k kinds then OtherForm else NoKind)
    else if is_text word (codes "join") || is_text word (codes "detach") then (if nat_lt k seen.tasks then HandleGone else NoOwnTask)
    else if is_text word (codes "await-job") || is_text word (codes "drop-job") then (if nat_lt k seen.jobs then HandleGone else NoOwnJob)
    else OtherForm

abbrev pub any_number_wrong : ℕ → Seen → List ℕ → Option ℕ → Reason
any_number_wrong kinds seen word None = OtherForm
any_number_wrong kinds seen word (Some k) = number_wrong kinds seen word k

abbrev pub own_wrong : ℕ → Seen → List (List ℕ) → Wrong
own_wrong kinds seen [] = wrong_of OtherForm [] []
own_wrong kinds seen (word ∷ []) = wrong_of OtherForm word word
own_wrong kinds seen (word ∷ (number ∷ [])) = wrong_of (any_number_wrong kinds seen word (number_of number)) number word
own_wrong kinds seen (word ∷ (number ∷ (more ∷ rest))) = wrong_of OtherForm more word

-- the forms of a script's lines
abbrev pub script_forms : List (List ℕ) → Forms
script_forms lines = record { lines = lines; parts = words []; ends = words []; pairs = words []; reports = words [] }

-- No line of a script has a report.
abbrev pub report_or_own : ℕ → Seen → List ℕ → Wrong
report_or_own kinds seen bytes = if is_among (codes "->") (words bytes) then whole NeedlessReport bytes else own_wrong kinds seen (words bytes)

abbrev pub words_or_own : List (List ℕ) → ℕ → Seen → List ℕ → Wrong
words_or_own names kinds seen bytes =
    or_else (wrong_among (script_forms names) (words bytes)) (or_else (lacks (script_forms names) (words bytes)) (report_or_own kinds seen bytes))

abbrev pub words_wrong : List (List ℕ) → ℕ → Seen → List ℕ → Wrong
words_wrong names kinds seen bytes = or_else (gaps_wrong bytes) (words_or_own names kinds seen bytes)

abbrev pub or_words : Option Reason → List ℕ → Wrong → Wrong
or_words None bytes later = later
or_words (Some r) bytes later = whole r bytes

-- The first of these faults. No line feed ends the line; a carriage return precedes it; its first word begins none of a
-- script's lines; it may not follow here. A gap or a later word is wrong, or one is missing; a report follows. It names no
-- kind, no own task or no own job, or a handle that was used.
abbrev pub script_line_wrong : List (List ℕ) → ℕ → ℕ → Seen → Line → Wrong
script_line_wrong names n kinds seen line =
    if line.is_ended
    then (if ends_in 13 line.bytes then whole CarriageReturn line.bytes
    else if n == 1 || begins_form names (first_of (words line.bytes))
    then or_words (place_wrong n seen (first_of (words line.bytes))) line.bytes (words_wrong names kinds seen line.bytes)
    else whole (first_reason (script_forms names) (first_of (words line.bytes)) line.bytes) line.bytes)
    else whole NoLineFeed line.bytes

abbrev pub script_wrong_in : List (List ℕ) → ℕ → ℕ → Seen → Option Line → Wrong
script_wrong_in names n kinds seen None = wrong_of EndsEarly [] []
script_wrong_in names n kinds seen (Some line) = script_line_wrong names n kinds seen line

-- the fault of line n, counted from 1, of the script; a script with fewer lines ends too early
abbrev pub script_wrong_at : List (List ℕ) → List ℕ → ℕ → Wrong
script_wrong_at names input n = script_wrong_in names n (kinds_from 0 (lines input)) (seen_before n (lines input) (seen_of false 0 0 0 0)) (line_at n (lines input))

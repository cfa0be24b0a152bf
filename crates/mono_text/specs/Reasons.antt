-- Why a line spells no call, by its bytes alone.
use Rattle.std.specs.Prelude.{ℕ, ◌==◌, ◌||◌, ◌&&◌, Bool, true, false, if◌then◌else◌, nat_lt, List, [], ◌∷◌, Option, Some, None, codes}
use Rattle.mono_text.specs.Lines.{Line, lines}
use Rattle.mono_text.specs.Memory.{counted}
use Rattle.mono_text.specs.Words.{words, first_of, is_text, is_plain, is_among, is_above, is_arrow, is_stuck, line_at}
use Rattle.mono_text.specs.Wrongs.{Wrong, wrong_of, whole, or_rest, or_next, or_else}
use Rattle.mono_text.specs.Gaps.{gaps_wrong, begins_with_blank, ends_in}
use Rattle.mono_text.specs.Forms.{Forms, begins_form, count_from, has_form, most_words, forms_of}
use Rattle.mono_text.specs.declared.reasons.Reason.{Reason}
use Rattle.mono_text.specs.declared.reasons.Reason.TheVariants.{NoLineFeed, CarriageReturn, StrayBlank, StuckArrow, PartOutside, UnknownWord, UnknownPart, LineInTurn, NoGap, OtherHow, WordTooMany, NoNumber, GreatNumber, GreatNanos, NoWord, NoEnd, BehindEnd, NoReport, UnknownReport, OtherReport, NeedlessReport, OtherForm}

-- ---- the first word

-- The reason if the first word begins no line: `->` sticks to it, it begins a part of a turn, a blank precedes it.
abbrev pub first_reason : Forms → List ℕ → List ℕ → Reason
first_reason forms first bytes =
    if is_stuck first then StuckArrow
    else if begins_form forms.parts first then PartOutside
    else if begins_with_blank bytes then StrayBlank
    else UnknownWord

-- ---- a later word

abbrev pub greatest_number : List ℕ
greatest_number = codes "18446744073709551615"

abbrev pub greatest_nanos : List ℕ
greatest_nanos = codes "340282366920938463463374607431768211455"

-- Nanoseconds follow `sleep`, `clock` and `now`, and the number after `reset`.
abbrev pub is_for_nanos : List ℕ → List ℕ → Bool
is_for_nanos older previous = is_text previous (codes "sleep") || is_text previous (codes "clock") || is_text previous (codes "now") || is_text older (codes "reset")

-- the reason if the word is a number that is too great for its place
abbrev pub too_great : Bool → List ℕ → Option Reason
too_great true word = if is_above greatest_nanos word then Some GreatNanos else None
too_great false word = if is_above greatest_number word then Some GreatNumber else None

-- the word at the place of a number
abbrev pub number_wrong : Bool → List ℕ → Option Reason
number_wrong is_for_nanos word = if is_plain word then too_great is_for_nanos word else Some NoNumber

-- the word for how a job ended
abbrev pub how_wrong : List ℕ → Option Reason
how_wrong word = if is_text word (codes "ran") || is_text word (codes "canceled") then None else Some OtherHow

-- The word after `; ` begins a part of a turn.
abbrev pub begins_wrong : Forms → List ℕ → Option Reason
begins_wrong forms word =
    if begins_form forms.parts word then None
    else if begins_form forms.lines word then Some LineInTurn
    else Some UnknownPart

-- No empty word precedes the word, and it begins a part: it follows `turn`, or it is in a turn and among `parts`.
abbrev pub lacks_gap : List (List ℕ) → List ℕ → List ℕ → List ℕ → Bool
lacks_gap parts first previous word =
    if is_plain word then false
    else is_text previous (codes "turn") || (is_text first (codes "turn") && is_among word parts)

-- How a job ended follows the job's number. Each other word is a number, and the forms of the part's first word have it.
abbrev pub stands_wrong : Forms → List ℕ → List ℕ → ℕ → List ℕ → List ℕ → List ℕ → Option Reason
stands_wrong forms first head place older previous word =
    if is_text older (codes "job-end") then how_wrong word
    else if lacks_gap forms.parts first previous word then Some NoGap
    else if nat_lt (most_words 0 (forms_of forms first head) head) place then Some WordTooMany
    else number_wrong (is_for_nanos older previous) word

-- the fault of an empty word
abbrev pub empty_wrong : List ℕ → Option Reason
empty_wrong previous = if is_text previous [] then Some UnknownPart else None

-- the fault of a word by the line's first word, the first word of its part, its place after that one, and the two words
-- before it
abbrev pub word_wrong : Forms → List ℕ → List ℕ → ℕ → List ℕ → List ℕ → List ℕ → Option Reason
word_wrong forms first head place older previous word =
    if is_text word [] then empty_wrong previous
    else if is_stuck word then Some StuckArrow
    else if is_text previous [] then begins_wrong forms word
    else stands_wrong forms first head place older previous word

-- A word after an empty one is the head of those after it.
abbrev pub head_of : List ℕ → List ℕ → List ℕ → List ℕ
head_of head previous word = if is_text previous [] then word else head

abbrev pub place_of : ℕ → List ℕ → ℕ
place_of place previous = if is_text previous [] then 0 else counted place

-- the first word before a report that is wrong
abbrev pub first_wrong : Forms → List ℕ → List ℕ → ℕ → List ℕ → List ℕ → List (List ℕ) → Option Wrong
first_wrong forms first head place older previous [] = None
first_wrong forms first head place older previous (word ∷ rest) =
    if is_arrow word then None
    else or_rest (word_wrong forms first (head_of head previous word) (place_of place previous) older previous word) word (head_of head previous word)
    (first_wrong forms first (head_of head previous word) (place_of place previous) previous word rest)

-- the first wrong word after the line's first word
abbrev pub wrong_among : Forms → List (List ℕ) → Option Wrong
wrong_among forms [] = None
wrong_among forms (first ∷ rest) = first_wrong forms first first 0 [] first rest

-- ---- what is missing

-- A word after an empty one begins a part, which lacks a word if it is in no form.
abbrev pub part_wrong : List (List ℕ) → List ℕ → List ℕ → List (List ℕ) → Option Reason
part_wrong parts previous word rest =
    if is_text previous [] then (if has_form parts word (count_from 0 rest) then None else Some NoWord) else None

-- the first part before a report that lacks a word
abbrev pub first_wrong_part : List (List ℕ) → List ℕ → List (List ℕ) → Option Wrong
first_wrong_part parts previous [] = None
first_wrong_part parts previous (word ∷ rest) =
    if is_arrow word then None
    else or_rest (part_wrong parts previous word rest) word word (first_wrong_part parts word rest)

abbrev pub turn_fault : Reason → List ℕ → Wrong
turn_fault reason word = wrong_of reason word (codes "turn")

-- The turn's words are over: it has an end, and no semicolon follows it.
abbrev pub end_wrong : Bool → List ℕ → Option Wrong
end_wrong has_end previous =
    if has_end
    then (if is_text previous [] then Some (turn_fault BehindEnd []) else None)
    else Some (turn_fault NoEnd (codes "turn"))

-- whether a turn has an end after this word
abbrev pub ends_with : List (List ℕ) → Bool → List ℕ → List ℕ → Bool
ends_with ends has_end previous word = if is_text previous [] then is_among word ends else has_end

-- A turn has one end, and it is the last of its parts.
abbrev pub ends_from : List (List ℕ) → Bool → List ℕ → List (List ℕ) → Option Wrong
ends_from ends has_end previous [] = end_wrong has_end previous
ends_from ends has_end previous (word ∷ rest) =
    if is_arrow word then end_wrong has_end previous
    else if has_end && is_text previous [] then Some (turn_fault BehindEnd word)
    else ends_from ends (ends_with ends has_end previous word) word rest

-- what a turn lacks
abbrev pub turn_wrong : Forms → List ℕ → List (List ℕ) → Option Wrong
turn_wrong forms first rest =
    if is_text first (codes "turn")
    then or_next (first_wrong_part forms.parts first rest) (ends_from forms.ends false first rest)
    else None

-- what a line lacks whose words are all right
abbrev pub lacks_from : Forms → List ℕ → List (List ℕ) → Option Wrong
lacks_from forms first rest =
    if has_form forms.lines first (count_from 0 rest) then turn_wrong forms first rest else Some (wrong_of NoWord first first)

abbrev pub lacks : Forms → List (List ℕ) → Option Wrong
lacks forms [] = None
lacks forms (first ∷ rest) = lacks_from forms first rest

-- ---- the report

-- the first word of a line's report, if the line has one
abbrev pub report_word : List (List ℕ) → Option (List ℕ)
report_word [] = None
report_word (word ∷ rest) = if is_arrow word then Some (first_of rest) else report_word rest

-- the reason of a report, by its first word
abbrev pub report_wrong : List (List ℕ) → List ℕ → Wrong
report_wrong reports word = if is_among word reports then wrong_of OtherReport word word else wrong_of UnknownReport word word

-- the fault of a line that lacks nothing before its report, by whether it takes one
abbrev pub form_wrong : List (List ℕ) → Bool → List ℕ → Option (List ℕ) → Wrong
form_wrong reports true first None = wrong_of NoReport first first
form_wrong reports false first None = wrong_of OtherForm first first
form_wrong reports true first (Some word) = report_wrong reports word
form_wrong reports false first (Some word) = wrong_of NeedlessReport first first

abbrev pub form_fault : Forms → List ℕ → Option (List ℕ) → Wrong
form_fault forms first report = form_wrong forms.reports (is_among first forms.pairs) first report

-- ---- a line

-- the fault of a line whose words are all right: something is missing, or its report is wrong or missing
abbrev pub shape_fault : Forms → List ℕ → Wrong
shape_fault forms bytes = or_else (lacks forms (words bytes)) (form_fault forms (first_of (words bytes)) (report_word (words bytes)))

-- The fault of a line whose first word begins a form: a gap is wrong; a later word is wrong; or its shape.
abbrev pub words_fault : Forms → List ℕ → Wrong
words_fault forms bytes = or_else (gaps_wrong bytes) (or_else (wrong_among forms (words bytes)) (shape_fault forms bytes))

-- The first of these faults: no line feed ends the line; a carriage return precedes it; its first word begins no line; a
-- fault of its other words.
abbrev pub wrong_line : Forms → Line → Wrong
wrong_line forms line =
    if line.is_ended
    then (if ends_in 13 line.bytes then whole CarriageReturn line.bytes
    else if begins_form forms.lines (first_of (words line.bytes)) then words_fault forms line.bytes
    else whole (first_reason forms (first_of (words line.bytes)) line.bytes) line.bytes)
    else whole NoLineFeed line.bytes

abbrev pub wrong_in : Forms → Option Line → Option Wrong
wrong_in forms None = None
wrong_in forms (Some line) = Some (wrong_line forms line)

-- the fault of line n, counted from 1, of the input
abbrev pub wrong_at : Forms → List ℕ → ℕ → Option Wrong
wrong_at forms input n = wrong_in forms (line_at n (lines input))

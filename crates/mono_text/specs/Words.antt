-- The words of a line, and numbers among them.
use Rattle.std.specs.Prelude.{ℕ, ◌==◌, ◌-◌, ◌||◌, ◌&&◌, Bool, true, false, if◌then◌else◌, nat_lt, List, [], ◌∷◌, length, Option, Some, None, codes}
use Rattle.std.specs.Char.{is_ascii_digit}
use Rattle.std.specs.Ordering.{nat_cmp}
use Rattle.std.specs.Bool.{nat_eq}
use Rattle.std.specs.Cmp.Lexicographic.{pointwise}
use Rattle.std.specs.Cmp.Lexicographic.{slice_cmp}
use Rattle.std.specs.Ordering.{is_lt}
use Rattle.std.specs.List.{slice_split}
use Rattle.mono_text.specs.Lines.{Line}
use Rattle.mono_text.specs.Parser.{number_at}

-- a blank or a semicolon is a gap between words
abbrev pub is_gap : ℕ → Bool
is_gap b = (b == 32) || (b == 59)

-- A gap ends a word; there may be nothing in it.
abbrev pub words : List ℕ → List (List ℕ)
words bytes = slice_split is_gap bytes

abbrev pub is_among : List ℕ → List (List ℕ) → Bool
is_among word [] = false
is_among word (w ∷ ws) = if pointwise nat_eq word w then true else is_among word ws

abbrev pub are_digits : List ℕ → Bool
are_digits [] = true
are_digits (b ∷ bs) = if is_ascii_digit b then are_digits bs else false

-- digits, the first of them not zero
abbrev pub is_number : List ℕ → Bool
is_number [] = false
is_number (b ∷ bs) = if b == 48 then false else are_digits (b ∷ bs)

abbrev pub is_text : List ℕ → List ℕ → Bool
is_text word text = pointwise nat_eq word text

-- zero, or a number
abbrev pub is_plain : List ℕ → Bool
is_plain word = is_text word (codes "0") || is_number word

-- The longer of two numbers is greater; of two with the same length, the later one in the order of digits.
abbrev pub is_above : List ℕ → List ℕ → Bool
is_above top word =
    if is_number word
    then (if nat_lt (length top) (length word) then true else if length word == length top then is_lt (slice_cmp nat_cmp top word) else false)
    else false

-- `->` is in the bytes, or their first byte ends it
abbrev pub arrow_behind : ℕ → List ℕ → Bool
arrow_behind previous [] = false
arrow_behind previous (b ∷ bs) = if (previous == 45) && (b == 62) then true else arrow_behind b bs

-- A report follows this word.
abbrev pub is_arrow : List ℕ → Bool
is_arrow word = is_text word (codes "->")

-- `->` sticks to other bytes of the word
abbrev pub is_stuck : List ℕ → Bool
is_stuck word = if is_arrow word then false else arrow_behind 0 word

abbrev pub first_of : List (List ℕ) → List ℕ
first_of [] = []
first_of (w ∷ ws) = w

abbrev pub if_empty : {A : Type 0} → List ℕ → A → Option A
if_empty [] x = Some x
if_empty (b ∷ bs) x = None

abbrev pub if_all : Option (ℕ × List ℕ) → Option ℕ
if_all None = None
if_all (Some read) = if_empty read.1 read.0

-- the number below 2^64 that is the whole word
abbrev pub number_of : List ℕ → Option ℕ
number_of word = if_all (number_at word)

-- line n, counted from 1
abbrev pub line_at : ℕ → List Line → Option Line
line_at n [] = None
line_at n (l ∷ ls) = if n == 1 then Some l else line_at (n - 1) ls

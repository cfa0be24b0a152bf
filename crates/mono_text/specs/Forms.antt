-- The forms of lines and of the parts of a turn, a word for each word, with an empty word between two forms.
use Rattle.std.specs.Prelude.{ℕ, ◌==◌, ◌||◌, ◌&&◌, Bool, true, false, if◌then◌else◌, nat_lt, List, [], ◌∷◌, codes}
use Rattle.mono_text.specs.Memory.{counted}
use Rattle.mono_text.specs.Words.{is_text, is_plain, is_among, is_arrow}

-- The forms of a command's lines and of the parts of its turns; the words of ends, of lines with a report, of reports.
pub record Forms : Type 0 where
  pub lines : List (List ℕ)
  pub parts : List (List ℕ)
  pub ends : List (List ℕ)
  pub pairs : List (List ℕ)
  pub reports : List (List ℕ)

-- A form begins with the word; a number or an empty word begins none.
abbrev pub begins_form : List (List ℕ) → List ℕ → Bool
begins_form forms word = if is_text word [] || is_plain word then false else is_among word forms

-- A form or a part ends before an empty word or a report.
abbrev pub ends_part : List ℕ → Bool
ends_part word = is_text word [] || is_arrow word

-- how many words are left of a part, in addition to those that were counted
abbrev pub count_from : ℕ → List (List ℕ) → ℕ
count_from count [] = count
count_from count (word ∷ rest) = if ends_part word then count else count_from (counted count) rest

-- A form begins with this word and has so many after it.
abbrev pub has_form : List (List ℕ) → List ℕ → ℕ → Bool
has_form [] word count = false
has_form (name ∷ rest) word count = if is_text word name && (count_from 0 rest == count) then true else has_form rest word count

-- the greater count if the word has this name
abbrev pub longer : ℕ → List ℕ → List ℕ → ℕ → ℕ
longer most word name count = if is_text word name && nat_lt most count then count else most

-- the greatest count of words after this one in its forms, if it is above those that were seen
abbrev pub most_words : ℕ → List (List ℕ) → List ℕ → ℕ
most_words most [] word = most
most_words most (name ∷ rest) word = most_words (longer most word name (count_from 0 rest)) rest word

-- the forms among which that of a word in a line is: a turn's words after `turn` are those of its parts
abbrev pub forms_of : Forms → List ℕ → List ℕ → List (List ℕ)
forms_of forms first head = if is_text first (codes "turn") then (if is_text head (codes "turn") then forms.lines else forms.parts) else forms.lines

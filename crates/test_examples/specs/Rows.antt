-- A row of a table as text.
use Rattle.std.specs.Prelude.{ℕ, List, ◌∷◌, [], ◌++◌, Option, Some, None}

-- the text after a row's words: nothing if it has no input, else a line feed and the input's lines
abbrev pub behind_words : Option (List ℕ) → List ℕ
behind_words None = []
behind_words (Some lines) = 10 ∷ lines

-- the title, a line feed with a dollar sign and a blank, the words, and the lines
abbrev pub row_text : List ℕ → List ℕ → Option (List ℕ) → List ℕ
row_text title words lines = title ++ ((10 ∷ 36 ∷ 32 ∷ []) ++ (words ++ behind_words lines))

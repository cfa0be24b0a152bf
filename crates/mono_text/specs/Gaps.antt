-- The gaps between the words of a line: one blank, or in a turn also a semicolon and one blank.
use Rattle.std.specs.Prelude.{ℕ, ◌==◌, ◌||◌, Bool, true, false, if◌then◌else◌, List, [], ◌∷◌, Option, Some, None, codes}
use Rattle.std.specs.List.{slice_split}
use Rattle.mono_text.specs.Words.{words, first_of, is_text, is_arrow}
use Rattle.mono_text.specs.Wrongs.{Wrong, wrong_of, or_next}
use Rattle.mono_text.specs.declared.reasons.Reason.TheVariants.{StrayBlank, StraySemicolon, NoGap}

abbrev pub is_blank : ℕ → Bool
is_blank b = b == 32

-- A blank ends a piece; there may be nothing in it.
abbrev pub pieces : List ℕ → List (List ℕ)
pieces bytes = slice_split is_blank bytes

-- the last byte is this one
abbrev pub ends_in : ℕ → List ℕ → Bool
ends_in byte [] = false
ends_in byte (b ∷ []) = b == byte
ends_in byte (b ∷ (c ∷ bs)) = ends_in byte (c ∷ bs)

-- The line may end in a blank after this piece: a report or a part of a turn is missing there.
abbrev pub is_open : List ℕ → Bool
is_open piece = is_arrow piece || ends_in 59 piece

-- Whether a line has semicolons: it is a turn. After the arrow the report decides.
abbrev pub has_parts : Bool → List ℕ → List ℕ → Bool
has_parts in_turn previous piece = if is_arrow previous then is_text (first_of (words piece)) (codes "turn") else in_turn

-- No blank precedes this word, and a semicolon does.
abbrev pub gap_wrong : List ℕ → Option Wrong
gap_wrong word = if is_text word [] then None else Some (wrong_of NoGap word (codes "turn"))

abbrev pub second_of : List (List ℕ) → List ℕ
second_of [] = []
second_of (word ∷ rest) = first_of rest

-- The two words of a piece after its first one: the first one is empty, and the second one is not there or empty.
abbrev pub stuck_wrong : List ℕ → List ℕ → Option Wrong
stuck_wrong next third = if is_text next [] then gap_wrong third else gap_wrong next

-- the fault of a piece with a semicolon, by the three words around it and by the piece before it
abbrev pub semicolon_wrong : Bool → List ℕ → List ℕ → List ℕ → List ℕ → Option Wrong
semicolon_wrong in_turn previous word next third =
    if in_turn
    then (if is_text word [] then Some (wrong_of StrayBlank previous []) else stuck_wrong next third)
    else Some (wrong_of StraySemicolon word word)

-- the fault of a piece's semicolons, by the words between them and by the piece before it
abbrev pub semicolons_wrong : Bool → List ℕ → List (List ℕ) → Option Wrong
semicolons_wrong in_turn previous [] = None
semicolons_wrong in_turn previous (word ∷ []) = None
semicolons_wrong in_turn previous (word ∷ (next ∷ rest)) = semicolon_wrong in_turn previous word next (first_of rest)

-- the fault of an empty piece: a blank follows a blank, or ends the line
abbrev pub blank_wrong : List ℕ → Option Wrong
blank_wrong previous = if is_open previous then None else Some (wrong_of StrayBlank previous [])

-- the fault of a piece by the two before it
abbrev pub piece_wrong : Bool → List ℕ → List ℕ → List ℕ → Option Wrong
piece_wrong in_turn older previous piece =
    if is_text previous [] then Some (wrong_of StrayBlank older [])
    else if is_text piece [] then blank_wrong previous
    else semicolons_wrong (has_parts in_turn previous piece) previous (words piece)

-- the first fault of the gaps between these pieces, by the two pieces before them
abbrev pub gaps_from : Bool → List ℕ → List ℕ → List (List ℕ) → Option Wrong
gaps_from in_turn older previous [] = None
gaps_from in_turn older previous (piece ∷ rest) =
    or_next (piece_wrong in_turn older previous piece) (gaps_from (has_parts in_turn previous piece) previous piece rest)

-- The first fault of a line's gaps. A blank precedes a blank, a semicolon or the line's end; a semicolon is in no turn, or
-- no blank follows it.
abbrev pub gaps_wrong : List ℕ → Option Wrong
gaps_wrong bytes = gaps_from (is_text (first_of (words bytes)) (codes "turn")) (first_of (words bytes)) (first_of (words bytes)) (pieces bytes)

abbrev pub begins_with_blank : List ℕ → Bool
begins_with_blank [] = false
begins_with_blank (b ∷ bs) = b == 32

-- The ends of a word and of a line.
use Rattle.std.proofs.Common.{◌≡◌, ◌<◌, ◌≤◌, ℕ, zero, suc, ◌+◌, ◌-◌, Bool, true, false, List, [], ◌∷◌, ◌++◌, length, get_or, take, drop, refl, sym, ap, subst, ◌∙◌, arith, cond, eq-eqb}
use Rattle.std.specs.Prelude.{◌==◌, nat_lt}
use Rattle.std.specs.List.{slice_split, position_or_len}
use Rattle.std.specs.Ordering.{is_lt, nat_cmp}
use Rattle.std.specs.Cmp.Lexicographic.{slice_cmp}
use Rattle.std.proofs.lemmas.Bool.{le-ltb}
use Rattle.std.proofs.lemmas.List.{take_all, length-drop}
use Rattle.std.proofs.lemmas.List.Sums.{position_or_len_is}
use Rattle.std.proofs.lemmas.List.Splits.{slice_split_first, slice_split_none}
use Rattle.std.proofs.lemmas.Grind.{get_or_default_zero}
use Rattle.mono_text.specs.Lines.{lines, onto_first}
use Rattle.mono_text.specs.Words.{is_gap, words, is_number, is_above}
use Rattle.mono_text.specs.Gaps.{is_blank, pieces, ends_in}

-- the bytes after place i, up to the end
pub all_behind : (xs : List ℕ) (i : ℕ) → take (length xs - (i + 1)) (drop (i + 1) xs) ≡ drop (i + 1) xs
all_behind xs i = take_all (length xs - (i + 1)) (drop (i + 1) xs) (omega (arith, length-drop (i + 1) xs))

pub word_ends : (xs : List ℕ) (i : ℕ) → i < length xs → ((k : ℕ) → k < i → is_gap (get_or xs k 0) ≡ false) → is_gap (get_or xs i 0) ≡ true → words xs ≡ take i xs ∷ words (drop (i + 1) xs)
word_ends xs i less none here =
    let at : position_or_len is_gap xs ≡ i = position_or_len_is is_gap xs i 0 (omega (arith, less)) none (λ _. here) in
    let first = slice_split_first is_gap xs 0 (subst (λ n. n < length xs) (sym at) less) in
    subst (λ n. slice_split is_gap xs ≡ take n xs ∷ slice_split is_gap (drop (n + 1) xs)) at first

pub one_word : (xs : List ℕ) → ((k : ℕ) → k < length xs → is_gap (get_or xs k 0) ≡ false) → words xs ≡ xs ∷ []
one_word xs none = slice_split_none is_gap xs (λ k d less. ap is_gap (get_or_default_zero xs k d less) ∙ none k less)

pub piece_ends : (xs : List ℕ) (i : ℕ) → i < length xs → ((k : ℕ) → k < i → is_blank (get_or xs k 0) ≡ false) → is_blank (get_or xs i 0) ≡ true → pieces xs ≡ take i xs ∷ pieces (drop (i + 1) xs)
piece_ends xs i less none here =
    let at : position_or_len is_blank xs ≡ i = position_or_len_is is_blank xs i 0 (omega (arith, less)) none (λ _. here) in
    let first = slice_split_first is_blank xs 0 (subst (λ n. n < length xs) (sym at) less) in
    subst (λ n. slice_split is_blank xs ≡ take n xs ∷ slice_split is_blank (drop (n + 1) xs)) at first

pub one_piece : (xs : List ℕ) → ((k : ℕ) → k < length xs → is_blank (get_or xs k 0) ≡ false) → pieces xs ≡ xs ∷ []
one_piece xs none = slice_split_none is_blank xs (λ k d less. ap is_blank (get_or_default_zero xs k d less) ∙ none k less)

first_feed : (b : ℕ) (bs : List ℕ) → (b == 10) ≡ true → lines (b ∷ bs) ≡ record { bytes = []; is_ended = true } ∷ lines bs
first_feed b bs is = ap (λ t. cond t (record { bytes = []; is_ended = true } ∷ lines bs) (onto_first b (lines bs))) is

no_feed : (b : ℕ) (bs : List ℕ) → (b == 10) ≡ false → lines (b ∷ bs) ≡ onto_first b (lines bs)
no_feed b bs is = ap (λ t. cond t (record { bytes = []; is_ended = true } ∷ lines bs) (onto_first b (lines bs))) is

line_ends_at : (xs : List ℕ) (i : ℕ) → i < length xs → ((k : ℕ) → k < i → (get_or xs k 0 == 10) ≡ false) → (get_or xs i 0 == 10) ≡ true
    → lines xs ≡ record { bytes = take i xs; is_ended = true } ∷ lines (drop (suc i) xs)
line_ends_at [] i less none here = absurd (omega (arith, less))
line_ends_at (b ∷ bs) zero less none here = first_feed b bs here
line_ends_at (b ∷ bs) (suc i) less none here =
    no_feed b bs (none 0 (omega arith)) ∙ ap (onto_first b) (line_ends_at bs i (omega (arith, less)) (λ k below. none (suc k) (omega (arith, below))) here)

pub line_ends : (xs : List ℕ) (i : ℕ) → i < length xs → ((k : ℕ) → k < i → (get_or xs k 0 == 10) ≡ false) → get_or xs i 0 ≡ 10
    → lines xs ≡ record { bytes = take i xs; is_ended = true } ∷ lines (drop (i + 1) xs)
line_ends xs i less none here =
    let next : suc i ≡ i + 1 = omega arith in
    subst (λ n. lines xs ≡ record { bytes = take i xs; is_ended = true } ∷ lines (drop n xs)) next (line_ends_at xs i less none (eq-eqb (get_or xs i 0) 10 here))

pub one_line : (b : ℕ) (bs : List ℕ) → ((k : ℕ) → k < length (b ∷ bs) → (get_or (b ∷ bs) k 0 == 10) ≡ false) → lines (b ∷ bs) ≡ record { bytes = b ∷ bs; is_ended = false } ∷ []
one_line b [] none = no_feed b [] (none 0 (omega arith))
one_line b (c ∷ bs) none = no_feed b (c ∷ bs) (none 0 (omega arith)) ∙ ap (onto_first b) (one_line c bs (λ k below. none (suc k) (omega (arith, below))))

pub only_line : (xs : List ℕ) → 0 < length xs → ((k : ℕ) → k < length xs → (get_or xs k 0 == 10) ≡ false) → lines xs ≡ record { bytes = xs; is_ended = false } ∷ []
only_line [] some none = absurd (omega (arith, some))
only_line (b ∷ bs) some none = one_line b bs none

pub last_byte : (byte : ℕ) (xs : List ℕ) (b : ℕ) → ends_in byte (xs ++ b ∷ []) ≡ (b == byte)
last_byte byte [] b = refl
last_byte byte (x ∷ []) b = refl
last_byte byte (x ∷ (y ∷ ys)) b = last_byte byte (y ∷ ys) b

by_length : (top word : List ℕ) (n : Bool) (l : Bool) (e : Bool) → n ≡ true → l ≡ false → e ≡ true
    → cond n (cond l true (cond e (is_lt (slice_cmp nat_cmp top word)) false)) false ≡ is_lt (slice_cmp nat_cmp top word)
by_length top word n l e is_n is_l is_e = cc

pub as_long : (top word : List ℕ) → is_number word ≡ true → length word ≤ length top → length word ≡ length top → is_above top word ≡ is_lt (slice_cmp nat_cmp top word)
as_long top word number longer same = by_length top word (is_number word) (nat_lt (length top) (length word)) (length word == length top) number (le-ltb (length top) (length word) longer) (eq-eqb (length word) (length top) same)

-- How many digits a number has, and their places once they are written over other bytes.
use Rattle.std.proofs.Common.{◌≡◌, ℕ, ◌+◌, ◌/◌, ◌^◌, ◌<◌, ◌≤◌, ◌++◌, List, length, take, drop, arith, ap, ◌∙◌, append_assoc, take-take}
use Rattle.std.proofs.lemmas.List.{take-append-le}
use Rattle.std.proofs.Math.Seq.{take-add, take-append-add, take-append_seam}
use Rattle.std.proofs.lemmas.Fmt.{length-decimal-le}
use Rattle.std.specs.Fmt.{decimal}
use Rattle.itoa.proofs.Decimal.{length_one, length_two, length_pair, length_four}

pub at_most_twenty : (n : ℕ) → n < 2 ^ 64 → length (decimal n) ≤ 20
at_most_twenty n fits = length-decimal-le 20 n (omega arith) (omega arith) fits

pub three_digits : (n : ℕ) → 100 ≤ n → n < 1000 → length (decimal n) ≡ 3
three_digits n low high = omega (arith, length_pair n low (omega arith), length_one (n / 100) (omega arith))

pub four_digits : (n : ℕ) → 1000 ≤ n → n < 10000 → length (decimal n) ≡ 4
four_digits n low high = omega (arith, length_pair n (omega arith) (omega arith), length_two (n / 100) (omega arith) (omega arith))

pub eight_more : (n : ℕ) → 100000000 ≤ n → n < 2 ^ 64 → length (decimal n) ≡ length (decimal (n / 100000000)) + 8
eight_more n low fits =
    let e : n / 10000 / 10000 ≡ n / 100000000 = omega arith in
    let k : length (decimal (n / 10000)) ≡ length (decimal (n / 100000000)) + 4 = rw (length_four (n / 10000) (omega arith) (omega arith), e) in
    omega (arith, length_four n (omega arith) fits, k)

pub twelve_more : (n : ℕ) → 1000000000000 ≤ n → n < 2 ^ 64 → length (decimal n) ≡ length (decimal (n / 1000000000000)) + 12
twelve_more n low fits =
    let e : n / 100000000 / 10000 ≡ n / 1000000000000 = omega arith in
    let k : length (decimal (n / 100000000)) ≡ length (decimal (n / 1000000000000)) + 4 = rw (length_four (n / 100000000) (omega arith) (omega arith), e) in
    omega (arith, eight_more n (omega arith) fits, k)

pub sixteen_more : (n : ℕ) → 10000000000000000 ≤ n → n < 2 ^ 64 → length (decimal n) ≡ length (decimal (n / 10000000000000000)) + 16
sixteen_more n low fits =
    let e : n / 1000000000000 / 10000 ≡ n / 10000000000000000 = omega arith in
    let k : length (decimal (n / 1000000000000)) ≡ length (decimal (n / 10000000000000000)) + 4 = rw (length_four (n / 1000000000000) (omega arith) (omega arith), e) in
    omega (arith, twelve_more n (omega arith) fits, k)

-- the first bytes of a vector after a slice of it was taken
pub of_slice : (stop len : ℕ) (slice items : List ℕ) → stop ≤ len → stop ≤ length slice → take stop (take len (slice ++ drop (length slice) items)) ≡ take stop slice
of_slice stop len slice items inside short = take-take stop len _ inside ∙ take-append-le stop slice _ short

-- digits that are written over the bytes from a place on
pub written_over : (at start stop : ℕ) (digits before after behind : List ℕ) → start ≡ at → stop ≡ at + length digits → drop start after ≡ digits ++ behind
    → take start after ≡ take start before → take stop after ≡ take at before ++ digits
written_over at start stop digits before after behind same e rest front =
    let k : stop ≡ start + length digits = omega arith in
    ap (λ i. take i after) k ∙ take-add start (length digits) after ∙ ap (λ xs. xs ++ take (length digits) (drop start after)) front
    ∙ ap (λ xs. take start before ++ take (length digits) xs) rest ∙ ap (λ xs. take start before ++ xs) (take-append_seam digits behind)
    ∙ ap (λ i. take i before ++ digits) same

-- the earlier bytes, the first bytes of a word, and digits after them
pub front_kept : (old word all digits : List ℕ) (at len : ℕ) → at ≡ length old + len → all ≡ old ++ word → take at all ++ digits ≡ old ++ (take len word ++ digits)
front_kept old word all digits at len e whole =
    ap (λ xs. take at xs ++ digits) whole ∙ ap (λ i. take i (old ++ word) ++ digits) e ∙ ap (λ xs. xs ++ digits) (take-append-add old word len) ∙ append_assoc old (take len word) digits

-- A number that was read is the text of its value, and the text of a number reads back.
use Rattle.std.proofs.Common.{◌≡◌, ℕ, ◌+◌, ◌-◌, ◌*◌, ◌/◌, ◌%◌, ◌^◌, ◌<◌, ◌≤◌, ◌++◌, List, [], ◌∷◌, length, drop, slice_index, Some, None, Option, if◌then◌else◌, nat_lt, Bool, true, false, refl, sym, ◌∙◌, arith, inl, inr, append_assoc, length-append, suc, min, subst, lit≤, lit<}
use Rattle.std.proofs.Math.Nat.{pow-suc, pow-le-pow_right, min-le_left, min-le_right, min-eq_left}
use Rattle.std.proofs.lemmas.Bool.{cases_Bool, cases_lt, le-ltb, lt-ltb}
use Rattle.std.proofs.lemmas.List.{drop_more, drop_all}
use Rattle.std.proofs.lemmas.Fmt.{decimal_by_steps_wide, decimal_digit, decimal_is_IsNumeral_wide, decimal_step_wide}
use Rattle.std.specs.Fmt.{decimal}
use Rattle.std.specs.Char.{is_ascii_digit}
use Rattle.mono_text.specs.Parser.{digits_end, digits_from, is_leading_zero, Read, Gives}

pub gives-same : {A : Type 0} (o : Option A) (rest : List ℕ) (r s : Read A) → s ≡ r → Gives o rest r → Gives o rest s
gives-same o rest r s e g = rw e g

-- ---- the effect of each turn of the loop, at place i

pub digits-stop : (top value n : ℕ) (xs : List ℕ) (i : ℕ) → i < length xs → is_ascii_digit (slice_index xs i) ≡ false
    → digits_from top value n (drop i xs) ≡ digits_end value n (drop i xs)
unfolding digits_from
digits-stop top value n xs i lt d = rw (drop_more xs i 0 lt, d) refl

pub digits-zero : (top value n : ℕ) (xs : List ℕ) (i : ℕ) → i < length xs → is_ascii_digit (slice_index xs i) ≡ true → is_leading_zero value n ≡ true
    → digits_from top value n (drop i xs) ≡ None
unfolding digits_from
digits-zero top value n xs i lt d z = rw (drop_more xs i 0 lt, d, z) refl

pub digits-over : (top value n : ℕ) (xs : List ℕ) (i : ℕ) → i < length xs → is_ascii_digit (slice_index xs i) ≡ true
    → top ≤ value * 10 + (slice_index xs i - 48)
    → digits_from top value n (drop i xs) ≡ None
unfolding digits_from
digits-over top value n xs i lt d o = elim (cases_Bool (is_leading_zero value n)) [
  | inl z ↦ rw (drop_more xs i 0 lt, d, z) refl
  | inr z ↦ rw (drop_more xs i 0 lt, d, z, le-ltb _ _ o) refl
]

pub digits-next : (top value n : ℕ) (xs : List ℕ) (i : ℕ) → i < length xs → is_ascii_digit (slice_index xs i) ≡ true → is_leading_zero value n ≡ false
    → value * 10 + (slice_index xs i - 48) < top
    → digits_from top value n (drop i xs) ≡ digits_from top (value * 10 + (slice_index xs i - 48)) (n + 1) (drop (i + 1) xs)
unfolding digits_from
digits-next top value n xs i lt d z o = rw (drop_more xs i 0 lt, d, z, lt-ltb _ _ o) refl

-- of digits that say more than 0, none is a zero that leads
pub plain_digit : (value len : ℕ) → (0 < len → 0 < value) → is_leading_zero value len ≡ false
plain_digit value len some = elim (cases_lt 0 len) [
  | inl one ↦ let v = some one in grind arith
  | inr none ↦ rw (le-ltb _ _ none) refl
]

-- a number with one more digit is above 0 if its first digit is not zero
pub more_digit : (value : ℕ) (xs : List ℕ) (i : ℕ) → (0 < i → 0 < value) → (slice_index xs 0 ≡ 48 → ⊥) → is_ascii_digit (slice_index xs i) ≡ true
    → 0 < value * 10 + (slice_index xs i - 48)
more_digit value xs i some first d = elim (cases_lt 0 i) [
  | inl one ↦ let v = some one in omega arith
  | inr none ↦
      let z : i ≡ 0 = omega arith in
      let range : (48 ≤ slice_index xs i) × (slice_index xs i ≤ 57) = grind arith in
      let other : slice_index xs i ≡ 48 → ⊥ = rw z first in
      omega arith
]

-- fewer than 18 digits take one more, and stay below 2^64
pub one_more : (value i b : ℕ) → value < 10 ^ i → i < 18 → 48 ≤ b → b ≤ 57 → (value * 10 + (b - 48) < 10 ^ (i + 1)) × (value * 10 + (b - 48) < 2 ^ 64)
one_more value i b small short low high =
    let few : i + 1 ≤ 18 = omega arith in
    let e : suc i ≡ i + 1 = omega arith in
    let next : 10 ^ (i + 1) ≡ 10 ^ i * 10 = subst (λ k. 10 ^ k ≡ 10 ^ i * 10) e (pow-suc 10 i) in
    let most : 10 ^ (i + 1) ≤ 10 ^ 18 = pow-le-pow_right (lit≤ tt) few in
    let sum : value * 10 + (b - 48) < 10 ^ (i + 1) = rw next (omega arith) in
    let top : 10 ^ 18 < 2 ^ 64 = lit< tt in
    (sum, omega arith)

-- a place below the lesser of two numbers
pub below_both : (i a b end : ℕ) → end ≡ min a b → i < end → (i < a) × (i < b)
below_both i a b end e l =
    let left = min-le_left a b in
    let right = min-le_right a b in
    let k : i < min a b = rw e at l in
    (omega arith, omega arith)

-- a place that reached the lesser of two numbers, of which the first is not the greater one
pub at_first : (i a b end : ℕ) → end ≡ min a b → i ≡ end → a ≤ b → i ≡ a
at_first i a b end e at le = at ∙ e ∙ min-eq_left le

pub digits-all : (top value n : ℕ) (xs : List ℕ) (i : ℕ) → i ≡ length xs → digits_from top value n (drop i xs) ≡ digits_end value n []
unfolding digits_from
digits-all top value n xs i e = rw (drop_all i xs (omega arith)) refl

-- the digits end, before a byte that is none or at the end of all
pub ends_give : (top value len : ℕ) (xs rest : List ℕ) (o : Option ℕ) → digits_from top 0 0 xs ≡ digits_end value len (drop len xs)
    → o ≡ (if nat_lt 0 len then Some value else None) → (0 < len → rest ≡ drop len xs) → Gives o rest (digits_from top 0 0 xs)
ends_give top value len xs rest o e same behind = elim (cases_lt 0 len) [
  | inl some ↦
      let k : o ≡ Some value = rw (lt-ltb 0 len some) at same in
      rw (k, behind some) (e ∙ rw (lt-ltb 0 len some) refl)
  | inr none ↦
      let z : len ≡ 0 = omega arith in
      let k : o ≡ None = rw z at same in
      let f : digits_from top 0 0 xs ≡ None = rw z at e in
      rw k f
]

pub ends_all : (top value len : ℕ) (xs rest : List ℕ) (o : Option ℕ) → len ≡ length xs → digits_from top 0 0 xs ≡ digits_from top value len (drop len xs)
    → o ≡ (if nat_lt 0 (length xs) then Some value else None) → (0 < length xs → rest ≡ drop (length xs) xs) → Gives o rest (digits_from top 0 0 xs)
unfolding digits_from
ends_all top value len xs rest o all e same behind =
    let d : drop len xs ≡ [] = drop_all len xs (omega arith) in
    ends_give top value len xs rest o (e ∙ rw d refl) (rw all same) (rw all behind)

-- ---- the bytes read are the text of the number

digits_end-some : (value len : ℕ) (xs : List ℕ) (v : ℕ) (rest : List ℕ) → digits_end value len xs ≡ Some (v, rest)
    → (0 < len) × (value ≡ v) × (xs ≡ rest)
digits_end-some value len xs v rest h = elim (cases_lt 0 len) [
  | inl some ↦
      let k = rw (lt-ltb 0 len some) at h in
      let p : (value ≡ v) × (xs ≡ rest) = grind arith in
      (some, p.0, p.1)
  | inr none ↦ let e : len ≡ 0 = omega arith in cc (rw e at h)
]

next-front : (top value len b : ℕ) (front : List ℕ) → top ≤ 10 ^ 64 → is_ascii_digit b ≡ true → is_leading_zero value len ≡ false
    → value * 10 + (b - 48) < top
    → (len ≡ 0 → (front ≡ []) × (value ≡ 0)) → (0 < len → front ≡ decimal value)
    → front ++ b ∷ [] ≡ decimal (value * 10 + (b - 48))
next-front top value len b front bound d z small start run =
    let range : (48 ≤ b) × (b ≤ 57) = grind arith in
    elim (cases_lt 0 len) [
      | inl some ↦
          let other : 0 < value = grind arith in
          let step = decimal_step_wide (value * 10 + (b - 48)) (omega arith) (omega arith) in
          let up : (value * 10 + (b - 48)) / 10 ≡ value = omega arith in
          let low : 48 + (value * 10 + (b - 48)) % 10 ≡ b = omega arith in
          rw (run some) (sym (rw (up, low) at step))
      | inr none ↦
          let s = start (omega arith) in
          let e : value * 10 + (b - 48) ≡ b - 48 = rw s.1 (omega arith) in
          let low : 48 + (b - 48) ≡ b = omega arith in
          rw (s.0, e, decimal_digit (b - 48) (omega arith), low) refl
    ]

digits-text : (top value len : ℕ) (xs front : List ℕ) (v : ℕ) (rest : List ℕ)
    → top ≤ 10 ^ 64 → (len ≡ 0 → (front ≡ []) × (value ≡ 0)) → (0 < len → front ≡ decimal value) → value < top
    → digits_from top value len xs ≡ Some (v, rest)
    → (front ++ xs ≡ decimal v ++ rest) × (v < top)
unfolding digits_from
digits-text top value len [] front v rest bound start run fits h =
    let d = digits_end-some value len [] v rest h in
    (rw (run d.0, d.1, ← d.2) refl, rw (← d.1) fits)
digits-text top value len (b ∷ r) front v rest bound start run fits h =
    elim (cases_Bool (is_ascii_digit b)) [
      | inl digit ↦ elim (cases_Bool (is_leading_zero value len)) [
        | inl leading ↦ cc (rw (digit, leading) at h)
        | inr plain ↦ elim (cases_lt (value * 10 + (b - 48)) top) [
          | inl small ↦
              let more = rw (digit, plain, lt-ltb _ _ small) at h in
              let next = next-front top value len b front bound digit plain small start run in
              let ih = digits-text top (value * 10 + (b - 48)) (len + 1) r (front ++ b ∷ []) v rest bound (λ e. absurd (omega arith)) (λ _. next) small more in
              (sym (append_assoc front (b ∷ []) r) ∙ ih.0, ih.1)
          | inr big ↦ cc (rw (digit, plain, le-ltb _ _ big) at h)
        ]
      ]
      | inr other ↦
          let d = digits_end-some value len (b ∷ r) v rest (rw other at h) in
          (rw (run d.0, d.1, d.2) refl, rw (← d.1) fits)
    ]

-- a number that was read is the text of its value, with the rest after it
pub digits_found : (top : ℕ) (xs : List ℕ) (v : ℕ) (rest : List ℕ) → 0 < top → top ≤ 10 ^ 64 → digits_from top 0 0 xs ≡ Some (v, rest)
    → (xs ≡ decimal v ++ rest) × (v < top)
digits_found top xs v rest some bound h = digits-text top 0 0 xs [] v rest bound (λ _. (refl, refl)) (λ e. absurd (omega arith)) some h

-- ---- the text of a number reads back

digits-cons : (top value len b : ℕ) (r : List ℕ) → is_ascii_digit b ≡ true → is_leading_zero value len ≡ false
    → value * 10 + (b - 48) < top → digits_from top value len (b ∷ r) ≡ digits_from top (value * 10 + (b - 48)) (len + 1) r
unfolding digits_from
digits-cons top value len b r d z small = rw (d, z, lt-ltb _ _ small) refl

abbrev Runs : ℕ → ℕ → List ℕ → Type 0
Runs top n ds = n < top → (rest : List ℕ) → digits_from top 0 0 (ds ++ rest) ≡ digits_from top n (length ds) rest

digits-run : (top n : ℕ) → top ≤ 10 ^ 64 → n < top → (rest : List ℕ)
    → digits_from top 0 0 (decimal n ++ rest) ≡ digits_from top n (length (decimal n)) rest
digits-run top n bound fits rest = decimal_by_steps_wide (Runs top)
    (λ k low small r.
    let d : is_ascii_digit (48 + k) ≡ true = grind arith in
    let e : 0 * 10 + ((48 + k) - 48) ≡ k = omega arith in
    digits-cons top 0 0 (48 + k) r d refl (omega arith) ∙ rw e refl)
    (λ k ds big ih small r.
    let less : k / 10 < top = omega arith in
    let g = 48 + k % 10 in
    let d : is_ascii_digit g ≡ true = grind arith in
    let z : is_leading_zero (k / 10) (length ds) ≡ false = grind arith in
    let e : (k / 10) * 10 + (g - 48) ≡ k = omega arith in
    let l : length ds + 1 ≡ length (ds ++ g ∷ []) = sym (length-append ds (g ∷ [])) in
    rw (append_assoc ds (g ∷ []) r) (ih less (g ∷ r) ∙ digits-cons top (k / 10) (length ds) g r d z (omega arith) ∙ rw (e, l) refl))
    n (omega arith) fits rest

-- whether a text begins with a digit
abbrev pub starts_digit : List ℕ → Bool
starts_digit [] = false
starts_digit (b ∷ r) = is_ascii_digit b

pub digits_again : (top v : ℕ) (rest : List ℕ) → top ≤ 10 ^ 64 → v < top → starts_digit rest ≡ false
    → digits_from top 0 0 (decimal v ++ rest) ≡ Some (v, rest)
unfolding digits_from
digits_again top v [] bound fits h =
    let some = (decimal_is_IsNumeral_wide v (omega arith)).0.0 in
    rw (digits-run top v bound fits [], lt-ltb 0 (length (decimal v)) some) refl
digits_again top v (b ∷ r) bound fits h =
    let some = (decimal_is_IsNumeral_wide v (omega arith)).0.0 in
    rw (digits-run top v bound fits (b ∷ r), h, lt-ltb 0 (length (decimal v)) some) refl

-- The level by digits and the level by bits are one.
use Rattle.std.proofs.Common.{arith, ◌≡◌, zero, suc, ℕ, ◌+◌, ◌-◌, ◌*◌, ◌^◌, ◌/◌, ◌<◌, ◌≤◌, inl, inr, refl, sym, ap, ◌∙◌, subst, pow-add}
use Rattle.std.proofs.lemmas.Bool.Decides.{eqb_tells}
use Rattle.std.proofs.lemmas.Bool.{cases_lt}
use Rattle.std.proofs.lemmas.Nat.{xor_shr, or_shr, and_le_l, and_le_r, le_or_r, leading_top, pow_pos}
use Rattle.std.proofs.Math.Pow.{pow_mono}
use Rattle.std.proofs.Math.Nat.{div-lt_iff_lt-mul, div-eq_of_lt, pow-succ'}
use Rattle.std.specs.Int.Bits.{bit_and, bit_or, bit_xor, xor_self, xor_add_and, or_zero_r}
use Rattle.std.specs.Int.Count.{count_leading_zeros}
use Rattle.mono_wheel.specs.Start.{above, far_digit, differing, IsLevel, level_count, top_level, reach}

-- 64 ^ k as a power of 2
pub pow_64 : (k : ℕ) → 64 ^ k ≡ 2 ^ (6 * k)
pow_64 zero = refl
pow_64 (suc k) =
    let e : 6 * suc k ≡ 6 + 6 * k = omega arith in
    pow-succ' 64 k ∙ ap (λ z. 64 * z) (pow_64 k) ∙ sym (pow-add 2 6 (6 * k)) ∙ ap (λ z. 2 ^ z) (sym e)

xor-zero : (a b : ℕ) → bit_xor a b ≡ 0 → a ≡ b
xor-zero a b e =
    let s : bit_xor a b + bit_and a b * 2 ≡ a + b = xor_add_and a b in
    let l : bit_and a b ≤ a = and_le_l a b in
    let r : bit_and a b ≤ b = and_le_r a b in
    omega (arith, s, l, r, e)

-- the bits in which the parts above the lowest differ
shifted : (a b k : ℕ) → 63 < 2 ^ k → differing a b / 2 ^ k ≡ bit_xor (a / 2 ^ k) (b / 2 ^ k)
shifted a b k h =
    or_shr (bit_xor a b) 63 k ∙ ap (λ z. bit_or z (63 / 2 ^ k)) (xor_shr a b k)
    ∙ ap (bit_or (bit_xor (a / 2 ^ k) (b / 2 ^ k))) (div-eq_of_lt h) ∙ or_zero_r (bit_xor (a / 2 ^ k) (b / 2 ^ k))

same-below : (a b k : ℕ) → 63 < 2 ^ k → a / 2 ^ k ≡ b / 2 ^ k → differing a b < 2 ^ k
same-below a b k h e =
    let none : differing a b / 2 ^ k ≡ 0 = shifted a b k h ∙ ap (λ z. bit_xor z (b / 2 ^ k)) e ∙ xor_self (b / 2 ^ k) in
    let less : differing a b < 1 * 2 ^ k = (div-lt_iff_lt-mul {k = 2 ^ k} {x = differing a b} {y = 1} (pow_pos k)).0 (omega (arith, none)) in
    omega (arith, less)

below-same : (a b k : ℕ) → 63 < 2 ^ k → differing a b < 2 ^ k → a / 2 ^ k ≡ b / 2 ^ k
below-same a b k h l = xor-zero (a / 2 ^ k) (b / 2 ^ k) (sym (shifted a b k h) ∙ div-eq_of_lt l)

pow_64_above : (k : ℕ) → 63 < 64 ^ suc k
pow_64_above k =
    let p : 2 ^ 6 ≤ 2 ^ (6 * suc k) = pow_mono {i = 6} {j = 6 * suc k} (omega arith) in
    let e : 64 ^ suc k ≡ 2 ^ (6 * suc k) = pow_64 (suc k) in
    omega (arith, p, e)

-- the digit by the bits that differ
pub record Bounds (top elapsed tick digit : ℕ) : Type 0 where
  pub most : digit ≤ top
  pub low : 0 < digit → 64 ^ digit ≤ differing elapsed tick
  pub high : digit < top → differing elapsed tick < 64 ^ suc digit

bounds : (top elapsed tick : ℕ) → Bounds top elapsed tick (far_digit top elapsed tick)
bounds zero elapsed tick = record { most = omega arith; low = λ h. absurd (omega (arith, h)); high = λ h. absurd (omega (arith, h)) }
bounds (suc top) elapsed tick = elim (eqb_tells (above (suc top) elapsed) (above (suc top) tick)) [
  | inl h ↦ rw h.0 (
      let b = bounds top elapsed tick in
      record {
        most = let m = b.most in omega (arith, m);
        low = b.low;
        high = λ l. elim (cases_lt (far_digit top elapsed tick) top) [
          | inl below ↦ b.high below
          | inr at ↦
              let m = b.most in
              let same : far_digit top elapsed tick ≡ top = omega (arith, m, at) in
              subst (λ d. differing elapsed tick < 64 ^ suc d) (sym same) (subst (λ p. differing elapsed tick < p) (sym (pow_64 (suc top))) (same-below elapsed tick (6 * suc top) (subst (λ p. 63 < p) (pow_64 (suc top)) (pow_64_above top)) (subst (λ p. elapsed / p ≡ tick / p) (pow_64 (suc top)) h.1)))
        ];
      })
  | inr h ↦ rw h.0 (record {
    most = omega arith;
    low = λ _. elim (cases_lt (differing elapsed tick) (64 ^ suc top)) [
      | inl below ↦ absurd (h.1 (subst (λ p. elapsed / p ≡ tick / p) (sym (pow_64 (suc top))) (below-same elapsed tick (6 * suc top) (subst (λ p. 63 < p) (pow_64 (suc top)) (pow_64_above top)) (subst (λ p. differing elapsed tick < p) (pow_64 (suc top)) below))))
      | inr at ↦ at
    ];
    high = λ l. absurd (omega (arith, l));
  })
]

-- the place of a highest bit is below that of a power above
place_below : (bit k m : ℕ) → 2 ^ bit ≤ m → m < 2 ^ k → bit < k
place_below bit k m l h = elim (cases_lt bit k) [
  | inl below ↦ below
  | inr at ↦ let p : 2 ^ k ≤ 2 ^ bit = pow_mono {i = k} {j = bit} at in absurd (omega (arith, p, l, h))
]

-- The level of the rule is the digit.
pub rule-digit : (elapsed tick level : ℕ) → IsLevel elapsed tick level → level ≡ far_digit top_level elapsed tick
rule-digit elapsed tick level rule =
    let d : ℕ = far_digit top_level elapsed tick in
    let b : Bounds top_level elapsed tick (far_digit top_level elapsed tick) = bounds top_level elapsed tick in
    let most : far_digit top_level elapsed tick ≤ top_level = b.most in
    elim (cases_lt (differing elapsed tick) (reach - 1)) [
      | inl near ↦
          let found = rule.near near in
          let low : (0 < far_digit top_level elapsed tick) → 6 * far_digit top_level elapsed tick < found.0 + 1 = λ z. place_below (6 * far_digit top_level elapsed tick) (found.0 + 1) (differing elapsed tick) (subst (λ p. p ≤ differing elapsed tick) (pow_64 (far_digit top_level elapsed tick)) (b.low z)) found.2 in
          let high : (far_digit top_level elapsed tick < top_level) → found.0 < 6 * suc (far_digit top_level elapsed tick) = λ z. place_below found.0 (6 * suc (far_digit top_level elapsed tick)) (differing elapsed tick) found.1 (subst (λ p. differing elapsed tick < p) (pow_64 (suc (far_digit top_level elapsed tick))) (b.high z)) in
          let top : found.0 < 6 * level_count = place_below found.0 (6 * level_count) (differing elapsed tick) found.1 (omega (arith, near)) in
          let is : level ≡ found.0 / 6 = found.3 in
          elim (cases_lt (far_digit top_level elapsed tick) top_level) [
            | inl below ↦
                let h = high below in
                elim (cases_lt 0 (far_digit top_level elapsed tick)) [ inl above ↦ let l = low above in omega (arith, h, l, is) | inr none ↦ omega (arith, h, none, is) ]
            | inr at ↦ let l = low (omega (arith, at)) in omega (arith, l, at, most, top, is)
          ]
      | inr far ↦
          let is : level ≡ top_level = rule.far far in
          elim (cases_lt (far_digit top_level elapsed tick) top_level) [
            | inl below ↦
                let h : differing elapsed tick < 2 ^ (6 * suc (far_digit top_level elapsed tick)) = subst (λ p. differing elapsed tick < p) (pow_64 (suc (far_digit top_level elapsed tick))) (b.high below) in
                let p : 2 ^ (6 * suc (far_digit top_level elapsed tick)) ≤ 2 ^ (6 * top_level) = pow_mono {i = 6 * suc (far_digit top_level elapsed tick)} {j = 6 * top_level} (omega (arith, below)) in
                absurd (omega (arith, h, p, far))
            | inr at ↦ omega (arith, at, is, most)
          ]
    ]

pub rule-far : (elapsed tick : ℕ) → reach - 1 ≤ differing elapsed tick → IsLevel elapsed tick top_level
rule-far elapsed tick far = record { far = λ _. refl; near = λ near. absurd (omega (arith, far, near)) }

pub rule-near : (elapsed tick : ℕ) → differing elapsed tick < reach - 1 → (count_leading_zeros 64 (differing elapsed tick) ≤ 63) × IsLevel elapsed tick ((63 - count_leading_zeros 64 (differing elapsed tick)) / 6)
rule-near elapsed tick near =
    let some : 63 ≤ differing elapsed tick = le_or_r (bit_xor elapsed tick) 63 in
    let found = leading_top 64 (differing elapsed tick) (omega (arith, some)) (omega (arith, near)) in
    let place : count_leading_zeros 64 (differing elapsed tick) + suc found.0 ≡ 64 = found.1 in
    let is : 63 - count_leading_zeros 64 (differing elapsed tick) ≡ found.0 = omega (arith, place) in (
      omega (arith, place),
      record {
        far = λ far. absurd (omega (arith, far, near));
        near = λ _. (found.0, found.2, subst (λ n. differing elapsed tick < 2 ^ n) (let e : suc found.0 ≡ found.0 + 1 = omega arith in e) found.3, ap (λ n. n / 6) is);
      },
    )

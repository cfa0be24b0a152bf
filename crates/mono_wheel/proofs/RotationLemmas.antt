-- The bits of a number that was turned round.
use Rattle.std.proofs.Common.{arith, ◌≡◌, ℕ, ◌+◌, ◌-◌, ◌*◌, ◌/◌, ◌%◌, ◌^◌, ◌<◌, ◌≤◌, max, bit_or, w64, inl, inr, sym, ap, ◌∙◌}
use Rattle.std.specs.Int.{bit_at, rotate_right}
use Rattle.std.proofs.Math.Nat.{mod-lt}
use Rattle.std.proofs.lemmas.Bool.{cases_lt}
use Rattle.std.proofs.lemmas.Nat.{div-add-mod', pow_pos}
use Rattle.std.proofs.lemmas.Nat.Bits.{bit_at_or, bit_at-zero, bit_at_above, bit_at_cat_low, bit_at_cat_high}

low-part : (n k : ℕ) → n % 2 ^ k < 2 ^ k
low-part n k = mod-lt n (pow_pos k)

-- the bits of `n >> r`
bit-down : (n r i : ℕ) → bit_at (n / 2 ^ r) i ≡ bit_at n (r + i)
bit-down n r i =
    ap (bit_at (n / 2 ^ r)) (let e : i ≡ r + i - r = omega arith in e)
    ∙ sym (bit_at_cat_high (n / 2 ^ r) r (n % 2 ^ r) (r + i) (low-part n r) (omega arith))
    ∙ ap (λ z. bit_at z (r + i)) (div-add-mod' n (2 ^ r))

-- those of `n << s`
bit-under : (n s i : ℕ) → i < s → bit_at (n * 2 ^ s) i ≡ 0
bit-under n s i l = ap (λ z. bit_at z i) (let e : n * 2 ^ s ≡ n * 2 ^ s + 0 = omega arith in e) ∙ bit_at_cat_low n s 0 i l ∙ bit_at-zero i

bit-over : (n s i : ℕ) → s ≤ i → bit_at (n * 2 ^ s) i ≡ bit_at n (i - s)
bit-over n s i l = ap (λ z. bit_at z i) (let e : n * 2 ^ s ≡ n * 2 ^ s + 0 = omega arith in e) ∙ bit_at_cat_high n s 0 i (pow_pos s) l

bit-kept : (n i : ℕ) → i < 64 → bit_at (n % 2 ^ 64) i ≡ bit_at n i
bit-kept n i l = sym (bit_at_cat_low (n / 2 ^ 64) 64 (n % 2 ^ 64) i l) ∙ ap (λ z. bit_at z i) (div-add-mod' n (2 ^ 64))

max-both : (a b x : ℕ) → a ≡ x → b ≡ x → max a b ≡ x
max-both a b x e f = omega (arith, e, f)

max-second : (a b x : ℕ) → a ≡ 0 → b ≡ x → max a b ≡ x
max-second a b x e f = omega (arith, e, f)

max-first : (a b x : ℕ) → a ≡ x → b ≡ 0 → max a b ≡ x
max-first a b x e f = omega (arith, e, f)

turned-by : (n r i : ℕ) → n < 2 ^ 64 → r < 64 → i < 64 → bit_at (bit_or (n / 2 ^ r) ((n * 2 ^ ((64 - r) % 64)) % 2 ^ 64)) i ≡ bit_at n ((r + i) % 64)
turned-by n r i fits small low = bit_at_or (n / 2 ^ r) ((n * 2 ^ ((64 - r) % 64)) % 2 ^ 64) i ∙ elim (cases_lt i ((64 - r) % 64)) [
  | inl under ↦
      let here : r + i ≡ (r + i) % 64 = omega (arith, small, low, under) in
      max-first _ _ (bit_at n ((r + i) % 64)) (bit-down n r i ∙ ap (bit_at n) here) (bit-kept _ i low ∙ bit-under n ((64 - r) % 64) i under)
  | inr over ↦
      let here : i - (64 - r) % 64 ≡ (r + i) % 64 = omega (arith, small, low, over) in
      let second = bit-kept (n * 2 ^ ((64 - r) % 64)) i low ∙ bit-over n ((64 - r) % 64) i over ∙ ap (bit_at n) here in
      elim (cases_lt (r + i) 64) [
        | inl within ↦ max-both _ _ (bit_at n ((r + i) % 64)) (bit-down n r i ∙ ap (bit_at n) (let e : r + i ≡ (r + i) % 64 = omega (arith, within) in e)) second
        | inr past ↦ max-second _ _ (bit_at n ((r + i) % 64)) (bit-down n r i ∙ bit_at_above n 64 (r + i) fits past) second
      ]
]

-- bit i of `n.rotate_right(by)`
pub turned : (n by i : ℕ) → n < 2 ^ 64 → i < 64 → bit_at (rotate_right w64 n by) i ≡ bit_at n ((by + i) % 64)
turned n by i fits low =
    turned-by n (by % 64) i fits (mod-lt by (omega arith)) low ∙ ap (bit_at n) (let e : (by % 64 + i) % 64 ≡ (by + i) % 64 = omega arith in e)

-- The order in which the slots of keys start.
use Rattle.std.proofs.Common.{arith, ◌≡◌, ℕ, ◌+◌, ◌-◌, ◌*◌, ◌^◌, ◌/◌, ◌%◌, ◌<◌, ◌≤◌, inl, inr, ap, sym, ◌∙◌, subst}
use Rattle.std.proofs.lemmas.Bool.{cases_lt}
use Rattle.std.proofs.Math.Nat.{mod-lt}
use Rattle.mono_wheel.specs.Start.{above, far_digit, slot_of, start, top_level, slot_count}
use Rattle.mono_wheel.specs.Holdings.{place_of, ranked}
use Rattle.mono_wheel.proofs.StartLemmas.{pow-pos, spread-out, next_turn-turns, start-levels}
use Rattle.mono_wheel.proofs.PlaceLemmas.{far_digit-le}

-- how many slots after the one after this one that one comes, in a circle of 64
abbrev pub offset : ℕ → ℕ → ℕ
offset now goal = (goal + 63 - now) % 64

abbrev pub rank_of : ℕ → ℕ → ℕ
rank_of elapsed tick = far_digit top_level elapsed tick * 64 + offset (slot_of (far_digit top_level elapsed tick) elapsed) (slot_of (far_digit top_level elapsed tick) tick)

offset-back : (now goal : ℕ) → now < 64 → goal < 64 → (now + 1 + offset now goal) % 64 ≡ goal
offset-back now goal a b = omega (arith, a, b)

slot-low : (level tick : ℕ) → slot_of level tick < 64
slot-low level tick = mod-lt (above level tick) (omega arith)

rank-level : (k o : ℕ) → o < 64 → (k * 64 + o) / 64 ≡ k
rank-level k o b = omega (arith, b)

rank-offset : (k o : ℕ) → o < 64 → (k * 64 + o) % 64 ≡ o
rank-offset k o b = omega (arith, b)

pub ranked-parts : (elapsed k o : ℕ) → o < 64 → ranked elapsed (k * 64 + o) ≡ k * 64 + (slot_of k elapsed + 1 + o) % 64
ranked-parts elapsed k o b = ap (λ z. z * 64 + (slot_of z elapsed + 1 + (k * 64 + o) % 64) % 64) (rank-level k o b) ∙ ap (λ z. k * 64 + (slot_of k elapsed + 1 + z) % 64) (rank-offset k o b)

offset-low : (now goal : ℕ) → offset now goal < 64
offset-low now goal = mod-lt (goal + 63 - now) (omega arith)

pub rank-place : (elapsed tick : ℕ) → ranked elapsed (rank_of elapsed tick) ≡ place_of elapsed tick
rank-place elapsed tick =
    ranked-parts elapsed (far_digit top_level elapsed tick) _ (offset-low _ _)
    ∙ ap (λ z. far_digit top_level elapsed tick * 64 + z) (offset-back (slot_of (far_digit top_level elapsed tick) elapsed) (slot_of (far_digit top_level elapsed tick) tick) (slot-low _ _) (slot-low _ _))

pub rank-below : (elapsed tick : ℕ) → rank_of elapsed tick < slot_count
rank-below elapsed tick =
    let a : far_digit top_level elapsed tick ≤ top_level = far_digit-le top_level elapsed tick in
    let b : offset (slot_of (far_digit top_level elapsed tick) elapsed) (slot_of (far_digit top_level elapsed tick) tick) < 64 = offset-low _ _ in
    omega (arith, a, b)

turn-one : (n o p m : ℕ) → m < 64 → o < 64 → p < 64 → (m + 1 + o) % 64 ≡ (m + 1 + p) % 64 → o ≡ p
turn-one n o p m a b c e = omega (arith, a, b, c, e)

parts-level : (j k s t : ℕ) → s < 64 → t < 64 → j * 64 + s ≡ k * 64 + t → j ≡ k
parts-level j k s t a b e = omega (arith, a, b, e)

parts-slot : (j k s t : ℕ) → s < 64 → t < 64 → j * 64 + s ≡ k * 64 + t → s ≡ t
parts-slot j k s t a b e = omega (arith, a, b, e)

rank-whole : (r : ℕ) → r ≡ r / 64 * 64 + r % 64
rank-whole r = omega arith

ranked-same : (elapsed j k o p : ℕ) → o < 64 → p < 64 → j ≡ k → (slot_of j elapsed + 1 + o) % 64 ≡ (slot_of k elapsed + 1 + p) % 64 → j * 64 + o ≡ k * 64 + p
ranked-same elapsed j k o p a b e f =
    let g : (slot_of k elapsed + 1 + o) % 64 ≡ (slot_of k elapsed + 1 + p) % 64 = ap (λ z. (slot_of z elapsed + 1 + o) % 64) (sym e) ∙ f in
    let h : o ≡ p = turn-one 0 o p (slot_of k elapsed) (slot-low k elapsed) a b g in
    omega (arith, e, h)

-- one list has one place in the order
pub ranked-one : (elapsed r q : ℕ) → ranked elapsed r ≡ ranked elapsed q → r ≡ q
ranked-one elapsed r q e =
    let a : r % 64 < 64 = mod-lt r (omega arith) in
    let b : q % 64 < 64 = mod-lt q (omega arith) in
    let s : (slot_of (r / 64) elapsed + 1 + r % 64) % 64 < 64 = mod-lt _ (omega arith) in
    let t : (slot_of (q / 64) elapsed + 1 + q % 64) % 64 < 64 = mod-lt _ (omega arith) in
    rank-whole r ∙ ranked-same elapsed (r / 64) (q / 64) (r % 64) (q % 64) a b (parts-level (r / 64) (q / 64) _ _ s t e) (parts-slot (r / 64) (q / 64) _ _ s t e) ∙ sym (rank-whole q)

-- The start of the slot at this place of the order.
abbrev turn_start : ℕ → ℕ → ℕ → ℕ
turn_start elapsed k o = (above k elapsed + 1 + o) * 64 ^ k

start-turn : (elapsed tick : ℕ) → start top_level elapsed tick ≡ turn_start elapsed (far_digit top_level elapsed tick) (offset (slot_of (far_digit top_level elapsed tick) elapsed) (slot_of (far_digit top_level elapsed tick) tick))
start-turn elapsed tick = ap (λ z. z * 64 ^ far_digit top_level elapsed tick) (next_turn-turns (above (far_digit top_level elapsed tick) elapsed) (above (far_digit top_level elapsed tick) tick))

more-turns : (x n o p : ℕ) → 0 < n → o < p → (x + 1 + o) * n < (x + 1 + p) * n
more-turns x n o p z l =
    let whole : x + 1 + p ≡ x + 1 + o + 1 + (p - o - 1) = omega (arith, l) in
    let spread : (x + 1 + p) * n ≡ (x + 1 + o) * n + n + (p - o - 1) * n = ap (λ w. w * n) whole ∙ spread-out (x + 1 + o) (p - o - 1) n in
    omega (arith, spread, z)

turn-level : (elapsed j k o p : ℕ) → j ≡ k → o < p → turn_start elapsed j o < turn_start elapsed k p
turn-level elapsed j k o p e l = subst (λ z. turn_start elapsed j o < turn_start elapsed z p) e (more-turns (above j elapsed) (64 ^ j) o p (pow-pos j) l)

pub rank-less : (elapsed a b : ℕ) → elapsed < a → elapsed < b → rank_of elapsed a < rank_of elapsed b → start top_level elapsed a < start top_level elapsed b
rank-less elapsed a b x y l =
    let s : offset (slot_of (far_digit top_level elapsed a) elapsed) (slot_of (far_digit top_level elapsed a) a) < 64 = offset-low _ _ in
    let t : offset (slot_of (far_digit top_level elapsed b) elapsed) (slot_of (far_digit top_level elapsed b) b) < 64 = offset-low _ _ in
    elim (cases_lt (far_digit top_level elapsed a) (far_digit top_level elapsed b)) [
      | inl g ↦ start-levels top_level elapsed a b x y g
      | inr g ↦
          let e : far_digit top_level elapsed a ≡ far_digit top_level elapsed b = omega (arith, g, s, t, l) in
          let m : offset (slot_of (far_digit top_level elapsed a) elapsed) (slot_of (far_digit top_level elapsed a) a) < offset (slot_of (far_digit top_level elapsed b) elapsed) (slot_of (far_digit top_level elapsed b) b) = omega (arith, e, l) in
          let r = turn-level elapsed (far_digit top_level elapsed a) (far_digit top_level elapsed b) _ _ e m in
          let p = start-turn elapsed a in
          let q = start-turn elapsed b in
          omega (arith, p, q, r)
    ]

pub rank-same : (elapsed a b : ℕ) → rank_of elapsed a ≡ rank_of elapsed b → start top_level elapsed a ≡ start top_level elapsed b
rank-same elapsed a b e =
    let s : offset (slot_of (far_digit top_level elapsed a) elapsed) (slot_of (far_digit top_level elapsed a) a) < 64 = offset-low _ _ in
    let t : offset (slot_of (far_digit top_level elapsed b) elapsed) (slot_of (far_digit top_level elapsed b) b) < 64 = offset-low _ _ in
    let k = parts-level (far_digit top_level elapsed a) (far_digit top_level elapsed b) _ _ s t e in
    let o = parts-slot (far_digit top_level elapsed a) (far_digit top_level elapsed b) _ _ s t e in
    start-turn elapsed a ∙ ap (λ z. turn_start elapsed z (offset (slot_of (far_digit top_level elapsed a) elapsed) (slot_of (far_digit top_level elapsed a) a))) k ∙ ap (λ z. turn_start elapsed (far_digit top_level elapsed b) z) o ∙ sym (start-turn elapsed b)

pub rank-le : (elapsed a b : ℕ) → elapsed < a → elapsed < b → rank_of elapsed a ≤ rank_of elapsed b → start top_level elapsed a ≤ start top_level elapsed b
rank-le elapsed a b x y l = elim (cases_lt (rank_of elapsed a) (rank_of elapsed b)) [
  | inl g ↦ let r = rank-less elapsed a b x y g in omega (arith, r)
  | inr g ↦ let r = rank-same elapsed a b (omega (arith, l, g)) in omega (arith, r)
]

-- slots that start together are one
pub start-place : (elapsed a b : ℕ) → elapsed < a → elapsed < b → start top_level elapsed a ≡ start top_level elapsed b → place_of elapsed a ≡ place_of elapsed b
start-place elapsed a b x y e = elim (cases_lt (rank_of elapsed a) (rank_of elapsed b)) [
  | inl g ↦ absurd (let r = rank-less elapsed a b x y g in omega (arith, r, e))
  | inr g ↦ elim (cases_lt (rank_of elapsed b) (rank_of elapsed a)) [
    | inl f ↦ absurd (let r = rank-less elapsed b a y x f in omega (arith, r, e))
    | inr f ↦ sym (rank-place elapsed a) ∙ ap (ranked elapsed) (let s : rank_of elapsed a ≡ rank_of elapsed b = omega (arith, g, f) in s) ∙ rank-place elapsed b
  ]
]

pub place-start : (elapsed a b : ℕ) → place_of elapsed a ≡ place_of elapsed b → start top_level elapsed a ≡ start top_level elapsed b
place-start elapsed a b e = rank-same elapsed a b (ranked-one elapsed (rank_of elapsed a) (rank_of elapsed b) (rank-place elapsed a ∙ e ∙ sym (rank-place elapsed b)))

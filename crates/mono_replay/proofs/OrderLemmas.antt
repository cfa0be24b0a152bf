-- A list in an order that is one-way between its items has only one arrangement.
use Rattle.std.proofs.Common.{◌≡◌, ◌≢◌, ◌<◌, ◌⊎◌, inl, inr, ℕ, zero, suc, List, [], ◌∷◌, length, get_or, refl, sym, ap, subst, ◌∙◌, arith}
use Rattle.std.specs.Prelude.{AllPairs, Contains}
use Rattle.std.proofs.lemmas.Bool.{cases_eq}

first : (s : ℕ) (ss : List ℕ) → Contains (s ∷ ss) s
first s ss = (0, omega arith, refl)

later : (s q : ℕ) (ss : List ℕ) → Contains ss q → Contains (s ∷ ss) q
later s q ss (k, inside, at) = (suc k, omega (arith, inside), at)

cases : (s q : ℕ) (ss : List ℕ) → Contains (s ∷ ss) q → (s ≡ q) ⊎ Contains ss q
cases s q ss (zero, inside, at) = inl at
cases s q ss (suc k, inside, at) = inr (k, omega (arith, inside), at)

-- one that is not the first is later
not_first : (s q : ℕ) (ss : List ℕ) → (s ≢ q) → Contains (s ∷ ss) q → Contains ss q
not_first s q ss apart there = elim (cases s q ss there) [
  | inl here ↦ absurd (apart here)
  | inr rest ↦ rest
]

before : (R : ℕ → ℕ → Type 0) (s q : ℕ) (ss : List ℕ) → AllPairs R (s ∷ ss) → Contains ss q → R s q
before R s q ss pairs (k, inside, at) = subst (R s) at (pairs 0 (suc k) q (omega arith) (omega (arith, inside)))

tail : (R : ℕ → ℕ → Type 0) (s : ℕ) (ss : List ℕ) → AllPairs R (s ∷ ss) → AllPairs R ss
tail R s ss pairs = λ i j d below inside. pairs (suc i) (suc j) d (omega (arith, below)) (omega (arith, inside))

abbrev Distinct : List ℕ → Type 0
Distinct ss = AllPairs (λ s t. s ≢ t) ss

-- a later item of the one list is a later item of the other, if both begin with the same
moved : (x y q : ℕ) (xs ys : List ℕ) → x ≡ y → Distinct (x ∷ xs) → (Contains (x ∷ xs) q → Contains (y ∷ ys) q) → Contains xs q → Contains ys q
moved x y q xs ys same apart to there =
    not_first y q ys (λ here. before (λ s t. s ≢ t) x q xs apart there (same ∙ here)) (to (later x q xs there))

pub one_list : (R : ℕ → ℕ → Type 0) (D : ℕ → Type 0) → ((s t : ℕ) → D s → D t → R s t → R t s → ⊥) → (xs ys : List ℕ)
    → Distinct xs → Distinct ys → AllPairs R xs → AllPairs R ys
    → ((q : ℕ) → Contains xs q → Contains ys q) → ((q : ℕ) → Contains ys q → Contains xs q) → ((q : ℕ) → Contains xs q → D q) → xs ≡ ys
one_list R D one_way [] [] dx dy rx ry to from given = refl
one_list R D one_way [] (y ∷ ys) dx dy rx ry to from given =
    let there = from y (first y ys) in
    absurd (omega (arith, there.1))
one_list R D one_way (x ∷ xs) [] dx dy rx ry to from given =
    let there = to x (first x xs) in
    absurd (omega (arith, there.1))
one_list R D one_way (x ∷ xs) (y ∷ ys) dx dy rx ry to from given = elim (cases_eq x y) [
  | inl same ↦
      let rest = one_list R D one_way xs ys (tail (λ s t. s ≢ t) x xs dx) (tail (λ s t. s ≢ t) y ys dy) (tail R x xs rx) (tail R y ys ry)
      (λ q there. moved x y q xs ys same dx (to q) there) (λ q there. moved y x q ys xs (sym same) dy (from q) there) (λ q there. given q (later x q xs there)) in
      ap (λ s. s ∷ xs) same ∙ ap (λ ss. y ∷ ss) rest
  | inr apart ↦
      let y_later : Contains xs y = not_first x y xs apart (from y (first y ys)) in
      let x_later : Contains ys x = not_first y x ys (λ same. apart (sym same)) (to x (first x xs)) in
      absurd (one_way x y (given x (first x xs)) (given y (later x y xs y_later)) (before R x y xs rx y_later) (before R y x ys ry x_later))
]

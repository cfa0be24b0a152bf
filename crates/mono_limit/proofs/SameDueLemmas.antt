-- Two lists of what is due at one clock step.
use Rattle.std.proofs.Common.{◌≡◌, ◌<◌, ◌≤◌, inl, inr, ℕ, ◌+◌, zero, suc, true, false, Bool, List, [], ◌∷◌, length, map, get_or, Some, None, Option, refl, ap, sym, ◌∙◌, arith}
use Rattle.std.specs.Prelude.{AllPairs, Contains, ◌==◌}
use Rattle.std.proofs.lemmas.Bool.Decides.{eqb_tells}
use Rattle.std.proofs.lemmas.List.Elements.{Contains-get_or}
use Rattle.mono_model.specs.Table.{Table, value_at}
use Rattle.mono_model.specs.Due.{ListsDue, HasCome}
use Rattle.mono_model.specs.Valid.{times, once_if}
use Rattle.mono_limit.specs.declared.schedules.Schedule.{Schedule}
use Rattle.mono_limit.specs.Schedules.{waiting_value}
use Rattle.mono_limit.proofs.WaitLemmas.{times-none, times-once, is_in_or_out}

-- ---- the same numbers as often
abbrev pub AsOften : List ℕ → List ℕ → Type 0
AsOften xs ys = (r : ℕ) → times xs r ≡ times ys r

-- a list without the first x
abbrev left_if : Bool → ℕ → List ℕ → List ℕ → List ℕ
left_if true y ys more = ys
left_if false y ys more = y ∷ more

abbrev without_one : ℕ → List ℕ → List ℕ
without_one x [] = []
without_one x (y ∷ ys) = left_if (y == x) y ys (without_one x ys)

once_same : (x : ℕ) → once_if (x == x) ≡ 1
once_same x = elim (eqb_tells x x) [ inl t ↦ ap once_if t.0 | inr t ↦ absurd (t.1 refl) ]

-- it has x once less, and so has its image under a function
fewer : (g : ℕ → ℕ) (x : ℕ) (ys : List ℕ) (t : ℕ) → 0 < times ys x → times (map g (without_one x ys)) t + once_if (g x == t) ≡ times (map g ys) t
fewer g x [] t some = absurd (omega (arith, some))
fewer g x (y ∷ ys) t some = elim (eqb_tells y x) [
  | inl here ↦ omega (
    arith,
    ap (λ b. times (map g (left_if b y ys (without_one x ys))) t) here.0,
    ap (λ n. once_if (g n == t)) here.1,
  )
  | inr apart ↦
      omega (arith, ap (λ b. times (map g (left_if b y ys (without_one x ys))) t) apart.0, fewer g x ys t (omega (arith, some, ap once_if apart.0)))
]

map_itself : (xs : List ℕ) → map (λ n. n) xs ≡ xs
map_itself [] = refl
map_itself (x ∷ xs) = ap (λ ys. x ∷ ys) (map_itself xs)

fewer_itself : (x : ℕ) (ys : List ℕ) (t : ℕ) → 0 < times ys x → times (without_one x ys) t + once_if (x == t) ≡ times ys t
fewer_itself x ys t some =
    omega (arith, fewer (λ n. n) x ys t some, ap (λ l. times l t) (map_itself (without_one x ys)), ap (λ l. times l t) (map_itself ys))

-- and so have the images of two such lists
image : (g : ℕ → ℕ) (xs ys : List ℕ) → AsOften xs ys → AsOften (map g xs) (map g ys)
image g [] [] same t = refl
image g [] (y ∷ ys) same t = absurd (omega (arith, same y, once_same y))
image g (x ∷ xs) ys same t =
    let some : 0 < times ys x = omega (arith, same x, once_same x) in
    omega (arith, image g xs (without_one x ys) (λ r. omega (arith, same r, fewer_itself x ys r some)) t, fewer g x ys t some)

-- ---- lists that ascend
abbrev Rises : List ℕ → Type 0
Rises xs = AllPairs (λ a b. a ≤ b) xs

found : (xs : List ℕ) (s : ℕ) → 0 < times xs s → Contains xs s
found xs s some = elim (is_in_or_out xs s) [ inl c ↦ c | inr out ↦ absurd (omega (arith, some, times-none xs s out)) ]

least_first : (x : ℕ) (xs : List ℕ) (s : ℕ) → Rises (x ∷ xs) → Contains (x ∷ xs) s → x ≤ s
least_first x xs s rises (zero, inside, at) = omega (arith, at)
least_first x xs s rises (suc k, inside, at) = omega (arith, at, rises 0 (suc k) s (omega arith) inside)

rest_rises : (x : ℕ) (xs : List ℕ) → Rises (x ∷ xs) → Rises xs
rest_rises x xs rises = λ i j d below inside. rises (suc i) (suc j) d (omega (arith, below)) (omega (arith, inside))

one_order : (xs ys : List ℕ) → Rises xs → Rises ys → AsOften xs ys → xs ≡ ys
one_order [] [] p q same = refl
one_order [] (y ∷ ys) p q same = absurd (omega (arith, same y, once_same y))
one_order (x ∷ xs) [] p q same = absurd (omega (arith, same x, once_same x))
one_order (x ∷ xs) (y ∷ ys) p q same =
    let first : y ≤ x = least_first y ys x q (found (y ∷ ys) x (omega (arith, same x, once_same x))) in
    let second : x ≤ y = least_first x xs y p (found (x ∷ xs) y (omega (arith, same y, once_same y))) in
    let here : x ≡ y = omega (arith, first, second) in
    ap (λ n. n ∷ xs) here ∙ ap (λ l. y ∷ l) (one_order xs ys (rest_rises x xs p) (rest_rises y ys q) (λ r. omega (arith, same r, ap (λ n. once_if (n == r)) here)))

-- ---- two lists of what is due
module _ (rows : Table Schedule) (g : ℕ) where
  abbrev tick_at : ℕ → Option ℕ
  tick_at r = waiting_value (value_at rows r)

  abbrev number_in : Option ℕ → ℕ
  number_in None = 0
  number_in (Some tick) = tick

  abbrev number_at : ℕ → ℕ
  number_at r = number_in (tick_at r)

  number_of : (v : Option ℕ) → HasCome g v → v ≡ Some (number_in v)
  number_of None come = absurd come
  number_of (Some tick) come = refl

  pub as_often : (due other : List ℕ) → ListsDue waiting_value rows g due → ListsDue waiting_value rows g other → AsOften due other
  as_often due other p q r = elim (is_in_or_out due r) [
    | inl c ↦ times-once due r p.no_doubles c ∙ sym (times-once other r q.no_doubles ((q.all_due r).1 ((p.all_due r).0 c)))
    | inr out ↦ times-none due r out ∙ sym (times-none other r (λ c. out ((p.all_due r).1 ((q.all_due r).0 c))))
  ]

  -- each has a tick
  numbered : (xs : List ℕ) → ((s : ℕ) → Contains xs s → HasCome g (tick_at s)) → map tick_at xs ≡ map Some (map number_at xs)
  numbered [] all = refl
  numbered (x ∷ xs) all =
      ap (λ v. v ∷ map tick_at xs) (number_of (tick_at x) (all x (0, omega arith, refl)))
      ∙ ap (λ l. Some (number_at x) ∷ l) (numbered xs (λ s c. all s (suc c.0, omega (arith, c.1), c.2)))

  mapped_at : (xs : List ℕ) (i : ℕ) (d e : ℕ) → i < length xs → get_or (map number_at xs) i e ≡ number_at (get_or xs i d)
  mapped_at [] i d e inside = absurd (omega (arith, inside))
  mapped_at (x ∷ xs) zero d e inside = refl
  mapped_at (x ∷ xs) (suc i) d e inside = mapped_at xs i d e (omega (arith, inside))

  mapped_length : (xs : List ℕ) → length (map number_at xs) ≡ length xs
  mapped_length [] = refl
  mapped_length (x ∷ xs) = ap suc (mapped_length xs)

  rises : (due : List ℕ) → ListsDue waiting_value rows g due → Rises (map number_at due)
  rises due p = λ i j d below inside.
      let within : j < length due = omega (arith, inside, mapped_length due) in
      let first : ℕ = get_or due i 0 in
      let second : ℕ = get_or due j 0 in
      let up : number_at first ≤ number_at second = p.in_order i j 0 below within (number_at first) (number_at second)
      (number_of (tick_at first) ((p.all_due first).0 (Contains-get_or due i 0 (omega (arith, below, within)))))
      (number_of (tick_at second) ((p.all_due second).0 (Contains-get_or due j 0 within))) in
      omega (arith, up, mapped_at due i 0 d (omega (arith, below, within)), mapped_at due j 0 d within)

  pub same_ticks : (due other : List ℕ) → ListsDue waiting_value rows g due → ListsDue waiting_value rows g other → map tick_at due ≡ map tick_at other
  same_ticks due other p q =
      numbered due (λ s c. (p.all_due s).0 c)
      ∙ ap (map Some) (one_order (map number_at due) (map number_at other) (rises due p) (rises other q) (image number_at due other (as_often due other p q)))
      ∙ sym (numbered other (λ s c. (q.all_due s).0 c))

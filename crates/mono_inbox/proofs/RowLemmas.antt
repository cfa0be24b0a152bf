-- Rows of tasks that are made known, and lists of tasks that are made unknown.
use Rattle.std.proofs.Common.{◌≡◌, ◌≢◌, ◌<◌, ◌≤◌, inl, inr, ℕ, ◌+◌, ◌-◌, zero, suc, Bool, true, false, List, [], ◌∷◌, length, get_or, drop, refl, ap, sym, ◌∙◌, arith, eq-eqb, ne_eqb, length-drop}
use Rattle.std.specs.Prelude.{◌==◌, ◌||◌, ◌&&◌, not, nat_lt}
use Rattle.std.proofs.lemmas.Bool.{cases_eq, cases_lt}
use Rattle.std.proofs.lemmas.List.{nil_from_length}
use Rattle.std.proofs.Math.Seq.{drop-cons}
use Rattle.mono_model.specs.Inbox.{is_waiting}
use Rattle.mono_inbox.specs.State.{in_row}
use Rattle.mono_inbox.proofs.LayoutLemmas.{lt_true, lt_false}

-- no number is one of an empty row
pub row_start : (from t : ℕ) (o : Bool) → o ≡ (in_row from from t || o)
row_start from t o = elim (cases_lt t from) [
  | inl less ↦ rw (lt_true t from less) refl
  | inr more ↦ rw (lt_false t from more) refl
]

-- the last number of a row is the one before its end
row_ends : (from k t : ℕ) → from ≤ k → t ≡ k → in_row from (k + 1) t ≡ true
row_ends from k t begun same = rw (lt_false t from (omega (arith, begun, same)), lt_true t (k + 1) (omega (arith, same))) refl

row_below : (from k t : ℕ) → t ≢ k → in_row from (k + 1) t ≡ in_row from k t
row_below from k t apart = elim (cases_lt t k) [
  | inl less ↦ rw (lt_true t k less, lt_true t (k + 1) (omega (arith, less))) refl
  | inr more ↦ rw (lt_false t k more, lt_false t (k + 1) (omega (arith, more, apart))) refl
]

-- a row is one longer
pub row_more : (from k t : ℕ) (o middle now : Bool) → from ≤ k → now ≡ ((t == k) || middle) → middle ≡ (in_row from k t || o) → now ≡ (in_row from (k + 1) t || o)
row_more from k t o middle now begun step before = step ∙ ap (λ b. (t == k) || b) before ∙ (elim (cases_eq t k) [
  | inl same ↦ rw (eq-eqb t k same, row_ends from k t begun same) refl
  | inr apart ↦ rw (ne_eqb t k apart, row_below from k t apart) refl
])

eqb_turned : (a b : ℕ) → (a == b) ≡ (b == a)
eqb_turned a b = elim (cases_eq a b) [
  | inl same ↦ rw (eq-eqb a b same, eq-eqb b a (sym same)) refl
  | inr apart ↦ rw (ne_eqb a b apart, ne_eqb b a (λ same. apart (sym same))) refl
]

one_of_two : (rest first k : Bool) → (not rest && (not first && k)) ≡ (not (first || rest) && k)
one_of_two true true k = refl
one_of_two false true k = refl
one_of_two true false k = refl
one_of_two false false k = refl

suc_one : (i : ℕ) → suc i ≡ i + 1
suc_one i = omega arith

first_and_rest : (tasks : List ℕ) (i : ℕ) → i < length tasks → drop i tasks ≡ get_or tasks i 0 ∷ drop (i + 1) tasks
first_and_rest tasks i inside = drop-cons tasks i 0 inside ∙ ap (λ n. get_or tasks i 0 ∷ drop n tasks) (suc_one i)

-- After one more task is forgotten, the others remain.
pub forgets_more : (tasks : List ℕ) (i t : ℕ) (now middle all : Bool) → i < length tasks → now ≡ (not (t == get_or tasks i 0) && middle)
    → (not (is_waiting (drop i tasks) t) && middle) ≡ all → (not (is_waiting (drop (i + 1) tasks) t) && now) ≡ all
forgets_more tasks i t now middle all inside step left =
    let x = get_or tasks i 0 in
    let rest = drop (i + 1) tasks in
    ap (λ b. not (is_waiting rest t) && b) (step ∙ ap (λ b. not b && middle) (eqb_turned t x))
    ∙ one_of_two (is_waiting rest t) (x == t) middle
    ∙ ap (λ xs. not (is_waiting xs t) && middle) (sym (first_and_rest tasks i inside)) ∙ left

pub none_left : (tasks : List ℕ) (i : ℕ) → length tasks ≤ i → drop i tasks ≡ []
none_left tasks i past = nil_from_length (drop i tasks) (rw length-drop (omega (arith, past)))

-- the row begins at the number
pub row_rest : (from middle until t : ℕ) (old between now : Bool) → from ≤ middle → middle ≤ until → between ≡ (not (in_row from middle t) && old) → now ≡ (not (in_row middle until t) && between)
    → now ≡ (not (in_row from until t) && old)
row_rest from middle until t old between now begun ends before step = step ∙ ap (λ b. not (in_row middle until t) && b) before ∙ (elim (cases_lt t from) [
  | inl less ↦ rw (lt_true t from less, lt_true t middle (omega (arith, less, begun))) refl
  | inr from_here ↦ behind from_here
])
  where
    past : middle ≤ t → (not (in_row middle until t) && (not (not false && nat_lt t middle) && old)) ≡ (not (not false && nat_lt t until) && old)
    past more = rw (lt_false t middle more) refl

    behind : from ≤ t → (not (in_row middle until t) && (not (in_row from middle t) && old)) ≡ (not (in_row from until t) && old)
    behind from_here = rw (lt_false t from from_here) (elim (cases_lt t middle) [
      | inl less ↦ rw (lt_true t middle less, lt_true t until (omega (arith, less, ends))) refl
      | inr more ↦ past more
    ])

row_grows : (from k t : ℕ) → from ≤ k → in_row from (k + 1) t ≡ ((k == t) || in_row from k t)
row_grows from k t begun = elim (cases_eq t k) [
  | inl same ↦ rw (eq-eqb k t (sym same), row_ends from k t begun same) refl
  | inr apart ↦ rw (ne_eqb k t (λ same. apart (sym same)), row_below from k t apart) refl
]

either_of : (first row rest : Bool) → (row || (first || rest)) ≡ ((first || row) || rest)
either_of true true rest = refl
either_of true false rest = refl
either_of false row rest = refl

after_one : (from n : ℕ) → from + suc n ≡ from + n + 1
after_one from n = omega arith

-- The numbers from a place on are a row and the numbers after it.
pub row_and_rest : (tasks : List ℕ) (at from n t : ℕ) → at + n ≤ length tasks → ((i : ℕ) → i < n → get_or tasks (at + i) 0 ≡ from + i)
    → is_waiting (drop at tasks) t ≡ (in_row from (from + n) t || is_waiting (drop (at + n) tasks) t)
row_and_rest tasks at from zero t inside row = rw (nothing at, nothing from) (row_start from t (is_waiting (drop at tasks) t))
  where
    nothing : (k : ℕ) → k + 0 ≡ k
    nothing k = omega arith
row_and_rest tasks at from (suc n) t inside row =
    let rest = drop (at + n + 1) tasks in
    row_and_rest tasks at from n t (omega (arith, inside)) (λ i less. row i (omega (arith, less)))
    ∙ ap (λ xs. in_row from (from + n) t || is_waiting xs t) (first_and_rest tasks (at + n) (omega (arith, inside)))
    ∙ ap (λ x. in_row from (from + n) t || ((x == t) || is_waiting rest t)) (row n (omega arith))
    ∙ either_of (from + n == t) (in_row from (from + n) t) (is_waiting rest t)
    ∙ ap (λ b. b || is_waiting rest t) (sym (row_grows from (from + n) t (omega arith)))
    ∙ rw (after_one from n, after_one at n) refl

one_of_either : (row rest k : Bool) → (not rest && (not row && k)) ≡ (not (row || rest) && k)
one_of_either true true k = refl
one_of_either false true k = refl
one_of_either true false k = refl
one_of_either false false k = refl

-- After a row is forgotten, the numbers after it remain.
pub forgets_row : (tasks : List ℕ) (at from n t : ℕ) (now middle all : Bool) → at + n ≤ length tasks → ((i : ℕ) → i < n → get_or tasks (at + i) 0 ≡ from + i)
    → now ≡ (not (in_row from (from + n) t) && middle)
    → (not (is_waiting (drop at tasks) t) && middle) ≡ all → (not (is_waiting (drop (at + n) tasks) t) && now) ≡ all
forgets_row tasks at from n t now middle all inside row step left =
    ap (λ b. not (is_waiting (drop (at + n) tasks) t) && b) step
    ∙ one_of_either (in_row from (from + n) t) (is_waiting (drop (at + n) tasks) t) middle
    ∙ ap (λ b. not b && middle) (sym (row_and_rest tasks at from n t inside row)) ∙ left

-- no number is one of an empty row
pub row_empty : (from t : ℕ) (o : Bool) → o ≡ (not (in_row from (from + 0) t) && o)
row_empty from t o = elim (cases_lt t from) [
  | inl less ↦ rw (lt_true t from less) refl
  | inr more ↦ rw (lt_false t from more, lt_false t (from + 0) (omega (arith, more))) refl
]

-- a number is a row of one
pub row_alone : (tasks : List ℕ) (at i : ℕ) → i < at + 1 - at → get_or tasks (at + i) 0 ≡ get_or tasks at 0 + i
row_alone tasks at i below =
    let none : i ≡ 0 = omega (arith, below) in
    let here : at + i ≡ at = omega (arith, none) in
    let same : get_or tasks at 0 ≡ get_or tasks at 0 + i = omega (arith, none) in
    ap (λ j. get_or tasks j 0) here ∙ same

-- the next number is one more than the last of the row
pub row_longer : (tasks : List ℕ) (at from next : ℕ) → at < next → ((i : ℕ) → i < next - at → get_or tasks (at + i) 0 ≡ from + i) → get_or tasks next 0 ≡ from + (next - at)
    → (i : ℕ) → i < next + 1 - at → get_or tasks (at + i) 0 ≡ from + i
row_longer tasks at from next begun row more i below = elim (cases_lt i (next - at)) [
  | inl less ↦ row i less
  | inr last ↦
      let is : next - at ≡ i = omega (arith, last, below, begun) in
      let here : at + i ≡ next = omega (arith, is, begun) in
      ap (λ j. get_or tasks j 0) here ∙ more ∙ ap (λ j. from + j) is
]

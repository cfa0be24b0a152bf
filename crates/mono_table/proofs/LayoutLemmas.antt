-- What a write to one child does to the table that the children lay out.
use Rattle.std.proofs.Common.{◌≡◌, ◌≢◌, ◌<◌, ◌≤◌, ◌+◌, ◌-◌, ◌*◌, ◌/◌, ◌%◌, ℕ, zero, suc, Bool, true, false, List, [], ◌∷◌, length, get_or, set, Some, None, Ok, Err, refl, ap, sym, subst, ◌∙◌, inl, inr, arith, eq-eqb, ne_eqb, add-one}
use Rattle.std.specs.Prelude.{slice_set, is_some, ◌⊎◌, nat_lt, Result, OnOk}
use Rattle.std.specs.Result.{is_err}
use borrow.Author.Tests.{ltb-true}
use Rattle.std.proofs.lemmas.Bool.{cases_lt, cases_eq}
use Rattle.std.proofs.lemmas.List.{get_or_past, get_or-set_same, get_or-set_other, length-set, length-append, get_or_append_left, get_or_push}
use Rattle.std.proofs.lemmas.Nat.{div-add-mod', div-mul-add, mod-mul-add, mod_below}
use Rattle.std.proofs.Math.Nat.{mul-le-mul_left}
use Rattle.mono_model.specs.Table.{Table, value_at, count_of, with_next, with_value, without}
use Rattle.mono_model.proofs.CountLemmas.{count_of-with_next}
use Rattle.mono_model.proofs.TableOfLemmas.{length-table_of, value_at-table_of, table_of-same, table_of-set, table_of-next}
use Rattle.mono_table.specs.Layout.{child_at, look_in, laid_table, left_of, IsLaid}
use Rattle.mono_table.proofs.CountLemmas.{some_inside, count_of-same, count_of-gone, none_of}

false-true : false ≡ true → ⊥
false-true e = cc

-- The fact that holds if a call was not refused.
pub on_ok : {A E : Type 0} (result : Result A E) (Q : Type 0) → false ≡ is_err result → OnOk result Q → Q
on_ok (Ok value) Q is holds = holds
on_ok (Err error) Q is holds = absurd (false-true is)

-- whether one number is below another, as a test
pub below_is : (a b : ℕ) → (nat_lt a b ≡ true → a < b) × (a < b → nat_lt a b ≡ true)
below_is a b = (λ is. ltb-true a b is, λ less. lt_true a b less)
  where
    lt_true : (n m : ℕ) → n < m → nat_lt n m ≡ true
    lt_true n m less = grind (arith, less)

-- two numbers in one child at one place are one
same_number : (q t size : ℕ) → q / size ≡ t / size → q % size ≡ t % size → q ≡ t
same_number q t size whole rest = omega (arith, div-add-mod' q size, div-add-mod' t size, ap (λ x. x * size) whole, rest)

-- the next number comes in the same child, or is the first of the next one
next_same : (n size : ℕ) → n % size + 1 < size → ((n + 1) / size ≡ n / size) × ((n + 1) % size ≡ n % size + 1)
next_same n size fits =
    let is : n / size * size + (n % size + 1) ≡ n + 1 = omega (arith, div-add-mod' n size) in
    (ap (λ x. x / size) (sym is) ∙ div-mul-add (n / size) size (n % size + 1) fits, ap (λ x. x % size) (sym is) ∙ mod-mul-add (n / size) size (n % size + 1) fits)

next_first : (n size : ℕ) → 0 < size → n % size + 1 ≡ size → ((n + 1) / size ≡ n / size + 1) × ((n + 1) % size ≡ 0)
next_first n size some full =
    let is : (n / size + 1) * size + 0 ≡ n + 1 = omega (arith, div-add-mod' n size, full) in
    (ap (λ x. x / size) (sym is) ∙ div-mul-add (n / size + 1) size 0 some, ap (λ x. x % size) (sym is) ∙ mod-mul-add (n / size + 1) size 0 some)

below_below : (n len size : ℕ) → 0 < size → n < len → n / size ≤ len / size
below_below n len size some less = elim (cases_lt (len / size) (n / size)) [
  | inl more ↦ absurd (omega (arith, div-add-mod' n size, div-add-mod' len size, mod_below len size some, mul-le-mul_left size (more_is more)))
  | inr fine ↦ fine
]
  where
    more_is : len / size < n / size → len / size + 1 ≤ n / size
    more_is more = omega (arith, more)

module _ {V : Type 0} (size : ℕ) (some : 0 < size) (children : List (Table V)) (room len live : ℕ) (laid : IsLaid size children room len live) where
  -- a number that was given out has its child
  pub child_inside : (n : ℕ) → n < len → n / size < length children
  child_inside n less = elim (cases_lt (n / size) (length children)) [
    | inl below ↦ below
    | inr past ↦
        let both : n / size ≡ len / size = omega (arith, below_below n len size some less, laid.enough, past) in
        absurd (omega (arith, div-add-mod' n size, div-add-mod' len size, ap (λ x. x * size) both, less, laid.is_open, ap length (get_or_past children (len / size) [] (omega (arith, past, both)))))
  ]

  pub look_is : (n : ℕ) → n < len → look_in size children n ≡ value_at (laid_table size children len) n
  look_is n less = sym (value_at-table_of (look_in size children) len n less)

  pub look_past : (n : ℕ) → len ≤ n → None ≡ value_at (laid_table size children len) n
  look_past n past = sym (get_or_past (laid_table size children len) n None (omega (arith, past, length-table_of (look_in size children) len)))

  pub length_is : len ≡ length (laid_table size children len)
  length_is = sym (length-table_of (look_in size children) len)

  -- the same children, but for some that are empty at the end
  module _ (after : List (Table V)) (more : ℕ) (same : (i : ℕ) → child_at after i ≡ child_at children i) where
    pub same_table : laid_table size after len ≡ laid_table size children len
    same_table = table_of-same (look_in size after) (look_in size children) len (λ q below. ap (λ child. value_at child (q % size)) (same (q / size)))

    pub same_laid : length children ≤ length after → length after ≤ len / size + 1 → (length after ≡ 0 → more ≡ 0) → IsLaid size after more len live
    same_laid longer shorter bare = record {
      live_is = laid.live_is ∙ sym (ap count_of same_table);
      is_open = ap length (same (len / size)) ∙ laid.is_open;
      enough = omega (arith, laid.enough, longer);
      no_more = shorter;
      gone = λ i closed none. same i ∙ laid.gone i closed (ap count_of (sym (same i)) ∙ none);
      bare = bare;
    }

  -- the child of t is another
  module _ (t : ℕ) (given : t < len) (child : Table V) where
    abbrev at : ℕ
    at = t / size

    abbrev before : Table V
    before = child_at children at

    abbrev after : List (Table V)
    after = slice_set children at child

    here : child_at after at ≡ child
    here = get_or-set_same children at child [] (child_inside t given)

    there : (i : ℕ) → i ≢ at → child_at after i ≡ child_at children i
    there i apart = get_or-set_other children at i child [] apart

    module _ (others : (k : ℕ) → k ≢ t % size → value_at child k ≡ value_at before k) where
      look_other : (q : ℕ) → q ≢ t → look_in size after q ≡ look_in size children q
      look_other q apart = elim (cases_eq (q / size) at) [
        | inl same ↦ ap (λ i. value_at (child_at after i) (q % size)) same ∙ ap (λ c. value_at c (q % size)) here
            ∙ others (q % size) (λ rest. apart (same_number q t size same rest)) ∙ ap (λ i. value_at (child_at children i) (q % size)) (sym same)
        | inr other ↦ ap (λ c. value_at c (q % size)) (there (q / size) other)
      ]

      pub written : laid_table size after len ≡ set (laid_table size children len) t (value_at child (t % size))
      written = table_of-set (look_in size children) (look_in size after) len t given look_other
          ∙ ap (λ c. set (laid_table size children len) t (value_at c (t % size))) here

      -- The same number of places, or none if the child is closed and without values.
      pub written_laid : (left : ℕ) → left ≡ count_of (laid_table size after len)
          → (length child ≡ length before) ⊎ ((at < len / size) × (child ≡ [])) → (at < len / size → count_of child ≡ 0 → child ≡ [])
          → IsLaid size after room len left
      written_laid left left_is places empty = record {
        live_is = left_is;
        is_open = elim (cases_eq (len / size) at) [
          | inl same ↦ ap (λ i. length (child_at after i)) same ∙ ap length here ∙ places_there same places ∙ ap (λ i. length (child_at children i)) (sym same) ∙ laid.is_open
          | inr other ↦ ap length (there (len / size) other) ∙ laid.is_open
        ];
        enough = omega (arith, laid.enough, length-set children at child);
        no_more = omega (arith, laid.no_more, length-set children at child);
        gone = λ i closed none. elim (cases_eq i at) [
          | inl same ↦ ap (child_at after) same ∙ here ∙ empty (subst (λ x. x < len / size) same closed) (ap count_of (sym here) ∙ ap (λ x. count_of (child_at after x)) (sym same) ∙ none)
          | inr other ↦ there i other ∙ laid.gone i closed (ap count_of (sym (there i other)) ∙ none)
        ];
        bare = λ none. laid.bare (sym (length-set children at child) ∙ none);
      }
        where
          places_there : len / size ≡ at → (length child ≡ length before) ⊎ ((at < len / size) × (child ≡ [])) → length child ≡ length before
          places_there same (inl is) = is
          places_there same (inr closed) = absurd (omega (arith, same, closed.0))

module _ {V : Type 0} (size : ℕ) (some : 0 < size) (children : List (Table V)) (room len live : ℕ) (laid : IsLaid size children room len live)
    (t : ℕ) (value_there : is_some (value_at (laid_table size children len) t) ≡ true) where
  given : t < len
  given = omega (arith, some_inside (laid_table size children len) t value_there, length-table_of (look_in size children) len)

  pub value_in_child : is_some (value_at (child_at children (t / size)) (t % size)) ≡ true
  value_in_child = ap is_some (look_is size some children room len live laid t given) ∙ value_there

  place_inside : t % size < length (child_at children (t / size))
  place_inside = some_inside (child_at children (t / size)) (t % size) value_in_child

  pub at_child : t / size < length children
  at_child = child_inside size some children room len live laid t given

  pub some_live : 1 ≤ live
  some_live = omega (arith, laid.live_is, count_of-gone (laid_table size children len) t value_there)

  -- another value
  module _ (value : V) (child : Table V) (is : child ≡ with_value (child_at children (t / size)) (t % size) value) where
    others_stay : (k : ℕ) → k ≢ t % size → value_at child k ≡ value_at (child_at children (t / size)) k
    others_stay k apart = ap (λ c. value_at c k) is ∙ get_or-set_other (child_at children (t / size)) (t % size) k (Some value) None apart

    pub set_table : laid_table size (slice_set children (t / size) child) len ≡ with_value (laid_table size children len) t value
    set_table = written size some children room len live laid t given child others_stay
        ∙ ap (λ v. set (laid_table size children len) t v) (ap (λ c. value_at c (t % size)) is ∙ get_or-set_same (child_at children (t / size)) (t % size) (Some value) None place_inside)

    same_count : count_of child ≡ count_of (child_at children (t / size))
    same_count = ap count_of is ∙ count_of-same (child_at children (t / size)) (t % size) (Some value) (sym value_in_child)

    pub set_laid : IsLaid size (slice_set children (t / size) child) room len live
    set_laid = written_laid size some children room len live laid t given child others_stay live
        (laid.live_is ∙ sym (ap count_of set_table ∙ count_of-same (laid_table size children len) t (Some value) (sym value_there)))
        (inl (ap length is ∙ length-set (child_at children (t / size)) (t % size) (Some value)))
        (λ closed none. absurd (omega (arith, none, same_count, count_of-gone (child_at children (t / size)) (t % size) value_in_child)))

  -- The value is removed, and with it the child, if it is closed and has no other value.
  module _ (is_closed : Bool) (closed_is : (is_closed ≡ true → t / size < len / size) × (t / size < len / size → is_closed ≡ true))
      (child : Table V) (is : child ≡ left_of is_closed (without (child_at children (t / size)) (t % size))) where
    abbrev emptied : Table V
    emptied = without (child_at children (t / size)) (t % size)

    -- The remaining child has the same values.
    left_values : (b : Bool) (c : Table V) (k : ℕ) → value_at (left_of b c) k ≡ value_at c k
    left_values false c k = refl
    left_values true c k = elim (cases_eq (count_of c) 0) [
      | inl none ↦ rw (eq-eqb (count_of c) 0 none) (sym (none_of c k none))
      | inr more ↦ rw (ne_eqb (count_of c) 0 more) refl
    ]

    left_places : (b : Bool) (c : Table V) → (length (left_of b c) ≡ length c) ⊎ ((b ≡ true) × (left_of b c ≡ []))
    left_places false c = inl refl
    left_places true c = elim (cases_eq (count_of c) 0) [
      | inl none ↦ inr (refl, rw (eq-eqb (count_of c) 0 none) refl)
      | inr more ↦ inl (rw (ne_eqb (count_of c) 0 more) refl)
    ]

    left_empty : (b : Bool) (c : Table V) → b ≡ true → count_of (left_of b c) ≡ 0 → left_of b c ≡ []
    left_empty false c closed none = absurd (false-true closed)
    left_empty true c closed none = elim (cases_eq (count_of c) 0) [
      | inl empty ↦ rw (eq-eqb (count_of c) 0 empty) refl
      | inr more ↦ absurd (more (sym (ap count_of (kept more)) ∙ none))
    ]
      where
        kept : count_of c ≢ 0 → left_of true c ≡ c
        kept more = rw (ne_eqb (count_of c) 0 more) refl

    others_left : (k : ℕ) → k ≢ t % size → value_at child k ≡ value_at (child_at children (t / size)) k
    others_left k apart = ap (λ c. value_at c k) is ∙ left_values is_closed emptied k ∙ get_or-set_other (child_at children (t / size)) (t % size) k None None apart

    pub removed_table : laid_table size (slice_set children (t / size) child) len ≡ without (laid_table size children len) t
    removed_table = written size some children room len live laid t given child others_left
        ∙ ap (λ v. set (laid_table size children len) t v)
        (ap (λ c. value_at c (t % size)) is ∙ left_values is_closed emptied (t % size) ∙ get_or-set_same (child_at children (t / size)) (t % size) None None place_inside)

    places_left : (length child ≡ length (child_at children (t / size))) ⊎ ((t / size < len / size) × (child ≡ []))
    places_left = elim (left_places is_closed emptied) [
      | inl same ↦ inl (ap length is ∙ same ∙ length-set (child_at children (t / size)) (t % size) None)
      | inr none ↦ inr (closed_is.0 none.0, is ∙ none.1)
    ]

    pub removed_laid : IsLaid size (slice_set children (t / size) child) room len (live - 1)
    removed_laid = written_laid size some children room len live laid t given child others_left (live - 1)
        (omega (arith, laid.live_is, ap count_of removed_table, count_of-gone (laid_table size children len) t value_there))
        places_left (λ closed none. is ∙ left_empty is_closed emptied (closed_is.1 closed) (ap count_of (sym is) ∙ none))

-- One more number.
module _ {V : Type 0} (size : ℕ) (some : 0 < size) (children : List (Table V)) (room len live : ℕ) (laid : IsLaid size children room len live)
    (there_is : len / size < length children) (value : V) (child : Table V) (is : child ≡ with_next (child_at children (len / size)) value) where
  abbrev place : ℕ
  place = len / size

  abbrev next : List (Table V)
  next = slice_set children place child

  next_here : child_at next place ≡ child
  next_here = get_or-set_same children place child [] there_is

  next_there : (i : ℕ) → i ≢ place → child_at next i ≡ child_at children i
  next_there i apart = get_or-set_other children place i child [] apart

  place_below : len % size < size
  place_below = mod_below len size some

  look_at_last : look_in size next len ≡ Some value
  look_at_last = ap (λ c. value_at c (len % size)) (next_here ∙ is) ∙ get_or_push (child_at children place) (Some value) None (len % size) laid.is_open

  look_before : (q : ℕ) → q < len → look_in size next q ≡ look_in size children q
  look_before q below = elim (cases_eq (q / size) place) [
    | inl same ↦
        let rest : q % size < length (child_at children place) = omega (arith, laid.is_open, div-add-mod' q size, div-add-mod' len size, ap (λ x. x * size) same, below) in
        ap (λ i. value_at (child_at next i) (q % size)) same ∙ ap (λ c. value_at c (q % size)) (next_here ∙ is)
        ∙ get_or_append_left (child_at children place) (Some value ∷ []) None (q % size) rest ∙ ap (λ i. value_at (child_at children i) (q % size)) (sym same)
    | inr other ↦ ap (λ c. value_at c (q % size)) (next_there (q / size) other)
  ]

  pub pushed_table : laid_table size next (len + 1) ≡ with_next (laid_table size children len) value
  pushed_table = rw add-one (table_of-next (look_in size children) (look_in size next) len value look_at_last look_before)

  one_more : count_of child ≡ count_of (child_at children place) + 1
  one_more = ap count_of is ∙ count_of-with_next (child_at children place) value

  child_longer : length child ≡ len % size + 1
  child_longer = ap length is ∙ length-append (child_at children place) (Some value ∷ []) ∙ ap (λ n. n + 1) laid.is_open

  same_number_of : length next ≡ length children
  same_number_of = length-set children place child

  -- A child that is closed afterwards and has no value is empty.
  gone_after : (i : ℕ) → i ≤ place → count_of (child_at next i) ≡ 0 → child_at next i ≡ []
  gone_after i below none = elim (cases_eq i place) [
    | inl same ↦ absurd (omega (arith, one_more, ap count_of (sym next_here) ∙ ap (λ x. count_of (child_at next x)) (sym same) ∙ none))
    | inr other ↦ next_there i other ∙ laid.gone i (omega (arith, below, other)) (ap count_of (sym (next_there i other)) ∙ none)
  ]

  live_after : live + 1 ≡ count_of (laid_table size next (len + 1))
  live_after = ap (λ n. n + 1) laid.live_is ∙ sym (ap count_of pushed_table ∙ count_of-with_next (laid_table size children len) value)

  pub pushed_laid : IsLaid size next room (len + 1) (live + 1)
  pushed_laid = elim (cases_lt (len % size + 1) size) [
    | inl fits ↦
        let is_next = next_same len size fits in
        record {
          live_is = live_after;
          is_open = ap (λ i. length (child_at next i)) is_next.0 ∙ ap length next_here ∙ child_longer ∙ sym is_next.1;
          enough = omega (arith, is_next.0, laid.enough, same_number_of);
          no_more = omega (arith, is_next.0, laid.no_more, same_number_of);
          gone = λ i closed none. gone_after i (omega (arith, closed, is_next.0)) none;
          bare = λ none. laid.bare (sym same_number_of ∙ none);
        }
    | inr full ↦
        let is_next = next_first len size some (omega (arith, full, place_below)) in
        record {
          live_is = live_after;
          is_open = ap (λ i. length (child_at next i)) is_next.0 ∙ ap length (get_or_past next (place + 1) [] (omega (arith, laid.no_more, same_number_of))) ∙ sym is_next.1;
          enough = omega (arith, is_next.0, there_is, same_number_of);
          no_more = omega (arith, is_next.0, laid.no_more, same_number_of);
          gone = λ i closed none. gone_after i (omega (arith, closed, is_next.0)) none;
          bare = λ none. laid.bare (sym same_number_of ∙ none);
        }
  ]

set_same : {X : Type 0} (xs : List X) (t : ℕ) (v d : X) → t < length xs → get_or xs t d ≡ v → set xs t v ≡ xs
set_same [] t v d inside at = refl
set_same (x ∷ xs) zero v d inside at = ap (λ y. y ∷ xs) (sym at)
set_same (x ∷ xs) (suc t) v d inside at = ap (λ ys. x ∷ ys) (set_same xs t v d (omega (arith, inside)) at)

-- a child that is read by its place
child_is : {V : Type 0} (children : List (Table V)) (i : ℕ) (c : Table V) → i < length children → c ≡ get_or children i c → child_at children i ≡ c
child_is [] i c inside is = absurd (omega (arith, inside))
child_is (x ∷ xs) zero c inside is = sym is
child_is (x ∷ xs) (suc i) c inside is = child_is xs i c (omega (arith, inside)) is

-- The same, as the calls meet it: read is the child that was found at the place.
module _ {V : Type 0} (size : ℕ) (some : 0 < size) (children : List (Table V)) (room len live : ℕ) (laid : IsLaid size children room len live) where
  pub get_reads : (n : ℕ) → n < len → (read : Table V) → read ≡ get_or children (n / size) read → value_at read (n % size) ≡ value_at (laid_table size children len) n
  get_reads n less read is =
      ap (λ c. value_at c (n % size)) (sym (child_is children (n / size) read (child_inside size some children room len live laid n less) is))
      ∙ look_is size some children room len live laid n less

  module _ (t : ℕ) (value_there : is_some (value_at (laid_table size children len) t) ≡ true) (read : Table V) (reads : read ≡ get_or children (t / size) read) where
    read_is : child_at children (t / size) ≡ read
    read_is = child_is children (t / size) read (at_child size some children room len live laid t value_there) reads

    pub read_value : is_some (value_at read (t % size)) ≡ true
    read_value = ap (λ c. is_some (value_at c (t % size))) (sym read_is) ∙ value_in_child size some children room len live laid t value_there

    pub read_number : value_at (laid_table size children len) t ≡ value_at read (t % size)
    read_number = sym (get_reads t (given size some children room len live laid t value_there) read reads)

    pub sets : (value : V) (child : Table V) → child ≡ with_value read (t % size) value
        → IsLaid size (slice_set children (t / size) child) room len live
        × (laid_table size (slice_set children (t / size) child) len ≡ with_value (laid_table size children len) t value)
    sets value child is =
        let from = is ∙ ap (λ c. with_value c (t % size) value) (sym read_is) in (
          set_laid size some children room len live laid t value_there value child from,
          set_table size some children room len live laid t value_there value child from,
        )

    pub removes : (is_closed : Bool) → (is_closed ≡ true → t / size < len / size) × (t / size < len / size → is_closed ≡ true)
        → (child : Table V) → child ≡ left_of is_closed (without read (t % size))
        → IsLaid size (slice_set children (t / size) child) room len (live - 1)
        × (laid_table size (slice_set children (t / size) child) len ≡ without (laid_table size children len) t)
    removes is_closed closed_is child is =
        let from = is ∙ ap (λ c. left_of is_closed (without c (t % size))) (sym read_is) in (
          removed_laid size some children room len live laid t value_there is_closed closed_is child from,
          removed_table size some children room len live laid t value_there is_closed closed_is child from,
        )

  -- the child of the next number is there
  module _ (opened : List (Table V)) (more : ℕ) (same : (i : ℕ) → child_at opened i ≡ child_at children i) (longer : length children ≤ length opened)
      (no_more : (length opened ≤ len / size + 1) ⊎ (length opened ≡ length children)) (inside : len / size < length opened) where
    opened_laid : IsLaid size opened more len live
    opened_laid = same_laid size some children room len live laid opened more same longer
        (elim no_more [ inl few ↦ few | inr as_many ↦ omega (arith, as_many, laid.no_more) ])
        (λ none. absurd (omega (arith, none, inside)))

    opened_table : laid_table size opened len ≡ laid_table size children len
    opened_table = same_table size some children room len live laid opened more same

    module _ (read child : Table V) (reads : read ≡ get_or opened (len / size) read) where
      next_is : child_at opened (len / size) ≡ read
      next_is = child_is opened (len / size) read inside reads

      pub pushes : (value : V) → child ≡ with_next read value
          → IsLaid size (slice_set opened (len / size) child) more (len + 1) (live + 1)
          × (laid_table size (slice_set opened (len / size) child) (len + 1) ≡ with_next (laid_table size children len) value)
      pushes value is =
          let from = is ∙ ap (λ c. with_next c value) (sym next_is) in (
            pushed_laid size some opened more len live opened_laid inside value child from,
            pushed_table size some opened more len live opened_laid inside value child from ∙ ap (λ table. with_next table value) opened_table,
          )

      pub refuses : child ≡ read
          → IsLaid size (slice_set opened (len / size) child) more len live
          × (laid_table size (slice_set opened (len / size) child) len ≡ laid_table size children len)
      refuses is =
          let stays : slice_set opened (len / size) child ≡ opened = set_same opened (len / size) child [] inside (next_is ∙ sym is) in
          rw stays (opened_laid, opened_table)

-- Tasks right after the last are made known, in the child in which the next number is.
use Rattle.std.proofs.Common.{◌≡◌, ◌≢◌, ◌<◌, ◌≤◌, inl, inr, ℕ, ◌+◌, ◌-◌, ◌*◌, ◌/◌, ◌%◌, zero, suc, false, List, [], ◌∷◌, ◌++◌, length, map, get_or, refl, ap, sym, ◌∙◌, arith}
use Rattle.std.specs.Prelude.{slice_set, slice_index_or, replicate, ◌||◌}
use Rattle.std.proofs.lemmas.Bool.{cases_eq, cases_lt}
use Rattle.std.proofs.lemmas.List.{ext_get_or, get_or_past, get_or-set_same, get_or-set_other, length-append, length-replicate, get_or_append_left, get_or-append_right, get_or-replicate}
use Rattle.std.proofs.lemmas.Nat.{div-add-mod'}
use Rattle.std.proofs.Math.Nat.{mul-le-mul_left}
use Rattle.mono_model.specs.Valid.{once_if}
use Rattle.mono_inbox.specs.declared.standings.Standing.{Standing}
use Rattle.mono_inbox.specs.declared.standings.Standing.TheVariants.{Unknown, Known}
use Rattle.mono_inbox.specs.Standings.{knows, waits, has_place, standing_at, count_where}
use Rattle.mono_inbox.specs.Pages.{child_at, look_in, laid_standings, IsLaid}
use Rattle.mono_inbox.specs.Invariants.{IsSound}
use Rattle.mono_inbox.specs.State.{in_row}
use Rattle.mono_inbox.proofs.CountLemmas.{known_at}
use Rattle.mono_inbox.proofs.LayoutLemmas.{lt_true, lt_false, div_up, child_is, standing_is, length-standings_of, standing_at-standings_of}

-- The entries, followed by those of `n` known tasks.
abbrev pub with_row : List Standing → ℕ → List Standing
with_row xs n = xs ++ replicate n Known

pub length-row : (xs : List Standing) (n : ℕ) → length (with_row xs n) ≡ length xs + n
length-row xs n = length-append xs (replicate n Known) ∙ ap (λ k. length xs + k) (length-replicate n Known)

row_left : (xs : List Standing) (n i : ℕ) → i < length xs → standing_at (with_row xs n) i ≡ standing_at xs i
row_left xs n i below = get_or_append_left xs (replicate n Known) Unknown i below

row_here : (xs : List Standing) (n i : ℕ) → length xs ≤ i → i < length xs + n → standing_at (with_row xs n) i ≡ Known
row_here xs n i from below = get_or-append_right xs (replicate n Known) (length xs) i Unknown refl from ∙ get_or-replicate n (i - length xs) Known Unknown (omega (arith, from, below))

row_past : (xs : List Standing) (n i : ℕ) → length xs + n ≤ i → standing_at (with_row xs n) i ≡ Unknown
row_past xs n i past = get_or_past (with_row xs n) i Unknown (omega (arith, past, length-row xs n))

count-known : (n : ℕ) → count_where has_place (replicate n Known) ≡ n
count-known zero = refl
count-known (suc n) = omega (arith, count-known n)

pub count-row : (xs : List Standing) (n : ℕ) → count_where has_place (with_row xs n) ≡ count_where has_place xs + n
count-row [] n = omega (arith, count-known n)
count-row (x ∷ xs) n = omega (arith, count-row xs n)

count-waits : (n : ℕ) → count_where waits (replicate n Known) ≡ 0
count-waits zero = refl
count-waits (suc n) = omega (arith, count-waits n)

count_waits-row : (xs : List Standing) (n : ℕ) → count_where waits (with_row xs n) ≡ count_where waits xs
count_waits-row [] n = count-waits n
count_waits-row (x ∷ xs) n = omega (arith, count_waits-row xs n)

-- The numbers of a row lie in the same child, up to its end.
pub same_child : (size len n i : ℕ) → 0 < size → len % size + n ≤ size → len ≤ i → i < len + n → i / size ≡ len / size
same_child size len n i some fits from below = elim (cases_lt (len / size) (i / size)) [
  | inl more ↦ absurd (omega (arith, below, fits, div-add-mod' i size, div-add-mod' len size, mul-le-mul_left size (above more)))
  | inr fine ↦ omega (arith, fine, div_up len i size some from)
]
  where
    above : len / size < i / size → len / size + 1 ≤ i / size
    above more = omega (arith, more)

-- and its place in it
pub place_is : (size q t : ℕ) → q / size ≡ t / size → t ≤ q → q % size ≡ t % size + (q - t)
place_is size q t same from = omega (arith, from, div-add-mod' q size, div-add-mod' t size, ap (λ x. x * size) same)

pub place_before : (size q t : ℕ) → q / size ≡ t / size → q < t → q % size < t % size
place_before size q t same before = omega (arith, before, div-add-mod' q size, div-add-mod' t size, ap (λ x. x * size) same)

module _ (size : ℕ) (some : 0 < size) (children : List (List Standing)) (len : ℕ) (laid : IsLaid size children len)
    (inside : len / size < length children) (read child : List Standing) (reads : read ≡ get_or children (len / size) read)
    (as_far : length read ≡ len % size) (n : ℕ) (fits : len % size + n ≤ size) (is : child ≡ with_row read n) where
  abbrev extended : List (List Standing)
  extended = slice_set children (len / size) child

  read_is : child_at children (len / size) ≡ read
  read_is = child_is children (len / size) read inside reads

  child_here : child_at extended (len / size) ≡ with_row read n
  child_here = get_or-set_same children (len / size) child [] inside ∙ is

  child_there : (i : ℕ) → i ≢ len / size → child_at extended i ≡ child_at children i
  child_there i apart = get_or-set_other children (len / size) i child [] apart

  look_other : (q : ℕ) → q / size ≢ len / size → look_in size extended q ≡ look_in size children q
  look_other q apart = ap (λ c. standing_at c (q % size)) (child_there (q / size) apart)

  look_same : (q : ℕ) → q / size ≡ len / size → look_in size extended q ≡ standing_at (with_row read n) (q % size)
  look_same q same = ap (λ i. standing_at (child_at extended i) (q % size)) same ∙ ap (λ c. standing_at c (q % size)) child_here

  look_before : (q : ℕ) → q < len → look_in size extended q ≡ look_in size children q
  look_before q before = elim (cases_eq (q / size) (len / size)) [
    | inl same ↦ look_same q same ∙ row_left read n (q % size) (omega (arith, as_far, place_before size q len same before))
        ∙ ap (λ c. standing_at c (q % size)) (sym read_is) ∙ ap (λ i. standing_at (child_at children i) (q % size)) (sym same)
    | inr apart ↦ look_other q apart
  ]

  look_row : (q : ℕ) → len ≤ q → q < len + n → look_in size extended q ≡ Known
  look_row q from below =
      let same = same_child size len n q some fits from below in
      look_same q same ∙ row_here read n (q % size) (omega (arith, as_far, place_is size q len same from)) (omega (arith, as_far, below, place_is size q len same from))

  look_past : (q : ℕ) → len + n ≤ q → look_in size extended q ≡ Unknown
  look_past q past = elim (cases_eq (q / size) (len / size)) [
    | inl same ↦ look_same q same ∙ row_past read n (q % size) (omega (arith, as_far, past, place_is size q len same (omega (arith, past))))
    | inr apart ↦ look_other q apart ∙ laid.past q (omega (arith, past))
  ]

  each : (i : ℕ) → i < length (laid_standings size extended (len + n)) → get_or (laid_standings size extended (len + n)) i Unknown ≡ get_or (with_row (laid_standings size children len) n) i Unknown
  each i below =
      let before = length-standings_of (look_in size children) len in
      let inner : i < len + n = omega (arith, below, length-standings_of (look_in size extended) (len + n)) in
      standing_at-standings_of (look_in size extended) (len + n) i inner
      ∙ (elim (cases_lt i len) [
        | inl less ↦ look_before i less ∙ standing_is size some children len laid i ∙ sym (row_left (laid_standings size children len) n i (omega (arith, less, before)))
        | inr from ↦ look_row i from inner ∙ sym (row_here (laid_standings size children len) n i (omega (arith, from, before)) (omega (arith, inner, before)))
      ])

  pub extending_is : laid_standings size extended (len + n) ≡ with_row (laid_standings size children len) n
  extending_is = ext_get_or Unknown (laid_standings size extended (len + n)) (with_row (laid_standings size children len) n)
      (omega (arith, length-standings_of (look_in size extended) (len + n), length-row (laid_standings size children len) n, length-standings_of (look_in size children) len)) each

  -- The number after the row lies in the same child, or in the next.
  next_child : (len + n) / size ≤ len / size + 1
  next_child = elim (cases_lt (len / size + 1) ((len + n) / size)) [
    | inl more ↦ absurd (omega (arith, fits, div-add-mod' (len + n) size, div-add-mod' len size, mul-le-mul_left size (above more)))
    | inr fine ↦ fine
  ]
    where
      above : len / size + 1 < (len + n) / size → len / size + 2 ≤ (len + n) / size
      above more = omega (arith, more)

  counted : count_where has_place (child_at extended (len / size)) ≡ 0 → n ≡ 0
  counted none = omega (arith, none, count-row read n, ap (count_where has_place) child_here)

  -- If the child is closed afterwards, some task came.
  some_came : len / size < (len + n) / size → n ≡ 0 → ⊥
  some_came closed none = omega (arith, closed, ap (λ k. (len + k) / size) none, ap (λ k. k / size) (len_is len))
    where
      len_is : (k : ℕ) → k + 0 ≡ k
      len_is k = omega arith

  pub extending_laid : IsLaid size extended (len + n)
  extending_laid = record {
    past = look_past;
    unopened = λ i later. child_there i (λ here. absurd (omega (arith, here, later, div_up len (len + n) size some (omega arith)))) ∙ laid.unopened i (omega (arith, later, div_up len (len + n) size some (omega arith)));
    gone = λ i closed none. elim (cases_eq i (len / size)) [
      | inl here ↦ absurd (some_came (omega (arith, here, closed)) (counted (ap (λ j. count_where has_place (child_at extended j)) (sym here) ∙ none)))
      | inr apart ↦ child_there i apart ∙ laid.gone i (omega (arith, closed, apart, next_child)) (ap (count_where has_place) (sym (child_there i apart)) ∙ none)
    ];
  }

-- The same tasks wait after a row is made known.
row_waits : (xs : List Standing) (n t : ℕ) → waits (standing_at (with_row xs n) t) ≡ waits (standing_at xs t)
row_waits xs n t = elim (cases_lt t (length xs)) [
  | inl before ↦ ap waits (row_left xs n t before)
  | inr from ↦ behind from ∙ sym (ap waits (get_or_past xs t Unknown from))
]
  where
    behind : length xs ≤ t → waits (standing_at (with_row xs n) t) ≡ false
    behind from = elim (cases_lt t (length xs + n)) [
      | inl below ↦ ap waits (row_here xs n t from below)
      | inr past ↦ ap waits (row_past xs n t past)
    ]

pub row-sound : (waiting : List ℕ) (xs : List Standing) (places room now n : ℕ) → IsSound waiting xs places room → places + n ≤ now → IsSound waiting (with_row xs n) (places + n) now
row-sound waiting xs places room now n sound sure = record {
  once = λ t. sound.once t ∙ sym (ap once_if (row_waits xs n t));
  listed = omega (arith, sound.listed, count_waits-row xs n);
  placed = omega (arith, sound.placed, count-row xs n);
  sure = sure;
}

pub row-known : (xs : List Standing) (n u : ℕ) → slice_index_or (map knows (with_row xs n)) u false ≡ (in_row (length xs) (length xs + n) u || slice_index_or (map knows xs) u false)
row-known xs n u = known_at (with_row xs n) u ∙ (elim (cases_lt u (length xs)) [
  | inl before ↦ rw (lt_true u (length xs) before) (ap knows (row_left xs n u before) ∙ sym (known_at xs u))
  | inr from ↦ behind from
])
  where
    behind : length xs ≤ u → knows (standing_at (with_row xs n) u) ≡ (in_row (length xs) (length xs + n) u || slice_index_or (map knows xs) u false)
    behind from = elim (cases_lt u (length xs + n)) [
      | inl below ↦ rw (lt_false u (length xs) from, lt_true u (length xs + n) below) (ap knows (row_here xs n u from below))
      | inr past ↦ rw (lt_false u (length xs) from, lt_false u (length xs + n) past) (ap knows (row_past xs n u past) ∙ sym (known_at xs u ∙ ap knows (get_or_past xs u Unknown from)))
    ]

-- Tasks in a row, which are known and do not wait, are made unknown in the child in which they all lie.
use Rattle.std.proofs.Common.{◌≡◌, ◌≢◌, ◌<◌, ◌≤◌, inl, inr, ℕ, ◌+◌, ◌-◌, ◌/◌, ◌%◌, zero, suc, Bool, true, false, List, [], ◌∷◌, length, map, get_or, refl, ap, sym, ◌∙◌, arith}
use Rattle.std.specs.Prelude.{slice_set, slice_index_or, nat_lt, ◌&&◌, not}
use Rattle.std.proofs.lemmas.Bool.{cases_eq, cases_lt}
use Rattle.std.proofs.lemmas.List.{ext_get_or, get_or_past, get_or-set_same, get_or-set_other, length-set}
use Rattle.mono_model.specs.Valid.{once_if}
use Rattle.mono_inbox.specs.declared.standings.Standing.{Standing}
use Rattle.mono_inbox.specs.declared.standings.Standing.TheVariants.{Unknown, Known}
use Rattle.mono_inbox.specs.Standings.{knows, waits, has_place, standing_at, count_where, AreKnown, without_row}
use Rattle.mono_inbox.specs.Pages.{left_of, child_at, look_in, laid_standings, IsLaid}
use Rattle.mono_inbox.specs.Invariants.{IsSound}
use Rattle.mono_inbox.specs.State.{in_row}
use Rattle.mono_inbox.proofs.CountLemmas.{count_where-set, has_entry, known_at}
use Rattle.mono_inbox.proofs.LayoutLemmas.{lt_true, lt_false, div_up, child_is, standing_is, length-standings_of, standing_at-standings_of, left-standing, left_empty}
use Rattle.mono_inbox.proofs.RowGrowthLemmas.{same_child, place_is, place_before}

pub length-without : (xs : List Standing) (from n : ℕ) → length (without_row xs from n) ≡ length xs
length-without xs from zero = refl
length-without xs from (suc n) = length-set (without_row xs from n) (from + n) Unknown ∙ length-without xs from n

-- The standings of the tasks of the row, and of the others.
pub without_there : (xs : List Standing) (from n i : ℕ) → (from ≤ i → i < from + n → ⊥) → standing_at (without_row xs from n) i ≡ standing_at xs i
without_there xs from zero i outside = refl
without_there xs from (suc n) i outside =
    get_or-set_other (without_row xs from n) (from + n) i Unknown Unknown (λ same. outside (omega (arith, same)) (omega (arith, same)))
    ∙ without_there xs from n i (λ begun below. outside begun (omega (arith, below)))

set_unknown : (xs : List Standing) (i : ℕ) → standing_at (slice_set xs i Unknown) i ≡ Unknown
set_unknown xs i = elim (cases_lt i (length xs)) [
  | inl below ↦ get_or-set_same xs i Unknown Unknown below
  | inr past ↦ get_or_past (slice_set xs i Unknown) i Unknown (omega (arith, past, length-set xs i Unknown))
]

pub without_here : (xs : List Standing) (from n i : ℕ) → from ≤ i → i < from + n → standing_at (without_row xs from n) i ≡ Unknown
without_here xs from zero i begun below = absurd (omega (arith, begun, below))
without_here xs from (suc n) i begun below = elim (cases_eq i (from + n)) [
  | inl last ↦ ap (standing_at (without_row xs from (suc n))) last ∙ set_unknown (without_row xs from n) (from + n)
  | inr apart ↦ get_or-set_other (without_row xs from n) (from + n) i Unknown Unknown apart ∙ without_here xs from n i begun (omega (arith, below, apart))
]

shorter : (xs : List Standing) (from n : ℕ) → AreKnown xs from (suc n) → AreKnown xs from n
shorter xs from n known i begun below = known i begun (omega (arith, below))

-- The number of tasks with a place falls by the length of the row.
pub count-without : (xs : List Standing) (from n : ℕ) → AreKnown xs from n → count_where has_place (without_row xs from n) + n ≡ count_where has_place xs
count-without xs from zero known = omega arith
count-without xs from (suc n) known =
    let here : standing_at (without_row xs from n) (from + n) ≡ Known = without_there xs from n (from + n) (λ begun below. omega (arith, below)) ∙ known (from + n) (omega arith) (omega arith) in
    omega (
      arith,
      count-without xs from n (shorter xs from n known),
      count_where-set has_place (without_row xs from n) (from + n) Unknown (has_entry (without_row xs from n) (from + n) (ap has_place here)),
      ap (λ s. once_if (has_place s)) here,
    )

pub count_waits-without : (xs : List Standing) (from n : ℕ) → AreKnown xs from n → count_where waits (without_row xs from n) ≡ count_where waits xs
count_waits-without xs from zero known = refl
count_waits-without xs from (suc n) known =
    let here : standing_at (without_row xs from n) (from + n) ≡ Known = without_there xs from n (from + n) (λ begun below. omega (arith, below)) ∙ known (from + n) (omega arith) (omega arith) in
    omega (
      arith,
      count_waits-without xs from n (shorter xs from n known),
      count_where-set waits (without_row xs from n) (from + n) Unknown (has_entry (without_row xs from n) (from + n) (ap has_place here)),
      ap (λ s. once_if (waits s)) here,
    )

read_at : (xs : List Standing) (i : ℕ) (s : Standing) → i < length xs → s ≡ get_or xs i s → standing_at xs i ≡ s
read_at [] i s inside reads = absurd (omega (arith, inside))
read_at (x ∷ xs) zero s inside reads = sym reads
read_at (x ∷ xs) (suc i) s inside reads = read_at xs i s (omega (arith, inside)) reads

suc_one : (n : ℕ) → suc n ≡ n + 1
suc_one n = omega arith

-- the row is one longer
pub without_more : (xs : List Standing) (from n : ℕ) → slice_set (without_row xs from n) (from + n) Unknown ≡ without_row xs from (n + 1)
without_more xs from n = ap (without_row xs from) (suc_one n)

pub known_more : (xs : List Standing) (from n : ℕ) (s : Standing) → AreKnown xs from n → from + n < length (without_row xs from n) → s ≡ get_or (without_row xs from n) (from + n) s → s ≡ Known
    → AreKnown xs from (n + 1)
known_more xs from n s known inside reads is i begun below = elim (cases_lt i (from + n)) [
  | inl less ↦ known i begun less
  | inr last ↦
      let here : i ≡ from + n = omega (arith, last, below) in
      ap (standing_at xs) here ∙ sym (without_there xs from n (from + n) (λ again less. omega (arith, less))) ∙ read_at (without_row xs from n) (from + n) s inside reads ∙ is
]

-- a number is one of the row, or not
within : (from n i : ℕ) (P : Type 0) → (from ≤ i → i < from + n → P) → ((from ≤ i → i < from + n → ⊥) → P) → P
within from n i P here there = elim (cases_lt i from) [
  | inl before ↦ there (λ begun below. omega (arith, before, begun))
  | inr begun ↦ elim (cases_lt i (from + n)) [
    | inl below ↦ here begun below
    | inr past ↦ there (λ again below. omega (arith, past, below))
  ]
]

module _ (size : ℕ) (some : 0 < size) (children : List (List Standing)) (len : ℕ) (laid : IsLaid size children len)
    (t : ℕ) (given : t < len) (inside : t / size < length children) (read child : List Standing) (reads : read ≡ get_or children (t / size) read)
    (n : ℕ) (fits : t % size + n ≤ size) (known : AreKnown read (t % size) n)
    (is_closed : Bool) (closed_is : is_closed ≡ nat_lt (t / size) (len / size)) (is : child ≡ left_of is_closed (without_row read (t % size) n)) where
  abbrev forgotten : List (List Standing)
  forgotten = slice_set children (t / size) child

  read_is : child_at children (t / size) ≡ read
  read_is = child_is children (t / size) read inside reads

  child_here : child_at forgotten (t / size) ≡ child
  child_here = get_or-set_same children (t / size) child [] inside

  child_there : (i : ℕ) → i ≢ t / size → child_at forgotten i ≡ child_at children i
  child_there i apart = get_or-set_other children (t / size) i child [] apart

  look_same : (q : ℕ) → q / size ≡ t / size → look_in size forgotten q ≡ standing_at (without_row read (t % size) n) (q % size)
  look_same q same = ap (λ i. standing_at (child_at forgotten i) (q % size)) same ∙ ap (λ c. standing_at c (q % size)) (child_here ∙ is)
      ∙ left-standing is_closed (without_row read (t % size) n) (q % size)

  look_before : (q : ℕ) → q / size ≡ t / size → look_in size children q ≡ standing_at read (q % size)
  look_before q same = ap (λ i. standing_at (child_at children i) (q % size)) same ∙ ap (λ c. standing_at c (q % size)) read_is

  -- a number's place in the row, in the child
  place_in : (q : ℕ) → t ≤ q → q < t + n → (t % size ≤ q % size) × (q % size < t % size + n)
  place_in q begun below =
      let place = place_is size q t (same_child size t n q some fits begun below) begun in
      (omega (arith, place), omega (arith, place, begun, below))

  look_row : (q : ℕ) → t ≤ q → q < t + n → look_in size forgotten q ≡ Unknown
  look_row q begun below =
      let place = place_in q begun below in
      look_same q (same_child size t n q some fits begun below) ∙ without_here read (t % size) n (q % size) place.0 place.1

  out_of_row : (q : ℕ) → q / size ≡ t / size → (t ≤ q → q < t + n → ⊥) → t % size ≤ q % size → q % size < t % size + n → ⊥
  out_of_row q same outside begun below = elim (cases_lt q t) [
    | inl before ↦ omega (arith, begun, place_before size q t same before)
    | inr from ↦ outside from (omega (arith, below, from, place_is size q t same from))
  ]

  look_there : (q : ℕ) → (t ≤ q → q < t + n → ⊥) → look_in size forgotten q ≡ look_in size children q
  look_there q outside = elim (cases_eq (q / size) (t / size)) [
    | inl same ↦ look_same q same ∙ without_there read (t % size) n (q % size) (out_of_row q same outside) ∙ sym (look_before q same)
    | inr apart ↦ ap (λ c. standing_at c (q % size)) (child_there (q / size) apart)
  ]

  pub forgetting_known : AreKnown (laid_standings size children len) t n
  forgetting_known q begun below =
      let place = place_in q begun below in
      sym (standing_is size some children len laid q) ∙ look_before q (same_child size t n q some fits begun below) ∙ known (q % size) place.0 place.1

  each : (i : ℕ) → i < length (laid_standings size forgotten len) → get_or (laid_standings size forgotten len) i Unknown ≡ get_or (without_row (laid_standings size children len) t n) i Unknown
  each i below =
      standing_at-standings_of (look_in size forgotten) len i (omega (arith, below, length-standings_of (look_in size forgotten) len))
      ∙ within t n i (look_in size forgotten i ≡ standing_at (without_row (laid_standings size children len) t n) i)
      (λ begun less. look_row i begun less ∙ sym (without_here (laid_standings size children len) t n i begun less))
      (λ outside. look_there i outside ∙ standing_is size some children len laid i ∙ sym (without_there (laid_standings size children len) t n i outside))

  pub forgetting_is : laid_standings size forgotten len ≡ without_row (laid_standings size children len) t n
  forgetting_is = ext_get_or Unknown (laid_standings size forgotten len) (without_row (laid_standings size children len) t n)
      (length-standings_of (look_in size forgotten) len ∙ sym (length-without (laid_standings size children len) t n ∙ length-standings_of (look_in size children) len)) each

  emptied : t / size < len / size → count_where has_place child ≡ 0 → child ≡ []
  emptied less none =
      let all : child ≡ left_of true (without_row read (t % size) n) = is ∙ ap (λ b. left_of b (without_row read (t % size) n)) (closed_is ∙ lt_true (t / size) (len / size) less) in
      all ∙ left_empty (without_row read (t % size) n) (ap (count_where has_place) (sym all) ∙ none)

  pub forgetting_laid : IsLaid size forgotten len
  forgetting_laid = record {
    past = λ q beyond. within t n q (look_in size forgotten q ≡ Unknown) (λ begun less. look_row q begun less) (λ outside. look_there q outside ∙ laid.past q beyond);
    unopened = λ i more. child_there i (λ here. absurd (omega (arith, here, more, div_up t len size some (omega (arith, given))))) ∙ laid.unopened i more;
    gone = λ i closed none. elim (cases_eq i (t / size)) [
      | inl here ↦ ap (child_at forgotten) here ∙ child_here ∙ emptied (omega (arith, here, closed)) (ap (count_where has_place) (sym child_here) ∙ ap (λ j. count_where has_place (child_at forgotten j)) (sym here) ∙ none)
      | inr apart ↦ child_there i apart ∙ laid.gone i closed (ap (count_where has_place) (sym (child_there i apart)) ∙ none)
    ];
  }

-- The same tasks wait after a row of tasks that do not wait is made unknown.
without_waits : (xs : List Standing) (from n t : ℕ) → AreKnown xs from n → waits (standing_at (without_row xs from n) t) ≡ waits (standing_at xs t)
without_waits xs from n t known = within from n t (waits (standing_at (without_row xs from n) t) ≡ waits (standing_at xs t))
    (λ begun below. ap waits (without_here xs from n t begun below) ∙ sym (ap waits (known t begun below)))
    (λ outside. ap waits (without_there xs from n t outside))

pub without-sound : (waiting : List ℕ) (xs : List Standing) (places room from n : ℕ) → IsSound waiting xs places room → AreKnown xs from n → IsSound waiting (without_row xs from n) (places - n) room
without-sound waiting xs places room from n sound known = record {
  once = λ t. sound.once t ∙ sym (ap once_if (without_waits xs from n t known));
  listed = sound.listed ∙ sym (count_waits-without xs from n known);
  placed = omega (arith, sound.placed, count-without xs from n known);
  sure = omega (arith, sound.sure);
}

pub without-known : (xs : List Standing) (from n u : ℕ) → slice_index_or (map knows (without_row xs from n)) u false ≡ (not (in_row from (from + n) u) && slice_index_or (map knows xs) u false)
without-known xs from n u = known_at (without_row xs from n) u ∙ (elim (cases_lt u from) [
  | inl before ↦ rw (lt_true u from before) (ap knows (without_there xs from n u (λ begun below. omega (arith, before, begun))) ∙ sym (known_at xs u))
  | inr begun ↦ behind begun
])
  where
    behind : from ≤ u → knows (standing_at (without_row xs from n) u) ≡ (not (in_row from (from + n) u) && slice_index_or (map knows xs) u false)
    behind begun = elim (cases_lt u (from + n)) [
      | inl below ↦ rw (lt_false u from begun, lt_true u (from + n) below) (ap knows (without_here xs from n u begun below))
      | inr past ↦ rw (lt_false u from begun, lt_false u (from + n) past) (ap knows (without_there xs from n u (λ again below. omega (arith, past, below))) ∙ sym (known_at xs u))
    ]

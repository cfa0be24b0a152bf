-- The effect of a write to one child on the standings that the children lay out.
use Rattle.std.proofs.Common.{◌≡◌, ◌≢◌, ◌<◌, ◌≤◌, inl, inr, ℕ, ◌+◌, ◌-◌, ◌*◌, ◌/◌, ◌%◌, zero, suc, Bool, true, false, List, [], ◌∷◌, ◌++◌, length, get_or, refl, ap, sym, ◌∙◌, arith, eq-eqb, ne_eqb}
use Rattle.std.specs.Prelude.{slice_set, replicate, ◌⊎◌, nat_lt}
use Rattle.std.proofs.lemmas.Bool.{cases_eq, cases_lt}
use Rattle.std.proofs.lemmas.List.{ext_get_or, get_or_past, get_or-set_same, get_or-set_other, length-set, length-append, length-replicate, get_or_append_left, get_or_push}
use Rattle.std.proofs.Math.Seq.{set-append_seam}
use Rattle.std.proofs.lemmas.Nat.{div-add-mod', mod_below, le-div}
use Rattle.std.proofs.Math.Nat.{mul-le-mul_left, div-mul-le_self}
use Rattle.mono_model.specs.Valid.{once_if}
use Rattle.mono_inbox.specs.declared.standings.Standing.{Standing}
use Rattle.mono_inbox.specs.declared.standings.Standing.TheVariants.{Unknown, Known, Waiting, Retired}
use Rattle.mono_inbox.specs.Standings.{has_place, standing_at, count_where}
use Rattle.mono_inbox.specs.Pages.{grown, with_mark, left_of, child_at, look_in, standings_of, laid_standings, closed_before, IsLaid}
use Rattle.mono_inbox.proofs.CountLemmas.{count_where-set, count_where-more, standing_at-more, has_entry}

false-true : false ≡ true → ⊥
false-true e = cc

-- whether one number is below another, as a test
pub lt_true : (n m : ℕ) → n < m → nat_lt n m ≡ true
lt_true n m less = grind (arith, less)

pub lt_false : (n m : ℕ) → m ≤ n → nat_lt n m ≡ false
lt_false n m more = grind (arith, more)

-- two numbers in one child at one place are one
same_number : (q t size : ℕ) → q / size ≡ t / size → q % size ≡ t % size → q ≡ t
same_number q t size whole rest = omega (arith, div-add-mod' q size, div-add-mod' t size, ap (λ x. x * size) whole, rest)

pub div_up : (a b size : ℕ) → 0 < size → a ≤ b → a / size ≤ b / size
div_up a b size some less = le-div (a / size) b size some (omega (arith, div-mul-le_self a size, less))

div_step : (t size : ℕ) → 0 < size → (t + 1) / size ≤ t / size + 1
div_step t size some = elim (cases_lt (t / size + 1) ((t + 1) / size)) [
  | inl more ↦ absurd (omega (arith, div-add-mod' t size, div-add-mod' (t + 1) size, mod_below t size some, mul-le-mul_left size (more_is more)))
  | inr fine ↦ fine
]
  where
    more_is : t / size + 1 < (t + 1) / size → t / size + 2 ≤ (t + 1) / size
    more_is more = omega (arith, more)

pub length-standings_of : (f : ℕ → Standing) (n : ℕ) → length (standings_of f n) ≡ n
length-standings_of f zero = refl
length-standings_of f (suc n) = rw (length-append, length-standings_of f n) (omega arith)

pub standing_at-standings_of : (f : ℕ → Standing) (n q : ℕ) → q < n → standing_at (standings_of f n) q ≡ f q
standing_at-standings_of f zero q below = absurd (omega (arith, below))
standing_at-standings_of f (suc n) q below = elim (cases_lt q n) [
  | inl less ↦ get_or_append_left (standings_of f n) (f n ∷ []) Unknown q (omega (arith, less, length-standings_of f n)) ∙ standing_at-standings_of f n q less
  | inr last ↦ let same : q ≡ n = omega (arith, last, below) in
      rw same (get_or_push (standings_of f n) (f n) Unknown n (length-standings_of f n))
]

pub standings_of-same : (f g : ℕ → Standing) (n : ℕ) → ((q : ℕ) → f q ≡ g q) → standings_of f n ≡ standings_of g n
standings_of-same f g zero same = refl
standings_of-same f g (suc n) same = ap (λ xs. xs ++ f n ∷ []) (standings_of-same f g n same) ∙ ap (λ v. standings_of g n ++ v ∷ []) (same n)

-- If no task has a place, all are unknown.
none_of : (xs : List Standing) (k : ℕ) → count_where has_place xs ≡ 0 → standing_at xs k ≡ Unknown
none_of [] k none = refl
none_of (Unknown ∷ xs) zero none = refl
none_of (Unknown ∷ xs) (suc k) none = none_of xs k (omega (arith, none))
none_of (Known ∷ xs) k none = absurd (omega (arith, none))
none_of (Waiting ∷ xs) k none = absurd (omega (arith, none))
none_of (Retired ∷ xs) k none = absurd (omega (arith, none))

-- a task with a place is counted
some_of : (xs : List Standing) (k : ℕ) → has_place (standing_at xs k) ≡ true → 1 ≤ count_where has_place xs
some_of xs k placed = omega (arith, count_where-set has_place xs k Unknown (has_entry xs k placed), ap once_if placed)

-- The child after a close has the same standings.
pub left-standing : (b : Bool) (c : List Standing) (k : ℕ) → standing_at (left_of b c) k ≡ standing_at c k
left-standing false c k = refl
left-standing true c k = elim (cases_eq (count_where has_place c) 0) [
  | inl none ↦ rw (eq-eqb (count_where has_place c) 0 none) (sym (none_of c k none))
  | inr more ↦ rw (ne_eqb (count_where has_place c) 0 more) refl
]

pub left_empty : (c : List Standing) → count_where has_place (left_of true c) ≡ 0 → left_of true c ≡ []
left_empty c none = elim (cases_eq (count_where has_place c) 0) [
  | inl empty ↦ rw (eq-eqb (count_where has_place c) 0 empty) refl
  | inr more ↦ absurd (more (sym (ap (count_where has_place) (kept more)) ∙ none))
]
  where
    kept : count_where has_place c ≢ 0 → left_of true c ≡ c
    kept more = rw (ne_eqb (count_where has_place c) 0 more) refl

pub length-grown : (xs : List Standing) (t : ℕ) → length (grown xs t) ≡ length xs + (t + 1 - length xs)
length-grown xs t = length-append xs (replicate (t + 1 - length xs) Unknown) ∙ ap (λ n. length xs + n) (length-replicate (t + 1 - length xs) Unknown)

grown_below : (xs : List Standing) (t : ℕ) → t < length (grown xs t)
grown_below xs t = omega (arith, length-grown xs t)

mark_here : (xs : List Standing) (t : ℕ) (s : Standing) → standing_at (with_mark xs t s) t ≡ s
mark_here xs t s = get_or-set_same (grown xs t) t s Unknown (grown_below xs t)

mark_there : (xs : List Standing) (t u : ℕ) (s : Standing) → u ≢ t → standing_at (with_mark xs t s) u ≡ standing_at xs u
mark_there xs t u s apart = get_or-set_other (grown xs t) t u s Unknown apart ∙ standing_at-more xs (t + 1 - length xs) u

-- Right after the entries.
pub mark_behind : (xs : List Standing) (t : ℕ) (s : Standing) → t ≡ length xs → with_mark xs t s ≡ xs ++ s ∷ []
mark_behind xs t s is =
    let one : length xs + 1 - length xs ≡ 1 = omega arith in
    ap (λ n. with_mark xs n s) is ∙ ap (λ n. slice_set (xs ++ replicate n Unknown) (length xs) s) one ∙ set-append_seam xs Unknown [] s

-- one task more has a place
pub mark-count : (xs : List Standing) (t : ℕ) (s : Standing) → standing_at xs t ≡ Unknown → has_place s ≡ true → count_where has_place (with_mark xs t s) ≡ count_where has_place xs + 1
mark-count xs t s at placed =
    omega (
      arith,
      count_where-set has_place (grown xs t) t s (grown_below xs t),
      count_where-more has_place xs (t + 1 - length xs) refl,
      ap (λ x. once_if (has_place x)) (standing_at-more xs (t + 1 - length xs) t ∙ at),
      ap once_if placed,
    )

-- A task with a place gets another standing.
pub change-count : (xs : List Standing) (t : ℕ) (s : Standing) → has_place (standing_at xs t) ≡ true → count_where has_place (slice_set xs t s) + 1 ≡ count_where has_place xs + once_if (has_place s)
change-count xs t s placed = omega (arith, count_where-set has_place xs t s (has_entry xs t placed), ap once_if placed)

pub change-some : (xs : List Standing) (t : ℕ) → has_place (standing_at xs t) ≡ true → 1 ≤ count_where has_place xs
change-some xs t placed = some_of xs t placed

pub count_within : (xs : List Standing) → count_where has_place xs ≤ length xs
count_within [] = omega arith
count_within (Unknown ∷ xs) = omega (arith, count_within xs)
count_within (Known ∷ xs) = omega (arith, count_within xs)
count_within (Waiting ∷ xs) = omega (arith, count_within xs)
count_within (Retired ∷ xs) = omega (arith, count_within xs)

-- a child that is read by its place
pub child_is : (children : List (List Standing)) (i : ℕ) (c : List Standing) → i < length children → c ≡ get_or children i c → child_at children i ≡ c
child_is [] i c inside is = absurd (omega (arith, inside))
child_is (x ∷ xs) zero c inside is = sym is
child_is (x ∷ xs) (suc i) c inside is = child_is xs i c (omega (arith, inside)) is

-- a child that is put back as it was
pub put_back : (children : List (List Standing)) (i : ℕ) (c d : List Standing) → i < length children → c ≡ get_or children i c → d ≡ c → (j : ℕ) → child_at (slice_set children i d) j ≡ child_at children j
put_back children i c d inside reads is j = elim (cases_eq j i) [
  | inl same ↦ ap (child_at (slice_set children i d)) same ∙ get_or-set_same children i d [] inside ∙ is ∙ sym (child_is children i c inside reads) ∙ ap (child_at children) (sym same)
  | inr apart ↦ get_or-set_other children i j d [] apart
]

pub length-closed : (children : List (List Standing)) (begun at : ℕ) → length (closed_before children begun at) ≡ length children
length-closed children begun at = elim (cases_lt begun at) [
  | inl less ↦ rw (lt_true begun at less) (length-set children begun (left_of true (child_at children begun)))
  | inr more ↦ rw (lt_false begun at more) refl
]

module _ (size : ℕ) (some : 0 < size) (children : List (List Standing)) (len : ℕ) (laid : IsLaid size children len) where
  -- The standing of a task.
  pub standing_is : (t : ℕ) → look_in size children t ≡ standing_at (laid_standings size children len) t
  standing_is t = elim (cases_lt t len) [
    | inl below ↦ sym (standing_at-standings_of (look_in size children) len t below)
    | inr past ↦ laid.past t past ∙ sym (get_or_past (laid_standings size children len) t Unknown (omega (arith, past, length-standings_of (look_in size children) len)))
  ]

  pub standing_past : (t : ℕ) → length children ≤ t / size → Unknown ≡ standing_at (laid_standings size children len) t
  standing_past t past = sym (ap (λ c. standing_at c (t % size)) (get_or_past children (t / size) [] past)) ∙ standing_is t

  pub standing_behind : (t : ℕ) → len ≤ t → Unknown ≡ standing_at (laid_standings size children len) t
  standing_behind t past = sym (laid.past t past) ∙ standing_is t

  pub standing_read : (t : ℕ) (read : List Standing) → t / size < length children → read ≡ get_or children (t / size) read → standing_at read (t % size) ≡ standing_at (laid_standings size children len) t
  standing_read t read inside reads = ap (λ c. standing_at c (t % size)) (sym (child_is children (t / size) read inside reads)) ∙ standing_is t

  -- The children before a number of the child at a place comes, and with some that are empty at the end.
  module _ (at : ℕ) (after : List (List Standing)) (same : (i : ℕ) → child_at after i ≡ child_at (closed_before children (len / size) at) i) where
    empty_there : child_at (slice_set children (len / size) (left_of true (child_at children (len / size)))) (len / size) ≡ left_of true (child_at children (len / size))
    empty_there = elim (cases_lt (len / size) (length children)) [
      | inl below ↦ get_or-set_same children (len / size) (left_of true (child_at children (len / size))) [] below
      | inr past ↦
          get_or_past (slice_set children (len / size) (left_of true (child_at children (len / size)))) (len / size) []
          (omega (arith, past, length-set children (len / size) (left_of true (child_at children (len / size)))))
          ∙ ap (left_of true) (sym (get_or_past children (len / size) [] past))
    ]

    pub closing_others : (i : ℕ) → i ≢ len / size → child_at after i ≡ child_at children i
    closing_others i apart = same i ∙ (elim (cases_lt (len / size) at) [
      | inl less ↦ rw (lt_true (len / size) at less) (get_or-set_other children (len / size) i (left_of true (child_at children (len / size))) [] apart)
      | inr more ↦ rw (lt_false (len / size) at more) refl
    ])

    closing_standing : (k : ℕ) → standing_at (child_at after (len / size)) k ≡ standing_at (child_at children (len / size)) k
    closing_standing k = ap (λ c. standing_at c k) (same (len / size)) ∙ (elim (cases_lt (len / size) at) [
      | inl less ↦ rw (lt_true (len / size) at less) (ap (λ c. standing_at c k) empty_there ∙ left-standing true (child_at children (len / size)) k)
      | inr more ↦ rw (lt_false (len / size) at more) refl
    ])

    closing_reads : (i k : ℕ) → standing_at (child_at after i) k ≡ standing_at (child_at children i) k
    closing_reads i k = elim (cases_eq i (len / size)) [
      | inl is ↦ ap (λ j. standing_at (child_at after j) k) is ∙ closing_standing k ∙ ap (λ j. standing_at (child_at children j) k) (sym is)
      | inr apart ↦ ap (λ c. standing_at c k) (closing_others i apart)
    ]

    -- a task that was unknown is so in its child
    pub reading_unknown : (t : ℕ) → at ≡ t / size → at < length after → (read : List Standing) → read ≡ get_or after at read → standing_at (laid_standings size children len) t ≡ Unknown → standing_at read (t % size) ≡ Unknown
    reading_unknown t is_at inside read reads unknown =
        ap (λ c. standing_at c (t % size)) (sym (child_is after at read inside reads)) ∙ closing_reads at (t % size)
        ∙ ap (λ i. standing_at (child_at children i) (t % size)) is_at ∙ standing_is t ∙ unknown

    closing_empties : len / size < at → count_where has_place (child_at after (len / size)) ≡ 0 → child_at after (len / size) ≡ []
    closing_empties less none =
        let is : child_at after (len / size) ≡ left_of true (child_at children (len / size)) = same (len / size) ∙ rw (lt_true (len / size) at less) empty_there in
        is ∙ left_empty (child_at children (len / size)) (ap (count_where has_place) (sym is) ∙ none)

    -- nothing that is seen changes
    pub closing_same : laid_standings size after len ≡ laid_standings size children len
    closing_same = standings_of-same (look_in size after) (look_in size children) len (λ q. closing_reads (q / size) (q % size))

    pub closing_laid : IsLaid size after len
    closing_laid = record {
      past = λ t beyond. closing_reads (t / size) (t % size) ∙ laid.past t beyond;
      unopened = λ i later. closing_others i (λ is. absurd (omega (arith, is, later))) ∙ laid.unopened i later;
      gone = λ i closed none. let others = closing_others i (λ is. absurd (omega (arith, is, closed))) in
          others ∙ laid.gone i closed (ap (count_where has_place) (sym others) ∙ none);
    }

    -- A task that was unknown gets another standing, in the child at the place.
    module _ (t : ℕ) (is_at : at ≡ t / size) (inside : at < length after) (standing : Standing) (placed : has_place standing ≡ true)
        (read child : List Standing) (reads : read ≡ get_or after at read) (is : child ≡ with_mark read (t % size) standing) where
      abbrev marked : List (List Standing)
      marked = slice_set after at child

      read_is : child_at after at ≡ read
      read_is = child_is after at read inside reads

      mark_child : child_at marked at ≡ child
      mark_child = get_or-set_same after at child [] inside

      mark_children : (i : ℕ) → i ≢ at → child_at marked i ≡ child_at after i
      mark_children i apart = get_or-set_other after at i child [] apart

      look_here : look_in size marked t ≡ standing
      look_here = ap (λ i. standing_at (child_at marked i) (t % size)) (sym is_at) ∙ ap (λ c. standing_at c (t % size)) (mark_child ∙ is) ∙ mark_here read (t % size) standing

      look_there : (q : ℕ) → q ≢ t → look_in size marked q ≡ look_in size children q
      look_there q apart = elim (cases_eq (q / size) at) [
        | inl whole ↦ ap (λ i. standing_at (child_at marked i) (q % size)) whole ∙ ap (λ c. standing_at c (q % size)) (mark_child ∙ is)
            ∙ mark_there read (t % size) (q % size) standing (λ rest. apart (same_number q t size (whole ∙ is_at) rest))
            ∙ ap (λ c. standing_at c (q % size)) (sym read_is) ∙ closing_reads at (q % size) ∙ ap (λ i. standing_at (child_at children i) (q % size)) (sym whole)
        | inr other ↦ ap (λ c. standing_at c (q % size)) (mark_children (q / size) other) ∙ closing_reads (q / size) (q % size)
      ]

      module _ (later : ℕ) (longer : len ≤ later) (covers : t + 1 ≤ later) (least : (later ≡ len) ⊎ (later ≡ t + 1)) where
        as_long : later ≡ length (with_mark (laid_standings size children len) t standing)
        as_long = elim least [
          | inl stays ↦ omega (arith, stays, covers, length-set (grown (laid_standings size children len) t) t standing, length-grown (laid_standings size children len) t, length-standings_of (look_in size children) len)
          | inr grows ↦ omega (arith, grows, longer, length-set (grown (laid_standings size children len) t) t standing, length-grown (laid_standings size children len) t, length-standings_of (look_in size children) len)
        ]

        each : (i : ℕ) → i < length (laid_standings size marked later) → get_or (laid_standings size marked later) i Unknown ≡ get_or (with_mark (laid_standings size children len) t standing) i Unknown
        each i below =
            standing_at-standings_of (look_in size marked) later i (omega (arith, below, length-standings_of (look_in size marked) later))
            ∙ (elim (cases_eq i t) [
              | inl here ↦ ap (look_in size marked) here ∙ look_here ∙ sym (mark_here (laid_standings size children len) t standing) ∙ ap (standing_at (with_mark (laid_standings size children len) t standing)) (sym here)
              | inr apart ↦ look_there i apart ∙ standing_is i ∙ sym (mark_there (laid_standings size children len) t i standing apart)
            ])

        pub marking_is : laid_standings size marked later ≡ with_mark (laid_standings size children len) t standing
        marking_is = ext_get_or Unknown (laid_standings size marked later) (with_mark (laid_standings size children len) t standing) (length-standings_of (look_in size marked) later ∙ as_long) each

        at_later : at ≤ later / size
        at_later = omega (arith, is_at, div_up t later size some (omega (arith, covers)))

        open_later : len / size ≤ later / size
        open_later = div_up len later size some longer

        counted_here : 1 ≤ count_where has_place (child_at marked at)
        counted_here = some_of (child_at marked at) (t % size) (ap (λ c. has_place (standing_at c (t % size))) (mark_child ∙ is) ∙ ap has_place (mark_here read (t % size) standing) ∙ placed)

        -- The child that was open is closed only if a later one was begun.
        open_before : len / size < later / size → len / size ≢ at → len / size < at
        open_before less apart = elim least [
          | inl stays ↦ absurd (omega (arith, ap (λ n. n / size) stays, less))
          | inr grows ↦ omega (arith, less, apart, ap (λ n. n / size) grows, div_step t size some, is_at)
        ]

        gone_after : (i : ℕ) → i < later / size → i ≢ at → count_where has_place (child_at after i) ≡ 0 → child_at after i ≡ []
        gone_after i closed apart none = elim (cases_eq i (len / size)) [
          | inl last ↦ ap (child_at after) last
              ∙ closing_empties (open_before (omega (arith, last, closed)) (λ both. apart (last ∙ both))) (ap (λ j. count_where has_place (child_at after j)) (sym last) ∙ none)
          | inr other ↦ closing_others i other ∙ (elim (cases_lt i (len / size)) [
            | inl before ↦ laid.gone i before (ap (count_where has_place) (sym (closing_others i other)) ∙ none)
            | inr beyond ↦ laid.unopened i (omega (arith, beyond, other))
          ])
        ]

        pub marking_laid : IsLaid size marked later
        marking_laid = record {
          past = λ q beyond. look_there q (λ same. absurd (omega (arith, same, beyond, covers))) ∙ laid.past q (omega (arith, longer, beyond));
          unopened = λ i more. mark_children i (λ here. absurd (omega (arith, here, more, at_later)))
              ∙ closing_others i (λ last. absurd (omega (arith, last, more, open_later))) ∙ laid.unopened i (omega (arith, more, open_later));
          gone = λ i closed none. elim (cases_eq i at) [
            | inl here ↦ absurd (omega (arith, counted_here, ap (λ j. count_where has_place (child_at marked j)) (sym here) ∙ none))
            | inr apart ↦ mark_children i apart ∙ gone_after i closed apart (ap (count_where has_place) (sym (mark_children i apart)) ∙ none)
          ];
        }

  -- A task that has a place gets another standing.
  module _ (t : ℕ) (has : has_place (standing_at (laid_standings size children len) t) ≡ true) where
    pub given : t < len
    given = omega (arith, has_entry (laid_standings size children len) t has, length-standings_of (look_in size children) len)

    pub placed_in_child : has_place (standing_at (child_at children (t / size)) (t % size)) ≡ true
    placed_in_child = ap has_place (standing_is t) ∙ has

    pub at_child : t / size < length children
    at_child = elim (cases_lt (t / size) (length children)) [
      | inl below ↦ below
      | inr past ↦ absurd (false-true (sym (ap (λ c. has_place (standing_at c (t % size))) (get_or_past children (t / size) [] past)) ∙ placed_in_child))
    ]

    module _ (read : List Standing) (reads : read ≡ get_or children (t / size) read) where
      found : child_at children (t / size) ≡ read
      found = child_is children (t / size) read at_child reads

      pub placed_in_read : has_place (standing_at read (t % size)) ≡ true
      placed_in_read = ap (λ c. has_place (standing_at c (t % size))) (sym found) ∙ placed_in_child

      module _ (standing : Standing) (is_closed : Bool) (closed_is : is_closed ≡ nat_lt (t / size) (len / size)) (child : List Standing)
          (is : child ≡ left_of is_closed (slice_set read (t % size) standing)) where
        abbrev changed : List (List Standing)
        changed = slice_set children (t / size) child

        change_child : child_at changed (t / size) ≡ child
        change_child = get_or-set_same children (t / size) child [] at_child

        change_children : (i : ℕ) → i ≢ t / size → child_at changed i ≡ child_at children i
        change_children i apart = get_or-set_other children (t / size) i child [] apart

        child_reads : (k : ℕ) → standing_at (child_at changed (t / size)) k ≡ standing_at (slice_set read (t % size) standing) k
        child_reads k = ap (λ c. standing_at c k) (change_child ∙ is) ∙ left-standing is_closed (slice_set read (t % size) standing) k

        now_here : look_in size changed t ≡ standing
        now_here = child_reads (t % size) ∙ get_or-set_same read (t % size) standing Unknown (has_entry read (t % size) placed_in_read)

        now_there : (q : ℕ) → q ≢ t → look_in size changed q ≡ look_in size children q
        now_there q apart = elim (cases_eq (q / size) (t / size)) [
          | inl whole ↦ ap (λ i. standing_at (child_at changed i) (q % size)) whole ∙ child_reads (q % size)
              ∙ get_or-set_other read (t % size) (q % size) standing Unknown (λ rest. apart (same_number q t size whole rest))
              ∙ ap (λ c. standing_at c (q % size)) (sym found) ∙ ap (λ i. standing_at (child_at children i) (q % size)) (sym whole)
          | inr other ↦ ap (λ c. standing_at c (q % size)) (change_children (q / size) other)
        ]

        now_each : (i : ℕ) → i < length (laid_standings size changed len) → get_or (laid_standings size changed len) i Unknown ≡ get_or (slice_set (laid_standings size children len) t standing) i Unknown
        now_each i below =
            standing_at-standings_of (look_in size changed) len i (omega (arith, below, length-standings_of (look_in size changed) len))
            ∙ (elim (cases_eq i t) [
              | inl here ↦ ap (look_in size changed) here ∙ now_here
                  ∙ sym (get_or-set_same (laid_standings size children len) t standing Unknown (has_entry (laid_standings size children len) t has)) ∙ ap (standing_at (slice_set (laid_standings size children len) t standing)) (sym here)
              | inr apart ↦ now_there i apart ∙ standing_is i ∙ sym (get_or-set_other (laid_standings size children len) t i standing Unknown apart)
            ])

        pub changing_is : laid_standings size changed len ≡ slice_set (laid_standings size children len) t standing
        changing_is = ext_get_or Unknown (laid_standings size changed len) (slice_set (laid_standings size children len) t standing)
            (length-standings_of (look_in size changed) len ∙ sym (length-set (laid_standings size children len) t standing ∙ length-standings_of (look_in size children) len)) now_each

        emptied : t / size < len / size → count_where has_place child ≡ 0 → child ≡ []
        emptied less none =
            let all : child ≡ left_of true (slice_set read (t % size) standing) = is ∙ ap (λ b. left_of b (slice_set read (t % size) standing)) (closed_is ∙ lt_true (t / size) (len / size) less) in
            all ∙ left_empty (slice_set read (t % size) standing) (ap (count_where has_place) (sym all) ∙ none)

        pub changing_laid : IsLaid size changed len
        changing_laid = record {
          past = λ q beyond. now_there q (λ same. absurd (omega (arith, same, beyond, given))) ∙ laid.past q beyond;
          unopened = λ i more. change_children i (λ here. absurd (omega (arith, here, more, div_up t len size some (omega (arith, given))))) ∙ laid.unopened i more;
          gone = λ i closed none. elim (cases_eq i (t / size)) [
            | inl here ↦ ap (child_at changed) here ∙ change_child ∙ emptied (omega (arith, here, closed)) (ap (count_where has_place) (sym change_child) ∙ ap (λ j. count_where has_place (child_at changed j)) (sym here) ∙ none)
            | inr apart ↦ change_children i apart ∙ laid.gone i closed (ap (count_where has_place) (sym (change_children i apart)) ∙ none)
          ];
        }

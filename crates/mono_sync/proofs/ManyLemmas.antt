-- What the first part that owes a wake hands out, all parts hand out.
use Rattle.std.proofs.Common.{◌≡◌, ◌≢◌, ◌⊎◌, ◌<◌, ◌≤◌, ◌+◌, ◌==◌, ℕ, zero, suc, Bool, true, false, List, [], ◌∷◌, ◌++◌, length, Option, Some, None, refl, sym, ap, subst, ◌∙◌, inl, inr, arith, map}
use Rattle.std.specs.Prelude.{is_some, slice_set}
use Rattle.std.proofs.lemmas.Bool.{cases_lt, cases_eq}
use Rattle.std.proofs.lemmas.List.{get_or-set_other, get_or-set_same, map-set, map-append, set-get_or, get_or_past, length-map}
use Rattle.std.proofs.Math.ListN.{get_or-map}
use Rattle.mono_model.specs.Table.{Table, value_at, with_next, with_value, without, count_of}
use Rattle.mono_model.proofs.CountLemmas.{counted, counted-count_of}
use Rattle.mono_task.specs.Owed.{Keeps, Hands}
use Rattle.mono_sync.specs.Touched.{Marks, IsMarked}
use Rattle.mono_sync.specs.Many.{part_in, parts_of, IsFull, lists_each, tasks_in, tasks_each, LeadsEach, HandsAt, NoneBelow, IsNoted}
use Rattle.mono_sync.specs.ManyLeads.{each_with, keeps_with}

false-true : false ≡ true → ⊥
false-true e = cc

none-some : {V : Type 0} (v : V) → None ≡ Some v → ⊥
none-some v e = cc

none-true : {V : Type 0} (v : Option V) → v ≡ None → is_some v ≡ true → ⊥
none-true v e is = cc

pub same_some : {V : Type 0} (x y : V) → Some x ≡ Some y → x ≡ y
same_some x y e = cc

some_none : {X : Type 0} (y : X) (o : Option X) → o ≡ None → Some (Some y) ≡ Some o → ⊥
some_none y o is e = cc

none_some_none : {X : Type 0} (o : Option X) → None ≡ Some o → ⊥
none_some_none o e = cc

module _ {X : Type 0} where
  -- the part of a key, by its place
  pub part_at : (places : Table (Option X)) (k : ℕ) → value_at (parts_of places) k ≡ part_in (value_at places k)
  part_at places k = get_or-map part_in places k None

  -- a part has a place
  pub place_some : (o : Option (Option X)) → is_some (part_in o) ≡ true → is_some o ≡ true
  place_some None is = absurd (false-true is)
  place_some (Some x) is = refl

  pub content : (o : Option (Option X)) (x : Option X) → o ≡ Some x → x ≡ part_in o
  content None x is = absurd (none-some x is)
  content (Some y) x is = sym (same_some y x is)

  pub full_some : (o : Option X) → (o ≡ None → ⊥) → is_some o ≡ true
  full_some None full = absurd (full refl)
  full_some (Some x) full = refl

  -- a place gets a part
  pub full_with : (places : Table (Option X)) (k : ℕ) (y : X) → IsFull places → IsFull (with_value places k (Some y))
  full_with [] k y full j is = full j is
  full_with (z ∷ zs) zero y full zero is = some_none y None refl is
  full_with (z ∷ zs) zero y full (suc j) is = full (suc j) is
  full_with (z ∷ zs) (suc k) y full zero is = full zero is
  full_with (z ∷ zs) (suc k) y full (suc j) is = full_with zs k y (λ i. full (suc i)) j is

  pub full_without : (places : Table (Option X)) (k : ℕ) → IsFull places → IsFull (without places k)
  full_without [] k full j is = full j is
  full_without (z ∷ zs) zero full zero is = none_some_none None is
  full_without (z ∷ zs) zero full (suc j) is = full (suc j) is
  full_without (z ∷ zs) (suc k) full zero is = full zero is
  full_without (z ∷ zs) (suc k) full (suc j) is = full_without zs k (λ i. full (suc i)) j is

  pub full_next : (places : Table (Option X)) (y : X) → IsFull places → IsFull (with_next places (Some y))
  full_next [] y full zero is = some_none y None refl is
  full_next [] y full (suc j) is = full (suc j) is
  full_next (z ∷ zs) y full zero is = full zero is
  full_next (z ∷ zs) y full (suc j) is = full_next zs y (λ i. full (suc i)) j is

  -- the parts after a place gets a part, or goes
  pub parts_with : (places : Table (Option X)) (k : ℕ) (y : X) → parts_of (with_value places k (Some y)) ≡ with_value (parts_of places) k y
  parts_with places k y = map-set part_in places k (Some (Some y))

  pub parts_without : (places : Table (Option X)) (k : ℕ) → parts_of (without places k) ≡ without (parts_of places) k
  parts_without places k = map-set part_in places k None

  pub parts_next : (places : Table (Option X)) (y : X) → parts_of (with_next places (Some y)) ≡ with_next (parts_of places) y
  parts_next places y = map-append part_in places (Some (Some y) ∷ [])

  count_parts : (places : Table (Option X)) → IsFull places → counted places ≡ counted (parts_of places)
  count_parts [] full = refl
  count_parts (None ∷ zs) full = count_parts zs (λ i. full (suc i))
  count_parts (Some None ∷ zs) full = absurd (full zero refl)
  count_parts (Some (Some x) ∷ zs) full = ap (λ n. 1 + n) (count_parts zs (λ i. full (suc i)))

  pub parts_count : (places : Table (Option X)) → IsFull places → count_of places ≡ count_of (parts_of places)
  parts_count places full = sym (counted-count_of places) ∙ count_parts places full ∙ counted-count_of (parts_of places)

  -- the old part is written again
  pub same_with : (xs : Table X) (k : ℕ) (x : X) → value_at xs k ≡ Some x → with_value xs k x ≡ xs
  same_with xs k x at = ap (slice_set xs k) (sym at) ∙ set-get_or xs k None

  -- other keys keep their parts
  pub other_with : (xs : Table X) (k j : ℕ) (v : Option X) → j ≢ k → value_at (slice_set xs k v) j ≡ value_at xs j
  other_with xs k j v other = get_or-set_other xs k j v None other

  pub other_next : (xs : Table X) (x : X) (j : ℕ) → j ≢ length xs → value_at (with_next xs x) j ≡ value_at xs j
  other_next [] x zero other = absurd (other refl)
  other_next [] x (suc j) other = refl
  other_next (z ∷ zs) x zero other = refl
  other_next (z ∷ zs) x (suc j) other = other_next zs x j (λ e. other (ap suc e))

module _ {X : Type 0} (owes : X → List ℕ) where
  -- no part owes a wake
  pub none_each : (xs : Table X) → ((k : ℕ) → tasks_in owes (value_at xs k) ≡ []) → tasks_each owes xs ≡ []
  none_each [] none = refl
  none_each (z ∷ zs) none = ap (λ ts. ts ++ tasks_each owes zs) (none 0) ∙ none_each zs (λ k. none (suc k))

  -- the first part that owes a wake
  pub owed_each : (xs : Table X) (k : ℕ) (x y : X) (t : ℕ) → NoneBelow owes k xs → value_at xs k ≡ Some x → owes x ≡ t ∷ owes y → tasks_each owes xs ≡ t ∷ tasks_each owes (with_value xs k y)
  owed_each [] k x y t none at owed = absurd (none-some x at)
  owed_each (z ∷ zs) zero x y t none at owed = ap (λ ts. ts ++ tasks_each owes zs) (ap (tasks_in owes) at ∙ owed)
  owed_each (z ∷ zs) (suc k) x y t none at owed =
      let nothing = none 0 (omega arith) in
      ap (λ ts. ts ++ tasks_each owes zs) nothing ∙ owed_each zs k x y t (λ j less. none (suc j) (omega (arith, less))) at owed
      ∙ ap (λ ts. t ∷ (ts ++ tasks_each owes (with_value zs k y))) (sym nothing)

  module _ (leads : X → X → Type 0) (lists : X → List ℕ → ℕ → Bool) (waiting : X → List ℕ) where
    pub hands_each : (a b : Table X) (k t : ℕ) → NoneBelow owes k a → HandsAt leads lists owes k a (Some t) b → Hands (lists_each lists) (tasks_each owes) a (Some t) b
    hands_each a b k t none (x, y, at, (hands, led), is) = (
      owed_each a k x y t none at hands.0 ∙ ap (λ xs. t ∷ tasks_each owes xs) (sym is),
      subst (Keeps (lists_each lists) t a) (sym is) (keeps_with lists t x y hands.1 a k at),
    )

    pub leads_each : ((x : X) → leads x x) → (a b : Table X) (k t : ℕ) → HandsAt leads lists owes k a (Some t) b → LeadsEach leads waiting owes a b
    leads_each itself a b k t (x, y, at, (hands, led), is) = subst (LeadsEach leads waiting owes a) (sym is) (each_with leads waiting owes itself a k x y at led)

    -- one part is asked for what it owes
    pub hands_at : (places : Table (Option X)) (k : ℕ) (x y : X) (r : Option ℕ) → value_at places k ≡ Some (Some x) → Hands lists owes x r y → leads x y → HandsAt leads lists owes k (parts_of places) r (parts_of (with_value places k (Some y)))
    hands_at places k x y None at hands led =
        let here = part_at places k ∙ ap part_in at in
        (ap (tasks_in owes) here ∙ hands.0, parts_with places k y ∙ ap (λ z. with_value (parts_of places) k z) hands.1 ∙ same_with (parts_of places) k x here)
    hands_at places k x y (Some t) at hands led = (x, y, part_at places k ∙ ap part_in at, (hands, led), parts_with places k y)

  gone_owes : (xs : Table X) (k : ℕ) → tasks_in owes (value_at (without xs k) k) ≡ []
  gone_owes [] k = refl
  gone_owes (z ∷ zs) zero = refl
  gone_owes (z ∷ zs) (suc k) = gone_owes zs k

  module _ (places : Table (Option X)) (m : Marks) (noted : IsNoted owes places m) where
    -- a part that was noted gets another value
    pub noted_with : (n : Marks) (k : ℕ) (y : X) → IsMarked n k → ((j : ℕ) → IsMarked m j → IsMarked n j) → IsNoted owes (with_value places k (Some y)) n
    noted_with n k y marked others = record {
      full = full_with places k y noted.full;
      noted = λ j. elim (cases_eq j k) [
        | inl same ↦ inr (subst (IsMarked n) (sym same) marked)
        | inr other ↦ elim (noted.noted j) [
          | inl none ↦ inl (ap (λ xs. tasks_in owes (value_at xs j)) (parts_with places k y) ∙ ap (tasks_in owes) (other_with (parts_of places) k j (Some y) other) ∙ none)
          | inr there ↦ inr (others j there)
        ]
      ];
    }

    -- a part goes
    pub noted_without : (k : ℕ) → IsNoted owes (without places k) m
    noted_without k = record {
      full = full_without places k noted.full;
      noted = λ j. elim (cases_eq j k) [
        | inl same ↦ inl (ap (λ xs. tasks_in owes (value_at xs j)) (parts_without places k) ∙ ap (λ i. tasks_in owes (value_at (without (parts_of places) k) i)) same ∙ gone_owes (parts_of places) k)
        | inr other ↦ elim (noted.noted j) [
          | inl none ↦ inl (ap (λ xs. tasks_in owes (value_at xs j)) (parts_without places k) ∙ ap (tasks_in owes) (other_with (parts_of places) k j None other) ∙ none)
          | inr there ↦ inr there
        ]
      ];
    }

    -- a part comes
    pub noted_next : (n : Marks) (y : X) → IsMarked n (length places) → ((j : ℕ) → IsMarked m j → IsMarked n j) → IsNoted owes (with_next places (Some y)) n
    noted_next n y marked others = record {
      full = full_next places y noted.full;
      noted = λ j. elim (cases_eq j (length places)) [
        | inl same ↦ inr (subst (IsMarked n) (sym same) marked)
        | inr other ↦ elim (noted.noted j) [
          | inl none ↦ inl (ap (λ xs. tasks_in owes (value_at xs j)) (parts_next places y) ∙ ap (tasks_in owes) (other_next (parts_of places) y j (λ e. other (e ∙ length-map places part_in))) ∙ none)
          | inr there ↦ inr (others j there)
        ]
      ];
    }

    -- a part that owes nothing is noted no longer
    pub noted_past : (n : Marks) (k : ℕ) → tasks_in owes (value_at (parts_of places) k) ≡ [] → ((j : ℕ) → j ≢ k → IsMarked m j → IsMarked n j) → IsNoted owes places n
    noted_past n k none others = record {
      full = noted.full;
      noted = λ j. elim (cases_eq j k) [
        | inl same ↦ inl (ap (λ i. tasks_in owes (value_at (parts_of places) i)) same ∙ none)
        | inr other ↦ elim (noted.noted j) [
          | inl nothing ↦ inl nothing
          | inr there ↦ inr (others j other there)
        ]
      ];
    }

    -- only noted parts owe
    pub owes_nothing : (j : ℕ) → (IsMarked m j → ⊥) → tasks_in owes (value_at (parts_of places) j) ≡ []
    owes_nothing j not = elim (noted.noted j) [ inl none ↦ none | inr there ↦ absurd (not there) ]

    -- no key below the count is noted
    pub owes_none : ((j : ℕ) → j < length places → IsMarked m j → ⊥) → (j : ℕ) → tasks_in owes (value_at (parts_of places) j) ≡ []
    owes_none not j = elim (cases_lt j (length places)) [
      | inl below ↦ owes_nothing j (not j below)
      | inr past ↦ ap (tasks_in owes) (get_or_past (parts_of places) j None (subst (λ n. n ≤ j) (sym (length-map places part_in)) past))
    ]

  -- the places stay, and all keys are noted no longer
  pub noted_anew : (places : Table (Option X)) (n : Marks) → IsFull places → ((j : ℕ) → tasks_in owes (value_at (parts_of places) j) ≡ []) → IsNoted owes places n
  noted_anew places n full none = record { full = full; noted = λ j. inl (none j) }

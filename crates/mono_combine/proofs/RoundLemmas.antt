-- The turns of the branches of a list from a start on, around the end, and the rule's pick from their answers.
use Rattle.std.proofs.Common.{◌≡◌, ◌≢◌, ℕ, zero, suc, ◌≤◌, ◌+◌, ◌-◌, ◌<◌, ◌%◌, ◌⊎◌, inl, inr, subst, ◌||◌, Bool, true, false, List, [], ◌∷◌, ◌++◌, length, get_or, set, map, refl, sym, ◌∙◌, ap, arith, Option, Some, None}
use Rattle.std.specs.Prelude.{⊤}
use Rattle.std.specs.List.{list_any, filter_map, range_with_len, cons_option, FoldsTo}
use Rattle.std.specs.Fn.{Shared}
use Rattle.std.proofs.lemmas.List.{get_or-set_same, get_or-set_other, length-set}
use Rattle.std.proofs.lemmas.List.FromFn.{map-range_with_len_more}
use Rattle.std.proofs.lemmas.Fn.{FoldsTo-push}
use Rattle.std.proofs.lemmas.Bool.{cases_lt}
use Rattle.std.proofs.Math.Nat.{mod-eq_of_lt, mod-lt, add-mod_right}
use denote.Ref.{Bor}
use Rattle.mono_combine.proofs.ListLemmas.{neither, or_assoc}
use Rattle.mono_task.specs.Members.{FutureOf}
use Rattle.mono_model.specs.declared.poll.Poll.{Poll}
use Rattle.mono_model.specs.declared.poll.Poll.TheVariants.{Ready}
use Rattle.mono_combine.specs.declared.branch.Branch.{Branch}
use Rattle.mono_combine.specs.declared.branch.Branch.TheVariants.{Gone}
use Rattle.mono_combine.specs.declared.branch.Look.{Look}
use Rattle.mono_combine.specs.declared.branch.Look.TheVariants.{Passes, Waits, Rests}
use Rattle.mono_combine.specs.Looks.{is_out, HasTurnAt}
use Rattle.mono_combine.specs.Rules.{unless_masked, counted, look_at, up_to_pass, passes, waits, passed, passed_as, first_of, picked_of, order_from, select_turns, select_rule}
use Rattle.mono_combine.specs.ListSelects.{Row, branch_at, are_out, TurnAt, RowSelects}

-- the place that has the turn with this number
abbrev pub place : ℕ → ℕ → ℕ → ℕ
place start count turn = (start + turn) % count

past_end : (y n : ℕ) → y < n → (y + n) % n + n ≡ y + n
past_end y n less = rw (add-mod_right y n, mod-eq_of_lt less) refl

wraps : (x n : ℕ) → x < n + n → ((x < n) × (x % n ≡ x)) ⊎ ((n ≤ x) × (x % n + n ≡ x))
wraps x n less = elim (cases_lt x n) [
  | inl inside ↦ inl (inside, mod-eq_of_lt inside)
  | inr past ↦
      let back : x - n + n ≡ x = omega arith in
      inr (past, subst (λ z. z % n + n ≡ z) back (past_end (x - n) n (omega arith)))
]

-- two turns are at two places
places_apart : (start n i k : ℕ) → start < n → i < n → k < i → place start n k ≢ place start n i
places_apart start n i k below less before same = elim (wraps (start + i) n (omega arith)) [
  | inl a ↦ elim (wraps (start + k) n (omega arith)) [
    | inl b ↦ omega (arith, a.0, a.1, b.0, b.1, same)
    | inr b ↦ omega (arith, a.0, a.1, b.0, b.1, same)
  ]
  | inr a ↦ elim (wraps (start + k) n (omega arith)) [
    | inl b ↦ omega (arith, a.0, a.1, b.0, b.1, same)
    | inr b ↦ omega (arith, a.0, a.1, b.0, b.1, same)
  ]
]

-- a place is no member of the list
abbrev Apart : ℕ → List ℕ → Type 0
Apart p [] = ⊤
Apart p (x ∷ xs) = (x ≢ p) × Apart p xs

apart_range : (start n i a m : ℕ) → start < n → i < n → a + m ≤ i → Apart (place start n i) (map (λ k. place start n k) (range_with_len a m))
apart_range start n i a zero below less inside = tt
apart_range start n i a (suc m) below less inside = (places_apart start n i a below less (omega arith), apart_range start n i (a + 1) m below less (omega arith))

splits : (f : ℕ → ℕ) (a i n j : ℕ) → i < n → a + i ≡ j → (rest : List ℕ) × (map f (range_with_len a n) ≡ map f (range_with_len a i) ++ (f j ∷ rest))
splits f a i zero j less e = absurd (omega arith)
splits f a zero (suc n) j less e = let same : a ≡ j = omega arith in (map f (range_with_len (a + 1) n), ap (λ k. f k ∷ map f (range_with_len (a + 1) n)) same)
splits f a (suc i) (suc n) j less e = let later = splits f (a + 1) i n j (omega arith) (omega arith) in (later.0, ap (λ l. f a ∷ l) later.1)

-- An element that exists is the same for any default.
element_is : {M : Type 0} (xs : List M) (p : ℕ) (m d : M) → p < length xs → m ≡ get_or xs p m → get_or xs p d ≡ m
element_is [] p m d less is = absurd (omega arith)
element_is (x ∷ xs) zero m d less is = sym is
element_is (x ∷ xs) (suc p) m d less is = element_is xs p m d (omega arith) is

or_comm : (a b : Bool) → (a || b) ≡ (b || a)
or_comm true true = refl
or_comm true false = refl
or_comm false true = refl
or_comm false false = refl

module _ {X : Type 0} where
  -- the answers before the first turn
  abbrev all_rest : {T : Type 0} → List (Branch T) → List (Look X)
  all_rest [] = []
  all_rest (b ∷ bs) = Rests ∷ all_rest bs

  rest_at : {T : Type 0} (bs : List (Branch T)) (k : ℕ) → look_at (all_rest bs) k ≡ Rests
  rest_at [] k = refl
  rest_at (b ∷ bs) zero = refl
  rest_at (b ∷ bs) (suc k) = rest_at bs k

  masked_rests : (m : Bool) → unless_masked {X = X} m Rests ≡ Rests
  masked_rests true = refl
  masked_rests false = refl

  counted_rest : {T : Type 0} (bs : List (Branch T)) → counted (are_out bs) (all_rest bs) ≡ all_rest bs
  counted_rest [] = refl
  counted_rest (b ∷ bs) = rw (masked_rests (is_out b)) (ap (λ l. Rests ∷ l) (counted_rest bs))

  any_set_none : (p : Look X → Bool) (xs : List (Look X)) (i : ℕ) (l : Look X) → list_any p xs ≡ false → p l ≡ false → list_any p (set xs i l) ≡ false
  any_set_none p [] i l before now = refl
  any_set_none p (x ∷ xs) zero l before now = rw now (neither (p x) (list_any p xs) before).1
  any_set_none p (x ∷ xs) (suc i) l before now = rw (neither (p x) (list_any p xs) before).0 (any_set_none p xs i l (neither (p x) (list_any p xs) before).1 now)

  any_set : (p : Look X → Bool) (xs : List (Look X)) (i : ℕ) (l : Look X) → i < length xs → p (look_at xs i) ≡ false → list_any p (set xs i l) ≡ (list_any p xs || p l)
  any_set p [] i l less before = absurd (omega arith)
  any_set p (x ∷ xs) zero l less before = rw before (or_comm (p l) (list_any p xs))
  any_set p (x ∷ xs) (suc i) l less before = ap (λ b. p x || b) (any_set p xs i l (omega arith) before) ∙ sym (or_assoc (p x) (list_any p xs) (p l))

  counted_set : (ms : List Bool) (xs : List (Look X)) (i : ℕ) (l : Look X) → counted ms xs ≡ xs → unless_masked (get_or ms i true) l ≡ l → counted ms (set xs i l) ≡ set xs i l
  counted_set [] [] i l before now = refl
  counted_set [] (x ∷ xs) i l before now = absurd (cc)
  counted_set (m ∷ ms) [] i l before now = refl
  counted_set (m ∷ ms) (x ∷ xs) zero l before now = let later : counted ms xs ≡ xs = cc in ap (λ h. h ∷ counted ms xs) now ∙ ap (λ t. l ∷ t) later
  counted_set (m ∷ ms) (x ∷ xs) (suc i) l before now =
      let first : unless_masked m x ≡ x = cc in
      let later : counted ms xs ≡ xs = cc in
      ap (λ h. h ∷ counted ms (set xs i l)) first ∙ ap (λ t. x ∷ t) (counted_set ms xs i l later now)

  none_at : (xs : List (Look X)) (b : ℕ) → list_any passes xs ≡ false → passes (look_at xs b) ≡ false
  none_at [] b h = refl
  none_at (x ∷ xs) zero h = (neither (passes x) (list_any passes xs) h).0
  none_at (x ∷ xs) (suc b) h = none_at xs b (neither (passes x) (list_any passes xs) h).1

  -- none of these branches passes
  abbrev NonePasses : List (Look X) → List ℕ → Type 0
  NonePasses looks [] = ⊤
  NonePasses looks (b ∷ bs) = (passes (look_at looks b) ≡ false) × NonePasses looks bs

  none_before : (looks : List (Look X)) (p : ℕ) (l : Look X) (bs : List ℕ) → list_any passes looks ≡ false → Apart p bs → NonePasses (set looks p l) bs
  none_before looks p l [] h apart = tt
  none_before looks p l (b ∷ bs) h apart = (ap (λ look. passes look) (get_or-set_other looks p b l Rests apart.0) ∙ none_at looks b h, none_before looks p l bs h apart.1)

  none_all : (looks : List (Look X)) (bs : List ℕ) → list_any passes looks ≡ false → NonePasses looks bs
  none_all looks [] h = tt
  none_all looks (b ∷ bs) h = (none_at looks b h, none_all looks bs h)

  up_to_none : (looks : List (Look X)) (bs : List ℕ) → NonePasses looks bs → up_to_pass looks bs ≡ bs
  up_to_none looks [] h = refl
  up_to_none looks (b ∷ bs) h = rw h.0 (ap (λ l. b ∷ l) (up_to_none looks bs h.1))

  up_to_here : (looks : List (Look X)) (xs ys : List ℕ) (b : ℕ) → NonePasses looks xs → passes (look_at looks b) ≡ true → up_to_pass looks (xs ++ (b ∷ ys)) ≡ xs ++ (b ∷ [])
  up_to_here looks [] ys b h here = rw here refl
  up_to_here looks (x ∷ xs) ys b h here = rw h.0 (ap (λ l. x ∷ l) (up_to_here looks xs ys b h.1 here))

  not_passed : (b : ℕ) (l : Look X) → passes l ≡ false → passed_as b l ≡ None
  not_passed b (Passes x) h = absurd (cc)
  not_passed b Waits h = refl
  not_passed b Rests h = refl

  pick_none : (looks : List (Look X)) (bs : List ℕ) → NonePasses looks bs → filter_map (passed looks) bs ≡ []
  pick_none looks [] h = refl
  pick_none looks (b ∷ bs) h = ap (λ o. cons_option o (filter_map (passed looks) bs)) (not_passed b (look_at looks b) h.0) ∙ pick_none looks bs h.1

  pick_here : (looks : List (Look X)) (xs ys : List ℕ) (b : ℕ) (v : X) → NonePasses looks xs → look_at looks b ≡ Passes v → filter_map (passed looks) (xs ++ (b ∷ ys)) ≡ (b, v) ∷ filter_map (passed looks) ys
  pick_here looks [] ys b v h here = ap (λ l. cons_option (passed_as b l) (filter_map (passed looks) ys)) here
  pick_here looks (x ∷ xs) ys b v h here = ap (λ o. cons_option o (filter_map (passed looks) (xs ++ (b ∷ ys)))) (not_passed x (look_at looks x) h.0) ∙ pick_here looks xs ys b v h.1 here

  turns_of : (start : ℕ) (mask : List Bool) (looks : List (Look X)) (n : ℕ) → counted mask looks ≡ looks → length looks ≡ n → select_turns mask start looks ≡ up_to_pass looks (order_from start n)
  turns_of start mask looks n counts each = ap (λ l. up_to_pass l (order_from start (length looks))) counts ∙ ap (λ k. up_to_pass looks (order_from start k)) each

  rule_of : (start : ℕ) (mask : List Bool) (looks : List (Look X)) (n : ℕ) → counted mask looks ≡ looks → length looks ≡ n → select_rule mask start looks ≡ picked_of looks (order_from start n)
  rule_of start mask looks n counts each = ap (λ l. picked_of l (order_from start (length looks))) counts ∙ ap (λ k. picked_of looks (order_from start k)) each

module _ (X : Type 0) where
  length_rest : {T : Type 0} (bs : List (Branch T)) → length (all_rest {X = X} bs) ≡ length bs
  length_rest [] = refl
  length_rest (b ∷ bs) = ap suc (length_rest bs)

  none_rest : {T : Type 0} (bs : List (Branch T)) → list_any passes (all_rest {X = X} bs) ≡ false
  none_rest [] = refl
  none_rest (b ∷ bs) = none_rest bs

  no_wait : {T : Type 0} (bs : List (Branch T)) → list_any waits (all_rest {X = X} bs) ≡ false
  no_wait [] = refl
  no_wait (b ∷ bs) = no_wait bs

out_at : {T : Type 0} (bs : List (Branch T)) (i : ℕ) → get_or (are_out bs) i true ≡ is_out (branch_at bs i)
out_at [] i = refl
out_at (b ∷ bs) zero = refl
out_at (b ∷ bs) (suc i) = out_at bs i

module _ {T G C O : Type 0} (future : FutureOf T C O) (call : Shared G (ℕ × (Bor O × Unit {0})) Bool) (test : G) where
  fold_set : (looks : List (Look O)) (p : ℕ) (l : Look O) (bs : List ℕ) → Apart p bs → (s t : Row T C) → FoldsTo (TurnAt future call test looks) s bs t → FoldsTo (TurnAt future call test (set looks p l)) s bs t
  fold_set looks p l [] apart s t h = h
  fold_set looks p l (b ∷ bs) apart s t h = (
    h.0,
    record {
      turn = subst (λ look. HasTurnAt future call test b (branch_at s.branches b) s.cx look (branch_at h.0.branches b) h.0.cx) (sym (get_or-set_other looks p b l Rests apart.0)) h.1.turn;
      others = h.1.others;
    },
    fold_set looks p l bs apart.1 h.0 t h.2,
  )

  one_turn : (looks : List (Look O)) (t : Row T C) (p : ℕ) (l : Look O) (b : Branch T) (d : C) → p < length looks → p < length t.branches
      → HasTurnAt future call test p (branch_at t.branches p) t.cx l b d → TurnAt future call test (set looks p l) t p (record { branches = set t.branches p b; cx = d })
  one_turn looks t p l b d less inside turn =
      let now = get_or-set_same looks p l Rests less in
      let left = get_or-set_same t.branches p b Gone inside in
      record {
        turn = subst (λ b'. HasTurnAt future call test p (branch_at t.branches p) t.cx (look_at (set looks p l) p) b' d) (sym left) (subst (λ look. HasTurnAt future call test p (branch_at t.branches p) t.cx look b d) (sym now) turn);
        others = ap (λ b'. set t.branches p b') (sym left);
      }

  module _ (start : ℕ) (s : Row T C) where
    -- The turns so far, none of which has passed.
    pub record SoFar (turn : ℕ) (t : Row T C) (some_wait : Bool) : Type 0 where
      pub looks : List (Look O)
      pub each : length looks ≡ length s.branches
      pub same_length : length t.branches ≡ length s.branches
      pub turns : FoldsTo (TurnAt future call test looks) s (map (λ k. place start (length s.branches) k) (range_with_len 0 turn)) t
      pub none_passes : list_any passes looks ≡ false
      pub to_come : (k : ℕ) → turn ≤ k → k < length s.branches → look_at looks (place start (length s.branches) k) ≡ Rests
      pub untouched : (k : ℕ) → turn ≤ k → k < length s.branches → branch_at t.branches (place start (length s.branches) k) ≡ branch_at s.branches (place start (length s.branches) k)
      pub counts : counted (are_out s.branches) looks ≡ looks
      pub waiting : some_wait ≡ list_any waits looks

    pub begins : SoFar 0 s false
    begins = record {
      looks = all_rest s.branches;
      each = length_rest O s.branches;
      same_length = refl;
      turns = refl;
      none_passes = none_rest O s.branches;
      to_come = λ k from inside. rest_at s.branches (place start (length s.branches) k);
      untouched = λ k from inside. refl;
      counts = counted_rest s.branches;
      waiting = sym (no_wait O s.branches);
    }

    module _ (turn : ℕ) (t : Row T C) (some_wait : Bool) (so_far : SoFar turn t some_wait) (below : start < length s.branches) (less : turn < length s.branches)
        (b : Branch T) (d : C) where
      within : place start (length s.branches) turn < length s.branches
      within = mod-lt (start + turn) (omega arith)

      counts_here : (l : Look O) → unless_masked (is_out (branch_at t.branches (place start (length s.branches) turn))) l ≡ l
          → counted (are_out s.branches) (set so_far.looks (place start (length s.branches) turn) l) ≡ set so_far.looks (place start (length s.branches) turn) l
      counts_here l counts = counted_set (are_out s.branches) so_far.looks (place start (length s.branches) turn) l so_far.counts
          (subst (λ m. unless_masked m l ≡ l) (ap is_out (so_far.untouched turn (omega arith) less) ∙ sym (out_at s.branches (place start (length s.branches) turn))) counts)

      turned : (l : Look O) → HasTurnAt future call test (place start (length s.branches) turn) (branch_at t.branches (place start (length s.branches) turn)) t.cx l b d
          → FoldsTo (TurnAt future call test (set so_far.looks (place start (length s.branches) turn) l)) s (map (λ k. place start (length s.branches) k) (range_with_len 0 turn) ++ (place start (length s.branches) turn ∷ []))
          (record { branches = set t.branches (place start (length s.branches) turn) b; cx = d })
      turned l had = FoldsTo-push (TurnAt future call test (set so_far.looks (place start (length s.branches) turn) l)) s (map (λ k. place start (length s.branches) k) (range_with_len 0 turn)) t
          (place start (length s.branches) turn) (record { branches = set t.branches (place start (length s.branches) turn) b; cx = d })
          (fold_set so_far.looks (place start (length s.branches) turn) l (map (λ k. place start (length s.branches) k) (range_with_len 0 turn)) (apart_range start (length s.branches) turn 0 turn below less (omega arith)) s t so_far.turns)
          (one_turn so_far.looks t (place start (length s.branches) turn) l b d (let w = within in omega (arith, w, so_far.each)) (let w = within in omega (arith, w, so_far.same_length)) had)

      -- one more turn that does not pass
      goes_on : (l : Look O) → passes l ≡ false
          → HasTurnAt future call test (place start (length s.branches) turn) (branch_at t.branches (place start (length s.branches) turn)) t.cx l b d
          → unless_masked (is_out (branch_at t.branches (place start (length s.branches) turn))) l ≡ l
          → SoFar (turn + 1) (record { branches = set t.branches (place start (length s.branches) turn) b; cx = d }) (some_wait || waits l)
      goes_on l not_passes had counts = record {
        looks = set so_far.looks (place start (length s.branches) turn) l;
        each = length-set so_far.looks (place start (length s.branches) turn) l ∙ so_far.each;
        same_length = length-set t.branches (place start (length s.branches) turn) b ∙ so_far.same_length;
        turns = subst (λ bs. FoldsTo (TurnAt future call test (set so_far.looks (place start (length s.branches) turn) l)) s bs (record { branches = set t.branches (place start (length s.branches) turn) b; cx = d }))
            (sym (map-range_with_len_more (λ k. place start (length s.branches) k) 0 turn turn (omega arith))) (turned l had);
        none_passes = any_set_none passes so_far.looks (place start (length s.branches) turn) l so_far.none_passes not_passes;
        to_come = λ k from inside. get_or-set_other so_far.looks (place start (length s.branches) turn) (place start (length s.branches) k) l Rests (λ same. places_apart start (length s.branches) k turn below inside (omega arith) (sym same)) ∙ so_far.to_come k (omega arith) inside;
        untouched = λ k from inside. get_or-set_other t.branches (place start (length s.branches) turn) (place start (length s.branches) k) b Gone (λ same. places_apart start (length s.branches) k turn below inside (omega arith) (sym same)) ∙ so_far.untouched k (omega arith) inside;
        counts = counts_here l counts;
        waiting = ap (λ w. w || waits l) so_far.waiting ∙ sym (any_set waits so_far.looks (place start (length s.branches) turn) l (let w = within in omega (arith, w, so_far.each)) (ap (λ look. waits look) (so_far.to_come turn (omega arith) less)));
      }

      -- a turn that passes is the last, and its branch is picked
      passes_here : (v : O)
          → HasTurnAt future call test (place start (length s.branches) turn) (branch_at t.branches (place start (length s.branches) turn)) t.cx (Passes v) b d
          → unless_masked (is_out (branch_at t.branches (place start (length s.branches) turn))) (Passes v) ≡ Passes v
          → RowSelects future call test start s (Ready (Some (place start (length s.branches) turn, v))) (record { branches = set t.branches (place start (length s.branches) turn) b; cx = d })
      passes_here v had counts =
          let each : length (set so_far.looks (place start (length s.branches) turn) (Passes v)) ≡ length s.branches = length-set so_far.looks (place start (length s.branches) turn) (Passes v) ∙ so_far.each in
          let here : look_at (set so_far.looks (place start (length s.branches) turn) (Passes v)) (place start (length s.branches) turn) ≡ Passes v =
          get_or-set_same so_far.looks (place start (length s.branches) turn) (Passes v) Rests (let w = within in omega (arith, w, so_far.each)) in
          let before : NonePasses (set so_far.looks (place start (length s.branches) turn) (Passes v)) (map (λ k. place start (length s.branches) k) (range_with_len 0 turn)) =
          none_before so_far.looks (place start (length s.branches) turn) (Passes v) (map (λ k. place start (length s.branches) k) (range_with_len 0 turn)) so_far.none_passes (apart_range start (length s.branches) turn 0 turn below less (omega arith)) in
          let order = splits (λ k. place start (length s.branches) k) 0 turn (length s.branches) turn less (omega arith) in
          record {
            looks = set so_far.looks (place start (length s.branches) turn) (Passes v);
            each = each;
            turns = subst (λ bs. FoldsTo (TurnAt future call test (set so_far.looks (place start (length s.branches) turn) (Passes v))) s bs (record { branches = set t.branches (place start (length s.branches) turn) b; cx = d }))
                (sym (turns_of start (are_out s.branches) (set so_far.looks (place start (length s.branches) turn) (Passes v)) (length s.branches) (counts_here (Passes v) counts) each
                ∙ ap (λ bs. up_to_pass (set so_far.looks (place start (length s.branches) turn) (Passes v)) bs) order.1
                ∙ up_to_here (set so_far.looks (place start (length s.branches) turn) (Passes v)) (map (λ k. place start (length s.branches) k) (range_with_len 0 turn)) order.0 (place start (length s.branches) turn) before (ap (λ l. passes l) here)))
                (turned (Passes v) had);
            picks = sym (rule_of start (are_out s.branches) (set so_far.looks (place start (length s.branches) turn) (Passes v)) (length s.branches) (counts_here (Passes v) counts) each
                ∙ ap (λ bs. picked_of (set so_far.looks (place start (length s.branches) turn) (Passes v)) bs) order.1
                ∙ ap (λ ps. first_of ps (list_any waits (set so_far.looks (place start (length s.branches) turn) (Passes v))))
                (pick_here (set so_far.looks (place start (length s.branches) turn) (Passes v)) (map (λ k. place start (length s.branches) k) (range_with_len 0 turn)) order.0 (place start (length s.branches) turn) v before here));
          }

    -- all have had their turn, and none is picked
    none_picked : (t : Row T C) (some_wait : Bool) → SoFar (length s.branches) t some_wait → (r : Poll (Option (ℕ × O))) → r ≡ first_of [] some_wait → RowSelects future call test start s r t
    none_picked t some_wait so_far r is =
        let none : NonePasses so_far.looks (order_from start (length s.branches)) = none_all so_far.looks (order_from start (length s.branches)) so_far.none_passes in
        record {
          looks = so_far.looks;
          each = so_far.each;
          turns = subst (λ bs. FoldsTo (TurnAt future call test so_far.looks) s bs t)
              (sym (turns_of start (are_out s.branches) so_far.looks (length s.branches) so_far.counts so_far.each ∙ up_to_none so_far.looks (order_from start (length s.branches)) none)) so_far.turns;
          picks = is ∙ ap (λ w. first_of [] w) so_far.waiting ∙ sym (rule_of start (are_out s.branches) so_far.looks (length s.branches) so_far.counts so_far.each
              ∙ ap (λ ps. first_of ps (list_any waits so_far.looks)) (pick_none so_far.looks (order_from start (length s.branches)) none));
        }

    pub none_at_end : (turn : ℕ) (t : Row T C) (some_wait : Bool) → turn ≡ length s.branches → SoFar turn t some_wait → (r : Poll (Option (ℕ × O))) → r ≡ first_of [] some_wait → RowSelects future call test start s r t
    none_at_end turn t some_wait end so_far r is = none_picked t some_wait (subst (λ k. SoFar k t some_wait) end so_far) r is

    module _ (n turn : ℕ) (t : Row T C) (some_wait : Bool) (is_length : n ≡ length s.branches) (so_far : SoFar turn t some_wait) (below : start < n) (less : turn < n)
        (m b : Branch T) (d : C) (is : m ≡ get_or t.branches ((start + turn) % n) m) where
      there : branch_at t.branches ((start + turn) % length s.branches) ≡ m
      there = element_is t.branches ((start + turn) % length s.branches) m Gone
          (let w = mod-lt (start + turn) {m = length s.branches} (omega arith) in omega (arith, w, so_far.same_length))
          (subst (λ k. m ≡ get_or t.branches ((start + turn) % k) m) is_length is)

      had_there : (l : Look O) → HasTurnAt future call test ((start + turn) % n) m t.cx l b d
          → HasTurnAt future call test ((start + turn) % length s.branches) (branch_at t.branches ((start + turn) % length s.branches)) t.cx l b d
      had_there l had = subst (λ x. HasTurnAt future call test ((start + turn) % length s.branches) x t.cx l b d) (sym there) (subst (λ k. HasTurnAt future call test ((start + turn) % k) m t.cx l b d) is_length had)

      pub goes_on_at : (w : Bool) (l : Look O) → passes l ≡ false → HasTurnAt future call test ((start + turn) % n) m t.cx l b d → unless_masked (is_out m) l ≡ l → w ≡ (some_wait || waits l)
          → SoFar (turn + 1) (record { branches = set t.branches ((start + turn) % n) b; cx = d }) w
      goes_on_at w l not_passes had counts waits_is =
          subst (λ k. SoFar (turn + 1) (record { branches = set t.branches ((start + turn) % k) b; cx = d }) w) (sym is_length)
          (subst (λ v. SoFar (turn + 1) (record { branches = set t.branches ((start + turn) % length s.branches) b; cx = d }) v) (sym waits_is)
          (goes_on turn t some_wait so_far (subst (λ k. start < k) is_length below) (subst (λ k. turn < k) is_length less) b d l not_passes (had_there l had)
          (subst (λ x. unless_masked (is_out x) l ≡ l) (sym there) counts)))

      pub passes_at : (v : O) → HasTurnAt future call test ((start + turn) % n) m t.cx (Passes v) b d → unless_masked (is_out m) (Passes v) ≡ Passes v
          → RowSelects future call test start s (Ready (Some ((start + turn) % n, v))) (record { branches = set t.branches ((start + turn) % n) b; cx = d })
      passes_at v had counts =
          subst (λ k. RowSelects future call test start s (Ready (Some ((start + turn) % k, v))) (record { branches = set t.branches ((start + turn) % k) b; cx = d })) (sym is_length)
          (passes_here turn t some_wait so_far (subst (λ k. start < k) is_length below) (subst (λ k. turn < k) is_length less) b d v (had_there (Passes v) had)
          (subst (λ x. unless_masked (is_out x) (Passes v) ≡ Passes v) (sym there) counts))

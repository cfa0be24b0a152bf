-- The sources of a select of many futures.
use Rattle.std.specs.Prelude.{◌≡◌, ◌≢◌, ◌⊎◌, ◌||◌, ◌<◌, ◌≤◌, ◌+◌, ◌-◌, ◌%◌, ℕ, zero, suc, Bool, true, false, if◌then◌else◌, List, [], ◌∷◌, length, map, get_or, Option, Some, None}
use Rattle.std.specs.List.{FoldsTo, list_any, filter_map, cons_option, range_with_len}
use Rattle.std.specs.Fn.{Shared}
use Rattle.std.proofs.Common.{inl, inr, sym, ap, ◌∙◌, subst, refl, arith}
use Rattle.std.proofs.lemmas.Bool.{cases_lt}
use Rattle.std.proofs.lemmas.Bool.Decides.{eqb_tells}
use Rattle.std.proofs.lemmas.List.{get_or-set_other, get_or_past}
use Rattle.std.proofs.Math.Nat.{mod-eq_of_lt, add-mod_right}
use denote.Ref.{Bor}
use Rattle.mono_model.specs.declared.poll.Poll.{Poll}
use Rattle.mono_model.specs.declared.poll.Poll.TheVariants.{Ready, Pending}
use Rattle.mono_task.specs.Members.{FutureOf}
use Rattle.mono_combine.specs.declared.branch.Branch.{Branch}
use Rattle.mono_combine.specs.declared.branch.Branch.TheVariants.{Gone}
use Rattle.mono_combine.specs.declared.branch.Look.{Look}
use Rattle.mono_combine.specs.declared.branch.Look.TheVariants as look
use Rattle.mono_combine.specs.declared.pick.Out as out
use Rattle.mono_combine.specs.declared.start.Start.{Start}
use Rattle.mono_combine.specs.Starts.{start_of}
use Rattle.mono_combine.specs.BranchLists.{EachInTurn}
use Rattle.mono_combine.specs.Looks.{is_out, ReturnsFor, TurnBy}
use Rattle.mono_combine.specs.Rules.{passes, waits, unless_masked, counted, look_at, passed_as, passed, first_of, order_from, up_to_pass, select_rule, select_turns}
use Rattle.mono_combine.specs.ListSelects.{Row, branch_at, are_out, out_of, BranchEnds, RowCancels, RowEnds, TurnAt, SelectListPolls}
use Rattle.mono_wait.specs.Sources.{Source}
use Rattle.mono_wait.specs.Frames.{Frame, Part, Needs, HeardIn, CoversIn, OneIn, same_reached, heard_before, heard_after, one_before, one_after}
use Rattle.mono_wait.specs.Selects.{BranchNeeds, given_up, turn_reached, turn_hears, turn_arms}

-- those of each branch that is left in it
abbrev pub RowNeeds : {T : Type 0} → Needs T → List (Branch T) → Source → Type 0
RowNeeds needs branches x = (place : ℕ) × BranchNeeds needs (branch_at branches place) x

no_answer : {Z : Type 0} (z : Z) → Pending ≡ Ready z → ⊥
no_answer z e = cc

no_true : false ≡ true → ⊥
no_true e = cc

-- a number of the list
abbrev Has : ℕ → List ℕ → Type 0
Has p [] = ⊥
Has p (x ∷ xs) = (x ≡ p) ⊎ Has p xs

has_range : (f : ℕ → ℕ) (a n i j : ℕ) → i < n → a + i ≡ j → Has (f j) (map f (range_with_len a n))
has_range f a zero i j less e = absurd (omega arith)
has_range f a (suc n) zero j less e = let same : a ≡ j = omega arith in inl (ap f same)
has_range f a (suc n) (suc i) j less e = inr (has_range f (a + 1) n i j (omega arith) (omega arith))

-- the turn of a place
abbrev TurnFor : ℕ → ℕ → ℕ → Type 0
TurnFor start n p = (i : ℕ) × (i < n) × ((start + i) % n ≡ p)

turn_next : (start n p i : ℕ) → p < n → i < n → (start + i) % n ≡ p → TurnFor (suc start) n p
turn_next start n p zero less inside e =
    let back : suc start + (n - 1) ≡ start + n = omega arith in
    let same : start ≡ start + 0 = omega arith in
    (n - 1, omega arith, ap (λ k. k % n) back ∙ add-mod_right start n ∙ ap (λ k. k % n) same ∙ e)
turn_next start n p (suc i) less inside e = let same : suc start + i ≡ start + suc i = omega arith in (i, omega arith, ap (λ k. k % n) same ∙ e)

turn_for : (start n p : ℕ) → p < n → TurnFor start n p
turn_for zero n p less = let same : 0 + p ≡ p = omega arith in (p, less, ap (λ k. k % n) same ∙ mod-eq_of_lt less)
turn_for (suc start) n p less = let it : TurnFor start n p = turn_for start n p less in turn_next start n p it.0 less it.1 it.2

has_place : (start n p : ℕ) → p < n → Has p (order_from start n)
has_place start n p less = let it : TurnFor start n p = turn_for start n p less in subst (λ q. Has q (order_from start n)) it.2 (has_range (λ i. (start + i) % n) 0 n it.0 it.0 it.1 (omega arith))

module _ {X : Type 0} where
  turns_here : (l : Look X) (b : ℕ) (picks : List (ℕ × X)) (turns later : List ℕ) → cons_option (passed_as b l) picks ≡ [] → (picks ≡ [] → turns ≡ later) → b ∷ (if passes l then [] else turns) ≡ b ∷ later
  turns_here (look.Passes v) b picks turns later is more = absurd (no_list is)
    where
      no_list : (b, v) ∷ picks ≡ [] → ⊥
      no_list e = cc
  turns_here look.Waits b picks turns later is more = ap (λ xs. b ∷ xs) (more is)
  turns_here look.Rests b picks turns later is more = ap (λ xs. b ∷ xs) (more is)

  -- if none passes, each has its turn
  all_turn : (looks : List (Look X)) (order : List ℕ) → filter_map (passed looks) order ≡ [] → up_to_pass looks order ≡ order
  all_turn looks [] is = refl
  all_turn looks (b ∷ later) is = turns_here (look_at looks b) b (filter_map (passed looks) later) (up_to_pass looks later) later is (all_turn looks later)

  first_waits : (picks : List (ℕ × X)) (b : Bool) → Pending ≡ first_of picks b → (picks ≡ []) × (b ≡ true)
  first_waits [] true e = (refl, refl)
  first_waits [] false e = absurd (no_answer None e)
  first_waits (pick ∷ later) b e = absurd (no_answer (Some pick) e)

  masked_waits : (m : Bool) (l : Look X) → waits (unless_masked m l) ≡ true → (m ≡ false) × (l ≡ look.Waits)
  masked_waits true l is = absurd (no_true is)
  masked_waits false (look.Passes v) is = absurd (no_true is)
  masked_waits false look.Waits is = (refl, refl)
  masked_waits false look.Rests is = absurd (no_true is)

  -- a branch that counts and waits
  abbrev WaitsAt : List Bool → List (Look X) → Type 0
  WaitsAt mask looks = (p : ℕ) × (p < length looks) × (get_or mask p true ≡ false) × (look_at looks p ≡ look.Waits)

  either_waits : (m : Bool) (mask : List Bool) (l : Look X) (looks : List (Look X)) (b c : Bool) → (b ≡ true → (m ≡ false) × (l ≡ look.Waits)) → (c ≡ true → WaitsAt mask looks) → (b || c) ≡ true → WaitsAt (m ∷ mask) (l ∷ looks)
  either_waits m mask l looks true c here later is = (0, omega arith, (here refl).0, (here refl).1)
  either_waits m mask l looks false c here later is = let it : WaitsAt mask looks = later is in let less : it.0 < length looks = it.1 in (suc it.0, omega (arith, less), it.2, it.3)

  waits_at : (mask : List Bool) (looks : List (Look X)) → list_any waits (counted mask looks) ≡ true → WaitsAt mask looks
  waits_at [] [] is = absurd (no_true is)
  waits_at [] (l ∷ looks) is = absurd (no_true is)
  waits_at (m ∷ mask) [] is = absurd (no_true is)
  waits_at (m ∷ mask) (l ∷ looks) is = either_waits m mask l looks (waits (unless_masked m l)) (list_any waits (counted mask looks)) (masked_waits m l) (waits_at mask looks) is

out_at : {T : Type 0} (bs : List (Branch T)) (p : ℕ) → get_or (are_out bs) p true ≡ is_out (branch_at bs p)
out_at [] p = refl
out_at (b ∷ bs) zero = refl
out_at (b ∷ bs) (suc p) = out_at bs p

module _ {T C O : Type 0} (w : Frame C) (future : FutureOf T C O) (part : Part w future) where
  each_left : (bs : List (Branch T)) (c : C) (left : List (Branch T)) (d : C) → EachInTurn (BranchEnds future) bs c left d → w.reaches c d
  each_left [] c [] d q = same_reached w c d q
  each_left [] c (n ∷ ns) d q = absurd q
  each_left (b ∷ bs) c [] d q = absurd q
  each_left (b ∷ bs) c (n ∷ ns) d (middle, up, rest) = w.on c middle d (given_up future w.reaches w.itself w.on part.reach part.left b c middle up.1) (each_left bs middle ns d rest)

  pub row_left : (bs : List (Branch T)) (c d : C) → RowCancels future bs c d → w.reaches c d
  row_left bs c d q = each_left bs c q.0 d q.1

  abbrev Known : C → Row T C → ℕ → Type 0
  Known c s p = (x : Source) → BranchNeeds part.needs (branch_at s.branches p) x → HeardIn w c s.cx x

  -- The branch at p is left in the select. It needs a source, or the task was woken since c.
  abbrev Armed : C → Row T C → ℕ → Type 0
  Armed c s p = (is_out (branch_at s.branches p) ≡ false) × OneIn w c s.cx (BranchNeeds part.needs (branch_at s.branches p))

  module _ {G : Type 0} (call : Shared G (ℕ × (Bor O × Unit {0})) Bool) (test : G) (looks : List (Look O)) where
    abbrev Step : Row T C → ℕ → Row T C → Type 0
    Step = TurnAt future call test looks

    step_reached : (s : Row T C) (b : ℕ) (t : Row T C) → Step s b t → w.reaches s.cx t.cx
    step_reached s b t q = turn_reached future w.reaches w.itself w.on part.reach part.left (ReturnsFor call test b) (branch_at s.branches b) s.cx (look_at looks b) (branch_at t.branches b) t.cx q.turn

    stays : (s : Row T C) (b : ℕ) (t : Row T C) (p : ℕ) → Step s b t → p ≢ b → branch_at t.branches p ≡ branch_at s.branches p
    stays s b t p q apart = ap (λ bs. branch_at bs p) q.others ∙ get_or-set_other s.branches b p (branch_at t.branches b) Gone apart

    fold_reached : (order : List ℕ) (s t : Row T C) → FoldsTo Step s order t → w.reaches s.cx t.cx
    fold_reached [] s t q = same_reached w s.cx t.cx (ap (λ r. r.cx) (sym q))
    fold_reached (b ∷ later) s t (m, turn, rest) = w.on s.cx m.cx t.cx (step_reached s b m turn) (fold_reached later m t rest)

    -- a turn hears all that its branch needs, and takes nothing from the others
    step_knows : (c : C) (s m : Row T C) (b p : ℕ) → w.reaches c s.cx → Step s b m → (p ≢ b → Known c s p) → Known c m p
    step_knows c s m b p reached q known x is = elim (eqb_tells p b) [
      | inl same ↦ heard_after w c s.cx m.cx x reached (turn_hears future w.number w.work w.reaches w.watcher part.needs part.covers (ReturnsFor call test b) (branch_at s.branches b) s.cx (look_at looks b) (branch_at m.branches b) m.cx q.turn x
          (subst (λ k. BranchNeeds part.needs (branch_at m.branches k) x) same.1 is))
      | inr apart ↦ heard_before w c s.cx m.cx x (known apart.1 x (subst (λ v. BranchNeeds part.needs v x) (stays s b m p q apart.1) is)) (step_reached s b m q)
    ]

    fold_keeps : (order : List ℕ) (c : C) (s t : Row T C) (p : ℕ) → w.reaches c s.cx → Known c s p → FoldsTo Step s order t → Known c t p
    fold_keeps [] c s t p reached known q = subst (λ r. Known c r p) q known
    fold_keeps (b ∷ later) c s t p reached known (m, turn, rest) = fold_keeps later c m t p (w.on c s.cx m.cx reached (step_reached s b m turn)) (step_knows c s m b p reached turn (λ apart. known)) rest

    fold_makes : (order : List ℕ) (c : C) (s t : Row T C) (p : ℕ) → w.reaches c s.cx → Has p order → FoldsTo Step s order t → Known c t p
    fold_makes [] c s t p reached has q = absurd has
    fold_makes (b ∷ later) c s t p reached has (m, turn, rest) = elim has [
      | inl same ↦ fold_keeps later c m t p (w.on c s.cx m.cx reached (step_reached s b m turn)) (step_knows c s m b p reached turn (λ apart. absurd (apart (sym same)))) rest
      | inr more ↦ fold_makes later c m t p (w.on c s.cx m.cx reached (step_reached s b m turn)) more rest
    ]

    -- the turn of a branch that waits registers the task
    step_arms : (s : Row T C) (b : ℕ) (m : Row T C) (p : ℕ) → Step s b m → p ≡ b → is_out (branch_at s.branches p) ≡ false → look_at looks p ≡ look.Waits → Armed s.cx m p
    step_arms s b m p turn same live is =
        subst (Armed s.cx m) (sym same)
        (turn_arms future w.number w.work w.reaches w.watcher part.needs part.covers (ReturnsFor call test b) (branch_at s.branches b) s.cx (branch_at m.branches b) m.cx (subst (λ k. is_out (branch_at s.branches k) ≡ false) same live)
        (subst (λ l. TurnBy future (ReturnsFor call test b) (branch_at s.branches b) s.cx l (branch_at m.branches b) m.cx) (ap (look_at looks) (sym same) ∙ is) turn.turn))

    -- the turns of the others change nothing of that
    others_arm : (c : C) (s : Row T C) (b : ℕ) (m : Row T C) (p : ℕ) → Step s b m → p ≢ b → Armed c s p → Armed c m p
    others_arm c s b m p turn apart (live, one) = (
      ap is_out (stays s b m p turn apart) ∙ live,
      one_before w c s.cx m.cx (BranchNeeds part.needs (branch_at s.branches p)) (BranchNeeds part.needs (branch_at m.branches p)) (λ x is. subst (λ v. BranchNeeds part.needs v x) (sym (stays s b m p turn apart)) is) one (step_reached s b m turn),
    )

    arms_before : (c m : C) (t : Row T C) (p : ℕ) → w.reaches c m → Armed m t p → Armed c t p
    arms_before c m t p first (live, one) = (live, one_after w c m t.cx (BranchNeeds part.needs (branch_at t.branches p)) (BranchNeeds part.needs (branch_at t.branches p)) (λ x is. is) first one)

    stays_armed : (order : List ℕ) (c : C) (s t : Row T C) (p : ℕ) → w.reaches c s.cx → look_at looks p ≡ look.Waits → Armed c s p → FoldsTo Step s order t → Armed c t p
    stays_armed [] c s t p reached is armed q = subst (λ r. Armed c r p) q armed
    stays_armed (b ∷ later) c s t p reached is armed (m, turn, rest) = stays_armed later c m t p (w.on c s.cx m.cx reached (step_reached s b m turn)) is (elim (eqb_tells p b) [
      | inl same ↦ arms_before c s.cx m p reached (step_arms s b m p turn same.1 armed.0 is)
      | inr apart ↦ others_arm c s b m p turn apart.1 armed
    ]) rest

    fold_arms : (order : List ℕ) (s t : Row T C) (p : ℕ) → Has p order → is_out (branch_at s.branches p) ≡ false → look_at looks p ≡ look.Waits → FoldsTo Step s order t → Armed s.cx t p
    fold_arms [] s t p has live is q = absurd has
    fold_arms (b ∷ later) s t p has live is (m, turn, rest) = elim (eqb_tells p b) [
      | inl same ↦ stays_armed later s.cx m t p (step_reached s b m turn) is (step_arms s b m p turn same.1 live is) rest
      | inr apart ↦ elim has [
        | inl same ↦ absurd (apart.1 (sym same))
        | inr more ↦ arms_before s.cx m.cx t p (step_reached s b m turn) (fold_arms later m t p more (ap is_out (stays s b m p turn apart.1) ∙ live) is rest)
      ]
    ]

    -- no branch stands past the end
    past_knows : (s : Row T C) (p : ℕ) → length s.branches ≤ p → Known s.cx s p
    past_knows s p past x is = absurd (subst (λ v. BranchNeeds part.needs v x) (get_or_past s.branches p Gone past) is)

    all_known : (start n : ℕ) (s t : Row T C) → n ≡ length s.branches → FoldsTo Step s (order_from start n) t → (x : Source) → RowNeeds part.needs t.branches x → HeardIn w s.cx t.cx x
    all_known start n s t each turns x needed = elim (cases_lt needed.0 n) [
      | inl inside ↦ fold_makes (order_from start n) s.cx s t needed.0 (w.itself s.cx) (has_place start n needed.0 inside) turns x needed.1
      | inr past ↦ fold_keeps (order_from start n) s.cx s t needed.0 (w.itself s.cx) (past_knows s needed.0 (subst (λ k. k ≤ needed.0) each past)) turns x needed.1
    ]

    row_covers : (start : ℕ) (s t : Row T C) → length looks ≡ length s.branches → FoldsTo Step s (select_turns (are_out s.branches) start looks) t → Pending ≡ select_rule (are_out s.branches) start looks → CoversIn w s.cx t.cx (RowNeeds part.needs t.branches)
    row_covers start s t each turns picks =
        let counts : List (Look O) = counted (are_out s.branches) looks in
        let rule : (filter_map (passed counts) (order_from start (length looks)) ≡ []) × (list_any waits counts ≡ true) = first_waits (filter_map (passed counts) (order_from start (length looks))) (list_any waits counts) picks in
        let all : FoldsTo Step s (order_from start (length looks)) t = subst (λ order. FoldsTo Step s order t) (all_turn counts (order_from start (length looks)) rule.0) turns in
        let one : WaitsAt (are_out s.branches) looks = waits_at (are_out s.branches) looks rule.1 in
        let armed : Armed s.cx t one.0 = fold_arms (order_from start (length looks)) s t one.0 (has_place start (length looks) one.0 one.1) (sym (out_at s.branches one.0) ∙ one.2) one.3 all in
        record {
          one = one_before w s.cx t.cx t.cx (BranchNeeds part.needs (branch_at t.branches one.0)) (RowNeeds part.needs t.branches) (λ x is. (one.0, is)) armed.1 (w.itself t.cx);
          each = all_known start (length looks) s t each all;
        }

  module _ {G : Type 0} (call : Shared G (ℕ × (Bor O × Unit {0})) Bool) (test : G) where
    ends_reached : (picked : Poll (Option (ℕ × O))) (t : Row T C) (r : Poll (out.Out O)) (left : List (Branch T)) (b : Bool) (d : C) → RowEnds future picked t r left b d → w.reaches t.cx d
    ends_reached Pending t r left b d q = same_reached w t.cx d q.3
    ends_reached (Ready pick) t r left b d q = each_left t.branches t.cx left d q.1

    pub select_list_reached : (start : Start) (bs : List (Branch T)) (c : C) (r : Poll (out.Out O)) (after : List (Branch T)) (b : Bool) (d : C) → SelectListPolls future call test start bs c r after b d → w.reaches c d
    select_list_reached start bs c r after b d q =
        w.on c q.left.cx d (fold_reached call test q.selects.looks (select_turns (are_out bs) (start_of start (length bs)) q.selects.looks) (record { branches = bs; cx = c }) q.left q.selects.turns) (ends_reached q.picked q.left r after b d q.ends)

    ends_cover : (n : ℕ) (bs : List (Branch T)) (c : C) (picked : Poll (Option (ℕ × O))) (t : Row T C) (looks : List (Look O)) (after : List (Branch T)) (b : Bool) (d : C) → length looks ≡ length bs
        → FoldsTo (TurnAt future call test looks) (record { branches = bs; cx = c }) (select_turns (are_out bs) n looks) t → picked ≡ select_rule (are_out bs) n looks → RowEnds future picked t Pending after b d → CoversIn w c d (RowNeeds part.needs after)
    ends_cover n bs c (Ready pick) t looks after b d each turns picks ends = absurd (no_answer (out_of pick) ends.0)
    ends_cover n bs c Pending t looks after b d each turns picks ends =
        subst (λ v. CoversIn w c d (RowNeeds part.needs v)) (sym ends.1) (subst (λ e. CoversIn w c e (RowNeeds part.needs t.branches)) (sym ends.3) (row_covers call test looks n (record { branches = bs; cx = c }) t each turns picks))

    pub select_lists_cover : (start : Start) (bs : List (Branch T)) (c : C) (after : List (Branch T)) (b : Bool) (d : C) → SelectListPolls future call test start bs c Pending after b d → CoversIn w c d (RowNeeds part.needs after)
    select_lists_cover start bs c after b d q = ends_cover (start_of start (length bs)) bs c q.picked q.left q.selects.looks after b d q.selects.each q.selects.turns q.selects.picks q.ends

-- The bits of the slots follow their lists.
use Rattle.std.proofs.Common.{arith, ◌≡◌, ◌≢◌, ℕ, ◌+◌, ◌-◌, ◌*◌, ◌/◌, ◌%◌, ◌^◌, ◌<◌, ◌≤◌, ◌↔◌, inl, inr, length, List, [], ◌∷◌, Some, None, get_or, set, bit_or, bit_and, w64, ap, refl, sym, ◌∙◌, subst, get_or-set_same, get_or-set_other, length-set}
use Rattle.std.specs.Int.{bit_at, bit_not, rotate_right, trailing_zeros}
use Rattle.std.proofs.Math.Nat.{mod-lt}
use Rattle.std.proofs.lemmas.Bool.{cases_lt}
use Rattle.std.proofs.lemmas.Bool.Decides.{eqb_tells}
use Rattle.std.proofs.lemmas.Nat.Bits.{bit_at-zero, bit_at-trailing_zeros, bit_at_set_same, bit_at_set_other, bit_at_clear_same, bit_at_clear_other}
use Rattle.std.specs.Prelude.{replicate}
use Rattle.mono_wheel.specs.Start.{slot_of, level_count, slot_count, list_count}
use Rattle.mono_wheel.specs.Lists.{Lists, IsIn, with_list, list_at}
use Rattle.mono_wheel.specs.Holdings.{ranked, IsFirstOccupied}
use Rattle.mono_wheel.specs.Bits.{occupied_bit, KeepsOthers, IsFirstAfter, Marks}
use Rattle.mono_wheel.proofs.HoldingLemmas.{list-same, list-other, empty_at}
use Rattle.mono_wheel.proofs.RankLemmas.{ranked-parts}
use Rattle.mono_wheel.proofs.RotationLemmas.{turned}

-- ---- one bit
module _ (levels : List ℕ) (list word : ℕ) (within : list / 64 < length levels) where
  bit-here : occupied_bit (set levels (list / 64) word) list ≡ bit_at word (list % 64)
  bit-here = ap (λ z. bit_at z (list % 64)) (get_or-set_same levels (list / 64) word 0 within)

  -- a word with its other bits kept keeps those of all other slots
  bit-other : ((i : ℕ) → i < 64 → i ≢ list % 64 → bit_at word i ≡ bit_at (get_or levels (list / 64) 0) i) → KeepsOthers levels (set levels (list / 64) word) list
  bit-other kept other low ne = elim (eqb_tells (other / 64) (list / 64)) [
    | inl e ↦
        ap (λ z. bit_at (get_or (set levels (list / 64) word) z 0) (other % 64)) e.1
        ∙ ap (λ z. bit_at z (other % 64)) (get_or-set_same levels (list / 64) word 0 within)
        ∙ kept (other % 64) (omega arith) (λ f. ne (let g = e.1 in omega (arith, f, g)))
        ∙ ap (λ z. bit_at (get_or levels z 0) (other % 64)) (sym e.1)
    | inr e ↦ ap (λ z. bit_at z (other % 64)) (get_or-set_other levels (list / 64) (other / 64) word 0 e.1)
  ]

module _ (levels : List ℕ) (list : ℕ) (few : length levels ≡ level_count) (low : list < slot_count) where
  within : list / 64 < length levels
  within = omega (arith, few, low)

  pub marked-here : occupied_bit (set levels (list / 64) (bit_or (get_or levels (list / 64) 0) (1 * 2 ^ (list % 64) % 2 ^ 64))) list ≡ 1
  marked-here = bit-here levels list _ within ∙ bit_at_set_same w64 (get_or levels (list / 64) 0) (list % 64) (omega arith)

  pub marked-others : KeepsOthers levels (set levels (list / 64) (bit_or (get_or levels (list / 64) 0) (1 * 2 ^ (list % 64) % 2 ^ 64))) list
  marked-others = bit-other levels list _ within (λ i b ne. bit_at_set_other w64 (get_or levels (list / 64) 0) (list % 64) (omega arith) i ne)

  pub cleared-here : occupied_bit (set levels (list / 64) (bit_and (get_or levels (list / 64) 0) (bit_not w64 (1 * 2 ^ (list % 64) % 2 ^ 64)))) list ≡ 0
  cleared-here = bit-here levels list _ within ∙ bit_at_clear_same w64 (get_or levels (list / 64) 0) (list % 64) (omega arith)

  pub cleared-others : KeepsOthers levels (set levels (list / 64) (bit_and (get_or levels (list / 64) 0) (bit_not w64 (1 * 2 ^ (list % 64) % 2 ^ 64)))) list
  cleared-others = bit-other levels list _ within (λ i b ne. bit_at_clear_other w64 (get_or levels (list / 64) 0) (list % 64) (omega arith) i b ne)

-- ---- the first bit after a slot
bit-level : (levels : List ℕ) (level slot : ℕ) → slot < 64 → occupied_bit levels (level * 64 + slot) ≡ bit_at (get_or levels level 0) slot
bit-level levels level slot b =
    ap (λ z. bit_at (get_or levels z 0) ((level * 64 + slot) % 64)) (let e : (level * 64 + slot) / 64 ≡ level = omega (arith, b) in e)
    ∙ ap (bit_at (get_or levels level 0)) (let e : (level * 64 + slot) % 64 ≡ slot = omega (arith, b) in e)

module _ (levels : List ℕ) (level slot word : ℕ) (is : word ≡ get_or levels level 0) (fits : word < 2 ^ 64) where
  -- bit `offset` of the word turned so that the slot after this one comes first
  bit-turned : (offset : ℕ) → offset < 64 → occupied_bit levels (level * 64 + (slot + 1 + offset) % 64) ≡ bit_at (rotate_right w64 word (slot + 1)) offset
  bit-turned offset b = bit-level levels level ((slot + 1 + offset) % 64) (mod-lt (slot + 1 + offset) (omega arith)) ∙ ap (λ z. bit_at z ((slot + 1 + offset) % 64)) (sym is) ∙ sym (turned word (slot + 1) offset fits b)

  pub none-after : word ≡ 0 → IsFirstAfter levels level slot None
  none-after e offset b =
      bit-level levels level ((slot + 1 + offset) % 64) (mod-lt (slot + 1 + offset) (omega arith))
      ∙ ap (λ z. bit_at z ((slot + 1 + offset) % 64)) (sym is ∙ e)
      ∙ bit_at-zero ((slot + 1 + offset) % 64)

  -- a bit of the word is one of the turned word
  pub some-after : slot < 64 → 0 < word → 0 < rotate_right w64 word (slot + 1)
  some-after low some = elim (cases_lt 0 (rotate_right w64 word (slot + 1))) [
    | inl more ↦ more
    | inr none ↦
        let first = bit_at-trailing_zeros w64 word some fits in
        let at : ℕ = trailing_zeros w64 word in
        let small : at < 64 = first.0 in
        let offset : ℕ = (at + 63 - slot) % 64 in
        let under : offset < 64 = mod-lt (at + 63 - slot) (omega arith) in
        let here : (slot + 1 + offset) % 64 ≡ at = omega (arith, low, small) in
        let zero : rotate_right w64 word (slot + 1) ≡ 0 = omega (arith, none) in
        let one : bit_at word ((slot + 1 + offset) % 64) ≡ 1 = ap (bit_at word) here ∙ first.1 in
        let gone : bit_at word ((slot + 1 + offset) % 64) ≡ 0 = sym (turned word (slot + 1) offset fits under) ∙ ap (λ z. bit_at z offset) zero ∙ bit_at-zero offset in
        absurd (omega (arith, one, gone))
  ]

  pub first-after : 0 < rotate_right w64 word (slot + 1) → rotate_right w64 word (slot + 1) < 2 ^ 64 → IsFirstAfter levels level slot (Some ((slot + 1 + trailing_zeros w64 (rotate_right w64 word (slot + 1))) % 64))
  first-after some small =
      let first = bit_at-trailing_zeros w64 (rotate_right w64 word (slot + 1)) some small in (
        trailing_zeros w64 (rotate_right w64 word (slot + 1)),
        first.0,
        refl,
        bit-turned _ first.0 ∙ first.1,
        (λ before l. bit-turned before (let b = first.0 in omega (arith, b, l)) ∙ first.2 before l),
      )

-- ---- one list changes
pub marks-with : (levels levels2 : List ℕ) (links new : Lists) (list : ℕ) (nodes : List ℕ) → Marks levels links → new ≡ with_list links list nodes → list < list_count →
    (list < slot_count → (occupied_bit levels2 list ≡ 0) ↔ (nodes ≡ [])) → KeepsOthers levels levels2 list → Marks levels2 new
marks-with levels levels2 links new list nodes m is low here others = record {
  lists = ap (λ w. length w.lists) is ∙ length-set links.lists list nodes ∙ m.lists;
  exact = λ other b. elim (eqb_tells other list) [
    | inl e ↦
        let nodes_are : list_at new other ≡ nodes = ap (list_at new) e.1 ∙ ap (λ w. list_at w list) is ∙ list-same links list nodes (let n = m.lists in omega (arith, n, low)) in
        let below : list < slot_count = let f = e.1 in omega (arith, f, b) in
        subst (λ zs. (occupied_bit levels2 other ≡ 0) ↔ (zs ≡ [])) (sym nodes_are) (subst (λ z. (occupied_bit levels2 z ≡ 0) ↔ (nodes ≡ [])) (sym e.1) (here below))
    | inr e ↦
        let nodes_are : list_at new other ≡ list_at links other = ap (λ w. list_at w other) is ∙ list-other links list other nodes e.1 in
        subst (λ zs. (occupied_bit levels2 other ≡ 0) ↔ (zs ≡ [])) (sym nodes_are) (subst (λ z. (z ≡ 0) ↔ (list_at links other ≡ [])) (sym (others other b e.1)) (m.exact other b))
  ];
}

pub others-kept : (levels : List ℕ) (list : ℕ) → KeepsOthers levels levels list
others-kept levels list other b ne = refl

no-slot : (levels : List ℕ) (list : ℕ) (nodes : List ℕ) → slot_count ≤ list → list < slot_count → (occupied_bit levels list ≡ 0) ↔ (nodes ≡ [])
no-slot levels list nodes a b = absurd (omega (arith, a, b))

some-one : (z : ℕ) (node : ℕ) (nodes : List ℕ) → z ≡ 1 → (z ≡ 0) ↔ (node ∷ nodes ≡ [])
some-one z node nodes e = ((λ f. absurd (omega (arith, e, f))), (λ f. absurd cc))

none-zero : (z : ℕ) (nodes : List ℕ) → z ≡ 0 → nodes ≡ [] → (z ≡ 0) ↔ (nodes ≡ [])
none-zero z nodes e f = ((λ g. f), (λ g. e))

in-none : (xs : List ℕ) (node : ℕ) → IsIn node xs → xs ≡ [] → ⊥
in-none xs node i e = subst (λ zs. IsIn node zs) e i

-- a list that is no slot's changes
pub marks-beyond : (levels : List ℕ) (links new : Lists) (list : ℕ) (nodes : List ℕ) → Marks levels links → new ≡ with_list links list nodes → list < list_count → slot_count ≤ list → Marks levels new
marks-beyond levels links new list nodes m is low beyond = marks-with levels levels links new list nodes m is low (no-slot levels list nodes beyond) (others-kept levels list)

-- a node comes into the list of a slot
pub marks-pushed : (levels levels2 : List ℕ) (links new : Lists) (list node : ℕ) → Marks levels links → new ≡ with_list links list (node ∷ list_at links list) → list < list_count →
    occupied_bit levels2 list ≡ 1 → KeepsOthers levels levels2 list → Marks levels2 new
marks-pushed levels levels2 links new list node m is low one others = marks-with levels levels2 links new list (node ∷ list_at links list) m is low (λ b. some-one (occupied_bit levels2 list) node (list_at links list) one) others

-- the list of a slot is now empty
pub marks-emptied : (levels levels2 : List ℕ) (links new : Lists) (list : ℕ) (nodes : List ℕ) → Marks levels links → new ≡ with_list links list nodes → list < list_count → nodes ≡ [] →
    occupied_bit levels2 list ≡ 0 → KeepsOthers levels levels2 list → Marks levels2 new
marks-emptied levels levels2 links new list nodes m is low empty none others = marks-with levels levels2 links new list nodes m is low (λ b. none-zero (occupied_bit levels2 list) nodes none empty) others

-- the list of a slot had a node, and has one still
pub marks-left : (levels : List ℕ) (links new : Lists) (list node : ℕ) (nodes : List ℕ) → Marks levels links → new ≡ with_list links list nodes → list < list_count → IsIn node (list_at links list) →
    (nodes ≡ [] → ⊥) → Marks levels new
marks-left levels links new list node nodes m is low had some = marks-with levels levels links new list nodes m is low
    (λ b. ((λ z. absurd (in-none (list_at links list) node had ((m.exact list b).0 z))), (λ e. absurd (some e))))
    (others-kept levels list)

pub marks-same : (levels : List ℕ) (links new : Lists) → Marks levels links → new.lists ≡ links.lists → Marks levels new
marks-same levels links new m e = record {
  lists = ap length e ∙ m.lists;
  exact = λ list b. subst (λ ls. (occupied_bit levels list ≡ 0) ↔ (get_or ls list [] ≡ [])) (sym e) (m.exact list b);
}

-- new lists
pub marks-new : (levels : List ℕ) (links : Lists) → ((list : ℕ) → list < slot_count → occupied_bit levels list ≡ 0) → links.lists ≡ replicate list_count [] → Marks levels links
marks-new levels links none e = record {
  lists = ap length e ∙ refl;
  exact = λ list b. none-zero (occupied_bit levels list) (list_at links list) (none list b) (ap (λ ls. get_or ls list []) e ∙ empty_at list_count list);
}

-- ---- the search
module _ (levels : List ℕ) (links : Lists) (elapsed level now : ℕ) (m : Marks levels links) (at : now ≡ slot_of level elapsed) where
  -- the list whose slot comes so far after the current one of its level
  turn-list : (offset : ℕ) → offset < 64 → level * 64 + (now + 1 + offset) % 64 ≡ ranked elapsed (level * 64 + offset)
  turn-list offset b = ap (λ z. level * 64 + (z + 1 + offset) % 64) at ∙ sym (ranked-parts elapsed level offset b)

  turn-empty : level < level_count → (offset : ℕ) → offset < 64 → occupied_bit levels (level * 64 + (now + 1 + offset) % 64) ≡ 0 → list_at links (ranked elapsed (level * 64 + offset)) ≡ []
  turn-empty few offset b zero_bit =
      let p : (now + 1 + offset) % 64 < 64 = mod-lt (now + 1 + offset) (omega arith) in
      ap (list_at links) (sym (turn-list offset b)) ∙ (m.exact (level * 64 + (now + 1 + offset) % 64) (omega (arith, few, p))).0 zero_bit

  split : (before : ℕ) → level * 64 ≤ before → before ≡ level * 64 + (before - level * 64)
  split before l = omega (arith, l)

  pub level-empty : level < level_count → ((before : ℕ) → before < level * 64 → list_at links (ranked elapsed before) ≡ []) → IsFirstAfter levels level now None →
      (before : ℕ) → before < (level + 1) * 64 → list_at links (ranked elapsed before) ≡ []
  level-empty few earlier none before l = elim (cases_lt before (level * 64)) [
    | inl b ↦ earlier before b
    | inr b ↦
        let o : before - level * 64 < 64 = omega (arith, l, b) in
        ap (λ z. list_at links (ranked elapsed z)) (split before b) ∙ turn-empty few (before - level * 64) o (none (before - level * 64) o)
  ]

  pub level-first : level < level_count → ((before : ℕ) → before < level * 64 → list_at links (ranked elapsed before) ≡ []) → (found : ℕ) → IsFirstAfter levels level now (Some found) →
      IsFirstOccupied elapsed links (Some (level * 64 + found))
  level-first few earlier found f =
      let low : level * 64 + found < slot_count = let p : found < 64 = (let e = f.2 in let q : (now + 1 + f.0) % 64 < 64 = mod-lt (now + 1 + f.0) (omega arith) in omega (arith, e, q)) in omega (arith, few, p) in (
        level * 64 + f.0,
        (let b = f.1 in omega (arith, few, b)),
        ap (λ z. level * 64 + z) f.2 ∙ turn-list f.0 f.1,
        (λ e. let one = f.3 in let none = (m.exact (level * 64 + found) low).1 e in omega (arith, one, none)),
        (λ before l. elim (cases_lt before (level * 64)) [
          | inl b ↦ earlier before b
          | inr b ↦
              let o : before - level * 64 < f.0 = omega (arith, l, b) in
              let p : before - level * 64 < 64 = let q = f.1 in omega (arith, o, q) in
              ap (λ z. list_at links (ranked elapsed z)) (split before b) ∙ turn-empty few (before - level * 64) p (f.4 (before - level * 64) o)
        ]),
      )

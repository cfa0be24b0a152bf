-- A node that was taken out of its list is in no list.
use Rattle.std.proofs.Common.{arith, ◌≡◌, ℕ, ◌<◌, inl, inr, length, List, [], map, None, sym, ◌∙◌, subst, get_or-set_same, get_or-set_other}
use Rattle.std.proofs.lemmas.Bool.{cases_lt}
use Rattle.std.proofs.lemmas.Bool.Decides.{eqb_tells}
use Rattle.std.proofs.lemmas.List.{get_or_past, length-map}
use Rattle.std.proofs.Math.ListN.{get_or-map}
use Rattle.mono_wheel.specs.Lists.{Lists, IsIn, IsLoose, with_list, without, list_at}
use Rattle.mono_wheel.specs.Rings.{Slots, ring_of, seen, at, is_inner, Stand}
use Rattle.mono_wheel.proofs.ChainLemmas.{without-gone}
use Rattle.mono_wheel.proofs.CallLemmas.{seen-below}

in_bounds : (lists : List (List ℕ)) (m node : ℕ) → IsIn node (at lists m) → m < length lists
in_bounds lists m node i = elim (cases_lt m (length lists)) [
  | inl b ↦ b
  | inr b ↦ absurd (subst (λ zs. IsIn node zs) (get_or_past lists m [] b) i)
]

loose_at : (slots : Slots) (heads : List ℕ) (room l node : ℕ) → Stand slots heads (map (ring_of slots) heads) → l < length heads →
    IsIn node (at (map (ring_of slots) heads) l) → IsLoose (with_list (seen slots heads room) l (without node (at (map (ring_of slots) heads) l))) node
loose_at slots heads room l node s low within = record {
  known = get_or-map is_inner slots node None ∙ s.inner l node low within;
  in_none = λ m i. elim (eqb_tells m l) [
    | inl e ↦ without-gone node (at (map (ring_of slots) heads) l) (s.distinct l low)
        (subst (λ zs. IsIn node zs) (get_or-set_same (map (ring_of slots) heads) l (without node (at (map (ring_of slots) heads) l)) [] (let h = length-map heads (ring_of slots) in omega (arith, h, low)))
        (subst (λ z. IsIn node (list_at (with_list (seen slots heads room) l (without node (at (map (ring_of slots) heads) l))) z)) e.1 i))
    | inr e ↦
        let old : IsIn node (at (map (ring_of slots) heads) m) = subst (λ zs. IsIn node zs) (get_or-set_other (map (ring_of slots) heads) l m (without node (at (map (ring_of slots) heads) l)) [] e.1) i in
        let b = in_bounds (map (ring_of slots) heads) m node old in
        e.1 (s.apart m l node (let h = length-map heads (ring_of slots) in omega (arith, h, b)) low old within)
  ];
}

pub removed-loose : (slots : Slots) (heads : List ℕ) (room : ℕ) (v new : Lists) (l node : ℕ) → seen slots heads room ≡ v → Stand slots heads (map (ring_of slots) heads) → l < length v.lists →
    IsIn node (list_at v l) → new ≡ with_list v l (without node (list_at v l)) → IsLoose new node
removed-loose slots heads room v new l node e s low within is =
    subst (λ w. IsLoose w node) (sym is)
    (subst (λ w. IsLoose (with_list w l (without node (list_at w l))) node) e
    (loose_at slots heads room l node s (seen-below slots heads room v l e low) (subst (λ w. IsIn node (list_at w l)) (sym e) within)))

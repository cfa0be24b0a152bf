-- The only node of a list, and the list without it.
use Rattle.std.proofs.Common.{◌≡◌, ◌≢◌, ℕ, ◌<◌, length, inl, [], ◌∷◌, ◌++◌, List, map, true, ap, refl, sym, ◌∙◌, subst}
use Rattle.mono_wheel.specs.Lists.{Lists, IsIn, list_at, with_list, without}
use Rattle.mono_wheel.specs.Rings.{Slots, Chain, ring_of, seen, at, head_at, next_in, prev_in, is_inner_at, Stand, Joined}
use Rattle.mono_wheel.proofs.ChainLemmas.{without-parts}
use Rattle.mono_wheel.proofs.CallLemmas.{After, after-remove, seen-below, seen-first, seen-last, seen-known}
use Rattle.mono_wheel.proofs.ExchangeLemmas.{seen-once, seen-in}
use Rattle.mono_wheel.proofs.HoldingLemmas.{list-same}
use Rattle.mono_wheel.proofs.SkipLemmas.{one-alone}

-- Without its only node a list is empty.
pub only-without : (links : Lists) (list node : ℕ) → list_at links list ≡ node ∷ [] → without node (list_at links list) ≡ []
only-without links list node alone = ap (without node) alone ∙ without-parts [] node [] ((λ i. i), tt)

pub only-gone : (links : Lists) (list node : ℕ) → list < length links.lists → IsIn node (list_at (with_list links list []) list) → ⊥
only-gone links list node low i = subst (λ zs. IsIn node zs) (list-same links list [] low) i

module _ (slots : Slots) (heads : List ℕ) (v : Lists) (room l head : ℕ) (e : seen slots heads room ≡ v) (s : Stand slots heads (map (ring_of slots) heads)) (below : l < length v.lists)
    (here : head ≡ head_at heads l) where
  -- Both neighbours of the end are one node.
  pub only-node : (first last : ℕ) → first ≡ next_in slots (head_at heads l) → last ≡ prev_in slots (head_at heads l) → first ≡ last → first ≢ head → list_at v l ≡ first ∷ []
  only-node first last f g same some =
      let forth = (seen-first slots heads room v l head first e s below here f).1 some in
      let back = (seen-last slots heads room v l head last e s below here g).1 (λ h. some (same ∙ h)) in
      one-alone first (list_at v l) forth.0 back.0 (seen-once slots heads room v e s l) forth.1 (back.1 ∙ ap (λ z. back.0 ++ z ∷ []) (sym same))

  module _ (node : ℕ) (alone : list_at v l ≡ node ∷ []) where
    inside : IsIn node (list_at v l)
    inside = subst (λ zs. IsIn node zs) (sym alone) (inl refl)

    pub only-inner : is_inner_at slots node ≡ true
    only-inner = seen-known slots heads room v node e (seen-in slots heads room v e s l node inside)

    -- The end joined with itself leaves the list empty.
    pub after-only : (room2 : ℕ) (s2 : Slots) → room2 ≡ room → Joined slots s2 head head → After slots s2 heads v room room2 l []
    after-only room2 s2 r joined =
        let ring : at (map (ring_of slots) heads) l ≡ node ∷ [] = subst (λ w. list_at w l ≡ node ∷ []) (sym e) alone in
        let chain : Chain (next_in slots) (prev_in slots) (head_at heads l) (node ∷ []) (head_at heads l) =
        subst (λ zs. Chain (next_in slots) (prev_in slots) (head_at heads l) zs (head_at heads l)) ring (s.rings l (seen-below slots heads room v l e below)) in
        let before : head ≡ prev_in slots node = here ∙ sym chain.0.back in
        let behind : head ≡ next_in slots node = here ∙ sym chain.1.forth in
        let moved : Joined slots s2 (prev_in slots node) (next_in slots node) = subst (λ z. Joined slots s2 z (next_in slots node)) before (subst (λ z. Joined slots s2 head z) behind joined) in
        subst (λ zs. After slots s2 heads v room room2 l zs) (only-without v l node alone) (after-remove slots heads v room room2 l node e r s below s2 inside moved)

-- The duty of each call on the lists: the nodes that it joins exist. Then the view after the call.
use Rattle.std.proofs.Common.{rules, arith, ◌≡◌, ◌≢◌, ℕ, ◌-◌, ◌<◌, ◌⊎◌, inl, inr, length, Bool, true, List, [], ◌∷◌, ◌++◌, map, Option, Some, None, IsSome, get_or, set, ap, refl, sym, ◌∙◌, subst}
use Rattle.std.proofs.lemmas.List.{length-map}
use Rattle.std.proofs.lemmas.Grind.{get_or_default_zero}
use Rattle.std.proofs.Math.ListN.{get_or-map}
use Rattle.std.proofs.lemmas.Bool.Decides.{eqb_tells}
use Rattle.mono_wheel.specs.Lists.{Lists, IsIn, IsLoose, with_list, without, list_at, is_node}
use Rattle.mono_wheel.specs.Rings.{Slots, Chain, ring_of, seen, at, head_at, next_in, prev_in, is_inner, is_outer, is_inner_at, is_outer_at, Stand, SameKinds, Joined}
use Rattle.mono_wheel.specs.declared.nodes.Node.{Node}
use Rattle.mono_wheel.specs.declared.entry.Entry.{Entry}
use Rattle.mono_wheel.proofs.SlotLemmas.{same_at}
use Rattle.mono_wheel.proofs.ChainLemmas.{chain-first, chain-last, chain-first_in, chain-last_in, chain-prev_in, chain-next_in, is_in-middle, is_in-front, is_in-back}
use Rattle.mono_wheel.proofs.RingLemmas.{head_in_none, stand-lists, stand-pushed_front, stand-pushed_back, stand-removed, false-true}

-- a node of a list, or an end
abbrev pub IsKept : Slots → ℕ → Type 0
IsKept slots k = (is_inner_at slots k ≡ true) ⊎ (is_outer_at slots k ≡ true)

kept_some : (o : Option Node) → ((is_inner o ≡ true) ⊎ (is_outer o ≡ true)) → IsSome o
kept_some None (inl h) = absurd (false-true h)
kept_some None (inr h) = absurd (false-true h)
kept_some (Some x) h = search rules

pub kept-some : (slots : Slots) (k : ℕ) → IsKept slots k → IsSome (get_or slots k None)
kept-some slots k h = kept_some (get_or slots k None) h

pub kept-same : (slots s2 : Slots) (k : ℕ) → SameKinds slots s2 → IsKept slots k → IsKept s2 k
kept-same slots s2 k e (inl h) = inl (same_at is_inner slots s2 None k e.inner ∙ h)
kept-same slots s2 k e (inr h) = inr (same_at is_outer slots s2 None k e.outer ∙ h)

-- in a list the places of a node
pub split : (node : ℕ) (xs : List ℕ) → IsIn node xs → (front : List ℕ) × (back : List ℕ) × (xs ≡ front ++ node ∷ back) × (without node xs ≡ front ++ back)
split node [] h = absurd h
split node (x ∷ xs) h = elim (eqb_tells node x) [
  | inl e ↦ ([], xs, ap (λ z. z ∷ xs) (sym e.1), rw (e.0) refl)
  | inr e ↦ elim h [
    | inl f ↦ absurd (e.1 f)
    | inr i ↦ let found = split node xs i in (x ∷ found.0, found.1, ap (λ zs. x ∷ zs) found.2, rw (e.0) (ap (λ zs. x ∷ zs) found.3))
  ]
]

module _ (slots : Slots) (heads : List ℕ) (lists : List (List ℕ)) (l : ℕ) (s : Stand slots heads lists) (below : l < length heads) where
  ring_kept : (k : ℕ) → ((k ≡ head_at heads l) ⊎ IsIn k (at lists l)) → IsKept slots k
  ring_kept k (inl e) = inr (subst (λ z. is_outer_at slots z ≡ true) (sym e) (s.outer l below))
  ring_kept k (inr h) = inl (s.inner l k below h)

  pub head_kept : IsKept slots (head_at heads l)
  head_kept = inr (s.outer l below)

  pub first_kept : IsKept slots (next_in slots (head_at heads l))
  first_kept = ring_kept _ (chain-first_in (next_in slots) (prev_in slots) _ (at lists l) _ (s.rings l below))

  pub last_kept : IsKept slots (prev_in slots (head_at heads l))
  last_kept = ring_kept _ (chain-last_in (next_in slots) (prev_in slots) _ (at lists l) _ (s.rings l below))

  pub next_kept : (node : ℕ) → IsIn node (at lists l) → IsKept slots (next_in slots node)
  next_kept node h =
      let found = split node (at lists l) h in
      ring_kept _ (elim (chain-next_in (next_in slots) (prev_in slots) _ found.0 node found.1 _ (subst (λ zs. Chain (next_in slots) (prev_in slots) (head_at heads l) zs (head_at heads l)) found.2 (s.rings l below))) [
        | inl e ↦ inl e
        | inr i ↦ inr (subst (λ zs. IsIn (next_in slots node) zs) (sym found.2) (is_in-back _ found.0 (node ∷ found.1) (inr i)))
      ])

  pub prev_kept : (node : ℕ) → IsIn node (at lists l) → IsKept slots (prev_in slots node)
  prev_kept node h =
      let found = split node (at lists l) h in
      ring_kept _ (elim (chain-prev_in (next_in slots) (prev_in slots) _ found.0 node found.1 _ (subst (λ zs. Chain (next_in slots) (prev_in slots) (head_at heads l) zs (head_at heads l)) found.2 (s.rings l below))) [
        | inl e ↦ inl e
        | inr i ↦ inr (subst (λ zs. IsIn (prev_in slots node) zs) (sym found.2) (is_in-front _ found.0 (node ∷ found.1) i))
      ])

-- The facts about the slots that follow from the view.
pub seen-below : (slots : Slots) (heads : List ℕ) (room : ℕ) (v : Lists) (l : ℕ) → seen slots heads room ≡ v → l < length v.lists → l < length heads
seen-below slots heads room v l e b = let h : l < length (map (ring_of slots) heads) = subst (λ w. l < length w.lists) (sym e) b in omega (arith, h, length-map heads (ring_of slots))

pub seen-known : (slots : Slots) (heads : List ℕ) (room : ℕ) (v : Lists) (node : ℕ) → seen slots heads room ≡ v → is_node v node ≡ true → is_inner_at slots node ≡ true
seen-known slots heads room v node e h = sym (get_or-map is_inner slots node None) ∙ subst (λ w. is_node w node ≡ true) (sym e) h

pub seen-loose : (slots : Slots) (heads : List ℕ) (room : ℕ) (v : Lists) (node : ℕ) → seen slots heads room ≡ v → IsLoose v node → (m : ℕ) → IsIn node (at (map (ring_of slots) heads) m) → ⊥
seen-loose slots heads room v node e h = (subst (λ w. IsLoose w node) (sym e) h).in_none

pub same_record : (a b : List (List ℕ)) (c d : List Bool) (p q : List Entry) (m n : ℕ) → a ≡ b → c ≡ d → p ≡ q → m ≡ n → (let x : Lists = record { lists = a; nodes = c; entries = p; room = m } in let y : Lists = record { lists = b; nodes = d; entries = q; room = n } in x ≡ y)
same_record a b c d p q m n e f h g = λ i. record { lists = e i; nodes = f i; entries = h i; room = g i }

-- After a change of one list, the walks give that list, and the view has it.
pub cascaded-stand : (s2 : Slots) (heads : List ℕ) (lists : List (List ℕ)) → Stand s2 heads lists → Stand s2 heads (map (ring_of s2) heads)
cascaded-stand s2 heads lists s = subst (Stand s2 heads) (sym (stand-lists s2 heads lists s)) s

abbrev pub After : Slots → Slots → List ℕ → Lists → ℕ → ℕ → ℕ → List ℕ → Type 0
After slots s2 heads v room room2 l xs = Stand s2 heads (map (ring_of s2) heads) × (seen s2 heads room2 ≡ with_list v l xs)

after : (slots s2 : Slots) (heads : List ℕ) (v : Lists) (room room2 l : ℕ) (xs : List ℕ) → seen slots heads room ≡ v → room2 ≡ room → SameKinds slots s2 → Stand s2 heads (set (map (ring_of slots) heads) l xs) → After slots s2 heads v room room2 l xs
after slots s2 heads v room room2 l xs e r kinds s = (
  cascaded-stand s2 heads _ s,
  subst (λ w. seen s2 heads room2 ≡ with_list w l xs) e (same_record _ _ _ _ _ _ _ _ (stand-lists s2 heads _ s) kinds.inner kinds.entries r),
)

both_kinds : (a b c : Slots) → SameKinds a b → SameKinds b c → SameKinds a c
both_kinds a b c f g = record { inner = g.inner ∙ f.inner; outer = g.outer ∙ f.outer; entries = g.entries ∙ f.entries }

module _ (slots : Slots) (heads : List ℕ) (v : Lists) (room room2 l node : ℕ) (e : seen slots heads room ≡ v) (r : room2 ≡ room) (s : Stand slots heads (map (ring_of slots) heads)) (below : l < length v.lists) where
  pub after-push_front : (s1 s2 : Slots) → IsLoose v node →
      Joined slots s1 (head_at heads l) node → Joined s1 s2 node (next_in slots (head_at heads l)) →
      After slots s2 heads v room room2 l (node ∷ list_at v l)
  after-push_front s1 s2 loose f g =
      after slots s2 heads v room room2 l _ e r (both_kinds _ _ _ f.kinds g.kinds)
      (subst (λ w. Stand s2 heads (set (map (ring_of slots) heads) l (node ∷ list_at w l))) e
      (stand-pushed_front slots heads (map (ring_of slots) heads) l node s (seen-below slots heads room v l e below) s1 s2 (seen-known slots heads room v node e loose.known) (seen-loose slots heads room v node e loose) f g))

  pub after-push_back : (s1 s2 : Slots) → IsLoose v node →
      Joined slots s1 (prev_in slots (head_at heads l)) node → Joined s1 s2 node (head_at heads l) →
      After slots s2 heads v room room2 l (list_at v l ++ node ∷ [])
  after-push_back s1 s2 loose f g =
      after slots s2 heads v room room2 l _ e r (both_kinds _ _ _ f.kinds g.kinds)
      (subst (λ w. Stand s2 heads (set (map (ring_of slots) heads) l (list_at w l ++ node ∷ []))) e
      (stand-pushed_back slots heads (map (ring_of slots) heads) l node s (seen-below slots heads room v l e below) s1 s2 (seen-known slots heads room v node e loose.known) (seen-loose slots heads room v node e loose) f g))

  pub after-remove : (s2 : Slots) → IsIn node (list_at v l) →
      Joined slots s2 (prev_in slots node) (next_in slots node) →
      After slots s2 heads v room room2 l (without node (list_at v l))
  after-remove s2 within f =
      let found = split node (at (map (ring_of slots) heads) l) (subst (λ w. IsIn node (list_at w l)) (sym e) within) in
      after slots s2 heads v room room2 l _ e r f.kinds
      (subst (λ w. Stand s2 heads (set (map (ring_of slots) heads) l (without node (list_at w l)))) e
      (subst (λ zs. Stand s2 heads (set (map (ring_of slots) heads) l zs)) (sym found.3)
      (stand-removed slots heads (map (ring_of slots) heads) l node s (seen-below slots heads room v l e below) s2 found.0 found.1 found.2 f)))

pub room-same : (a b m n : ℕ) → a ≡ b → m ≡ n → a - m ≡ b - n
room-same a b m n e f = ap (λ z. z - m) e ∙ ap (λ z. b - z) f

pub head-read : (heads : List ℕ) (l x : ℕ) → l < length heads → x ≡ get_or heads l x → x ≡ head_at heads l
head-read heads l x b e = e ∙ get_or_default_zero heads l x b

pub kept-equal : (slots : Slots) (j k : ℕ) → j ≡ k → IsKept slots k → IsKept slots j
kept-equal slots j k e h = subst (IsKept slots) (sym e) h

pub seen-first : (slots : Slots) (heads : List ℕ) (room : ℕ) (v : Lists) (l head first : ℕ) → seen slots heads room ≡ v → Stand slots heads (map (ring_of slots) heads) → l < length v.lists →
    head ≡ head_at heads l → first ≡ next_in slots (head_at heads l) →
    (first ≡ head → list_at v l ≡ []) × (first ≢ head → (rest : List ℕ) × (list_at v l ≡ first ∷ rest))
seen-first slots heads room v l head first e s below h f =
    let b = seen-below slots heads room v l e below in
    subst (λ w. (first ≡ head → list_at w l ≡ []) × (first ≢ head → (rest : List ℕ) × (list_at w l ≡ first ∷ rest))) e
    (elim (chain-first (next_in slots) (prev_in slots) (head_at heads l) _ (head_in_none slots heads _ l l s b b) (s.rings l b)) [
      | inl t ↦ ((λ _. t.1), (λ ne. absurd (ne (f ∙ t.0 ∙ sym h))))
      | inr t ↦ ((λ g. absurd (t.0 (sym f ∙ g ∙ h))), (λ _. (t.1, t.2 ∙ ap (λ z. z ∷ t.1) (sym f))))
    ])

pub seen-last : (slots : Slots) (heads : List ℕ) (room : ℕ) (v : Lists) (l head last : ℕ) → seen slots heads room ≡ v → Stand slots heads (map (ring_of slots) heads) → l < length v.lists →
    head ≡ head_at heads l → last ≡ prev_in slots (head_at heads l) →
    (last ≡ head → list_at v l ≡ []) × (last ≢ head → (front : List ℕ) × (list_at v l ≡ front ++ last ∷ []))
seen-last slots heads room v l head last e s below h f =
    let b = seen-below slots heads room v l e below in
    subst (λ w. (last ≡ head → list_at w l ≡ []) × (last ≢ head → (front : List ℕ) × (list_at w l ≡ front ++ last ∷ []))) e
    (elim (chain-last (next_in slots) (prev_in slots) (head_at heads l) _ (head_in_none slots heads _ l l s b b) (s.rings l b)) [
      | inl t ↦ ((λ _. t.1), (λ ne. absurd (ne (f ∙ t.0 ∙ sym h))))
      | inr t ↦ ((λ g. absurd (t.0 (sym f ∙ g ∙ h))), (λ _. (t.1, t.2 ∙ ap (λ z. t.1 ++ z ∷ []) (sym f))))
    ])

pub last-in : (xs : List ℕ) (node : ℕ) → ((front : List ℕ) × (xs ≡ front ++ node ∷ [])) → IsIn node xs
last-in xs node h = subst (λ zs. IsIn node zs) (sym h.1) (is_in-middle h.0 node [])

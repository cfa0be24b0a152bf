-- The lists that the linked nodes represent: the lists that are walked, and the lists after each call.
use Rattle.std.proofs.Common.{arith, ◌≡◌, ◌≢◌, zero, suc, ℕ, ◌<◌, ◌≤◌, inl, inr, length, Bool, true, false, not, ◌||◌, List, [], ◌∷◌, ◌++◌, map, Option, Some, None, get_or, set, ap, refl, sym, ◌∙◌, subst, get_or-set_same, get_or-set_other, length-set}
use Rattle.std.proofs.lemmas.List.{get_or-map, length-map}
use Rattle.std.proofs.lemmas.Bool.Decides.{eqb_tells}
use Rattle.std.proofs.lemmas.Map.Steps.{length-le_from_distinct_below}
use Rattle.std.proofs.Math.Dec.{eqb}
use Rattle.std.specs.List.{IsDistinct, AllByRecursion, list_any}
use Rattle.mono_wheel.specs.Lists.{IsIn}
use Rattle.mono_wheel.specs.Rings.{Slots, Chain, Distinct, ring_of, at, head_at, next_in, prev_in, is_inner, is_outer, is_inner_at, is_outer_at, Stand, SameKinds, Joined}
use Rattle.mono_wheel.specs.declared.nodes.Node.{Node}
use Rattle.mono_wheel.proofs.SlotLemmas.{same_at}
use Rattle.mono_wheel.proofs.ChainLemmas.{chain-frame, chain-pushed_front, chain-pushed_back, chain-removed, chain-first_in, chain-last_in, chain-prev_in, chain-next_in, walk-chain, is_in_equal, is_in-front, is_in-back, is_in-pushed, is_in-skipped, distinct-pushed, distinct-skipped}

abbrev IfTrue : Bool → Type 0
IfTrue true = ⊥
IfTrue false = Unit {0}

pub false-true : false ≡ true → ⊥
false-true h = subst IfTrue h tt

is_in-tells : (k : ℕ) (xs : List ℕ) → list_any (eqb k) xs ≡ true → IsIn k xs
is_in-tells k [] h = absurd (false-true h)
is_in-tells k (x ∷ xs) h = elim (eqb_tells k x) [
  | inl e ↦ inl e.1
  | inr e ↦ inr (is_in-tells k xs (ap (λ b. b || list_any (eqb k) xs) (sym e.0) ∙ h))
]

all_apart : (x : ℕ) (xs : List ℕ) → (IsIn x xs → ⊥) → AllByRecursion (λ y. eqb x y ≡ false) xs
all_apart x [] f = tt
all_apart x (y ∷ ys) f = (elim (eqb_tells x y) [ inl e ↦ absurd (f (inl e.1)) | inr e ↦ e.0 ], all_apart x ys (λ h. f (inr h)))

is_distinct : (xs : List ℕ) → Distinct xs → IsDistinct eqb xs
unfolding IsDistinct
is_distinct [] d = tt
is_distinct (x ∷ xs) d = (all_apart x xs d.0, is_distinct xs d.1)

pub length-distinct : (xs : List ℕ) (n : ℕ) → Distinct xs → ((k : ℕ) → IsIn k xs → k < n) → length xs ≤ n
length-distinct xs n d below = length-le_from_distinct_below xs n (is_distinct xs d) (λ q h. below q (is_in-tells q xs h))

pub same_elements : {X : Type 0} (xs ys : List X) (d : X) → length xs ≡ length ys → ((i : ℕ) → i < length xs → get_or xs i d ≡ get_or ys i d) → xs ≡ ys
same_elements [] [] d l e = refl
same_elements [] (y ∷ ys) d l e = absurd (omega (arith, l))
same_elements (x ∷ xs) [] d l e = absurd (omega (arith, l))
same_elements (x ∷ xs) (y ∷ ys) d l e =
    let tails : xs ≡ ys = same_elements xs ys d (omega (arith, l)) (λ i b. e (suc i) (omega (arith, b))) in
    let heads : x ≡ y = e zero (omega arith) in
    ap (λ z. z ∷ xs) heads ∙ ap (λ zs. y ∷ zs) tails

inner_below : (slots : Slots) (k : ℕ) → is_inner_at slots k ≡ true → k < length slots
inner_below [] k h = absurd (false-true h)
inner_below (s ∷ ss) zero h = omega arith
inner_below (s ∷ ss) (suc k) h = let b : k < length ss = inner_below ss k h in omega (arith, b)

not_both : (o : Option Node) → is_inner o ≡ true → is_outer o ≡ true → ⊥
not_both None h g = false-true h
not_both (Some node) h g = false-true (ap not (sym g) ∙ h)

pub inner_not_outer : (slots : Slots) (k : ℕ) → is_inner_at slots k ≡ true → is_outer_at slots k ≡ true → ⊥
inner_not_outer slots k h g = not_both (get_or slots k None) h g

-- an end node is in no list
pub head_in_none : (slots : Slots) (heads : List ℕ) (lists : List (List ℕ)) (l m : ℕ) → Stand slots heads lists → l < length heads → m < length heads → IsIn (head_at heads l) (at lists m) → ⊥
head_in_none slots heads lists l m s b c h = inner_not_outer slots _ (s.inner m _ c h) (s.outer l b)

-- the walks give back the lists
pub stand-lists : (slots : Slots) (heads : List ℕ) (lists : List (List ℕ)) → Stand slots heads lists → map (ring_of slots) heads ≡ lists
stand-lists slots heads lists s =
    same_elements _ _ []
    (length-map heads (ring_of slots) ∙ sym s.count)
    (λ i b.
    let below : i < length heads = omega (arith, b, length-map heads (ring_of slots)) in
    get_or-map (ring_of slots) heads i 0 [] below
    ∙ walk-chain (next_in slots) (prev_in slots) (head_at heads i) (at lists i) (head_at heads i) (length slots)
    (head_in_none slots heads lists i i s below below)
    (length-distinct _ _ (s.distinct i below) (λ k h. inner_below slots k (s.inner i k below h)))
    (s.rings i below))

-- One list changes, and the links of nodes outside its ring stay.
pub stand-changed : (slots s2 : Slots) (heads : List ℕ) (lists : List (List ℕ)) (l : ℕ) (xs : List ℕ) →
    Stand slots heads lists → l < length heads → SameKinds slots s2 →
    Chain (next_in s2) (prev_in s2) (head_at heads l) xs (head_at heads l) → Distinct xs →
    ((k : ℕ) → IsIn k xs → is_inner_at slots k ≡ true) →
    ((m k : ℕ) → m < length heads → m ≢ l → IsIn k xs → IsIn k (at lists m) → ⊥) →
    ((k : ℕ) → k ≢ head_at heads l → (IsIn k (at lists l) → ⊥) → (IsIn k xs → ⊥) → (next_in s2 k ≡ next_in slots k) × (prev_in s2 k ≡ prev_in slots k)) →
    Stand s2 heads (set lists l xs)
stand-changed slots s2 heads lists l xs s below kinds chain distinct inner apart same =
    let room : l < length lists = omega (arith, below, s.count) in
    let here : at (set lists l xs) l ≡ xs = get_or-set_same lists l xs [] room in
    let there : (m : ℕ) → m ≢ l → at (set lists l xs) m ≡ at lists m = λ m ne. get_or-set_other lists l m xs [] ne in
    let head_same : (m : ℕ) → m < length heads → m ≢ l → (next_in s2 (head_at heads m) ≡ next_in slots (head_at heads m)) × (prev_in s2 (head_at heads m) ≡ prev_in slots (head_at heads m)) =
    λ m b ne. same (head_at heads m) (λ e. ne (s.heads_apart m l b below e)) (head_in_none slots heads lists m l s b below) (λ h. inner_not_outer slots _ (inner _ h) (s.outer m b)) in
    let node_same : (m k : ℕ) → m < length heads → m ≢ l → IsIn k (at lists m) → (next_in s2 k ≡ next_in slots k) × (prev_in s2 k ≡ prev_in slots k) =
    λ m k b ne h. same k
    (λ e. head_in_none slots heads lists l m s below b (is_in_equal k _ (at lists m) e h))
    (λ g. ne (s.apart m l k b below h g))
    (λ g. apart m k b ne g h) in
    record {
      count = length-set lists l xs ∙ s.count;
      rings = λ m b. elim (eqb_tells m l) [
        | inl e ↦ subst (λ z. Chain (next_in s2) (prev_in s2) (head_at heads z) (at (set lists l xs) z) (head_at heads z)) (sym e.1) (rw here chain)
        | inr e ↦ rw (there m e.1) (chain-frame (next_in slots) (prev_in slots) _ _ _ (at lists m) _
            (head_same m b e.1).0 (λ k h. (node_same m k b e.1 h).0) (head_same m b e.1).1 (λ k h. (node_same m k b e.1 h).1) (s.rings m b))
      ];
      distinct = λ m b. elim (eqb_tells m l) [
        | inl e ↦ subst (λ z. Distinct (at (set lists l xs) z)) (sym e.1) (rw here distinct)
        | inr e ↦ rw (there m e.1) (s.distinct m b)
      ];
      apart = λ i j k bi bj hi hj. elim (eqb_tells i l) [
        | inl e ↦ elim (eqb_tells j l) [
          | inl f ↦ e.1 ∙ sym f.1
          | inr f ↦ absurd (apart j k bj f.1 (subst (λ zs. IsIn k zs) (ap (λ z. at (set lists l xs) z) e.1 ∙ here) hi) (subst (λ zs. IsIn k zs) (there j f.1) hj))
        ]
        | inr e ↦ elim (eqb_tells j l) [
          | inl f ↦ absurd (apart i k bi e.1 (subst (λ zs. IsIn k zs) (ap (λ z. at (set lists l xs) z) f.1 ∙ here) hj) (subst (λ zs. IsIn k zs) (there i e.1) hi))
          | inr f ↦ s.apart i j k bi bj (subst (λ zs. IsIn k zs) (there i e.1) hi) (subst (λ zs. IsIn k zs) (there j f.1) hj)
        ]
      ];
      inner = λ m k b h. same_at is_inner slots s2 None k kinds.inner ∙ elim (eqb_tells m l) [
        | inl e ↦ inner k (subst (λ zs. IsIn k zs) (ap (λ z. at (set lists l xs) z) e.1 ∙ here) h)
        | inr e ↦ s.inner m k b (subst (λ zs. IsIn k zs) (there m e.1) h)
      ];
      outer = λ m b. same_at is_outer slots s2 None (head_at heads m) kinds.outer ∙ s.outer m b;
      heads_apart = s.heads_apart;
    }

-- the links after a node was put between two others
abbrev Between : Slots → Slots → ℕ → ℕ → ℕ → Type 0
Between slots s2 before node after =
    (next_in s2 before ≡ node) × (prev_in s2 node ≡ before) × (next_in s2 node ≡ after) × (prev_in s2 after ≡ node)
    × ((k : ℕ) → k ≢ before → k ≢ node → next_in s2 k ≡ next_in slots k)
    × ((k : ℕ) → k ≢ after → k ≢ node → prev_in s2 k ≡ prev_in slots k)
    × SameKinds slots s2

joined_twice : (slots s1 s2 : Slots) (before node after : ℕ) → Joined slots s1 before node → Joined s1 s2 node after → before ≢ node → node ≢ after → Between slots s2 before node after
joined_twice slots s1 s2 before node after f g nb na = (
  g.next_others before nb ∙ f.next_before,
  g.prev_others node na ∙ f.prev_after,
  g.next_before,
  g.prev_after,
  (λ k kb kn. g.next_others k kn ∙ f.next_others k kb),
  (λ k ka kn. g.prev_others k ka ∙ f.prev_others k kn),
  record { inner = g.kinds.inner ∙ f.kinds.inner; outer = g.kinds.outer ∙ f.kinds.outer; entries = g.kinds.entries ∙ f.kinds.entries },
)

module _ (slots : Slots) (heads : List ℕ) (lists : List (List ℕ)) (l node : ℕ) (s : Stand slots heads lists) (below : l < length heads) where
  head : ℕ
  head = head_at heads l

  not_head : is_inner_at slots node ≡ true → head ≢ node
  unfolding head
  not_head known e = inner_not_outer slots node known (subst (λ z. is_outer_at slots z ≡ true) e (s.outer l below))

  pub stand-pushed_front : (s1 s2 : Slots) → is_inner_at slots node ≡ true → ((m : ℕ) → IsIn node (at lists m) → ⊥) →
      Joined slots s1 (head_at heads l) node → Joined s1 s2 node (next_in slots (head_at heads l)) →
      Stand s2 heads (set lists l (node ∷ at lists l))
  unfolding head
  stand-pushed_front s1 s2 known loose f g =
      let ne : head_at heads l ≢ node = not_head known in
      let ring = s.rings l below in
      let first = chain-first_in (next_in slots) (prev_in slots) _ (at lists l) _ ring in
      let nf : node ≢ next_in slots (head_at heads l) = λ e. elim first [ inl h ↦ ne (sym (e ∙ h)) | inr h ↦ loose l (is_in_equal _ node _ (sym e) h) ] in
      let b = joined_twice slots s1 s2 _ node _ f g ne nf in
      let none : IsIn (head_at heads l) (at lists l) → ⊥ = head_in_none slots heads lists l l s below below in
      stand-changed slots s2 heads lists l (node ∷ at lists l) s below b.6
      (chain-pushed_front (next_in slots) (prev_in slots) (next_in s2) (prev_in s2) _ node (at lists l) _ b.0 b.1 b.2 b.3 b.4 b.5 none (loose l) none (λ e. ne (sym e)) (s.distinct l below) ring)
      (loose l, s.distinct l below)
      (λ k h. elim h [ inl e ↦ subst (λ z. is_inner_at slots z ≡ true) (sym e) known | inr i ↦ s.inner l k below i ])
      (λ m k bm nm h i. elim h [ inl e ↦ loose m (is_in_equal k node _ e i) | inr j ↦ nm (s.apart m l k bm below i j) ])
      (λ k nh out nin. (b.4 k nh (λ e. nin (inl e)), b.5 k (λ e. elim first [ inl h ↦ nh (e ∙ h) | inr h ↦ out (is_in_equal _ k _ (sym e) h) ]) (λ e. nin (inl e))))

  pub stand-pushed_back : (s1 s2 : Slots) → is_inner_at slots node ≡ true → ((m : ℕ) → IsIn node (at lists m) → ⊥) →
      Joined slots s1 (prev_in slots (head_at heads l)) node → Joined s1 s2 node (head_at heads l) →
      Stand s2 heads (set lists l (at lists l ++ node ∷ []))
  unfolding head
  stand-pushed_back s1 s2 known loose f g =
      let ne : head_at heads l ≢ node = not_head known in
      let ring = s.rings l below in
      let last = chain-last_in (next_in slots) (prev_in slots) _ (at lists l) _ ring in
      let nl : prev_in slots (head_at heads l) ≢ node = λ e. elim last [ inl h ↦ ne (sym h ∙ e) | inr h ↦ loose l (is_in_equal _ node _ e h) ] in
      let b = joined_twice slots s1 s2 _ node _ f g nl (λ e. ne (sym e)) in
      let none : IsIn (head_at heads l) (at lists l) → ⊥ = head_in_none slots heads lists l l s below below in
      stand-changed slots s2 heads lists l (at lists l ++ node ∷ []) s below b.6
      (chain-pushed_back (next_in slots) (prev_in slots) (next_in s2) (prev_in s2) _ node (at lists l) _ b.0 b.1 b.2 b.3 b.4 b.5 none (loose l) none ne (s.distinct l below) ring)
      (distinct-pushed (at lists l) node (loose l) (s.distinct l below))
      (λ k h. elim (is_in-pushed k (at lists l) node h) [ inl e ↦ subst (λ z. is_inner_at slots z ≡ true) (sym e) known | inr i ↦ s.inner l k below i ])
      (λ m k bm nm h i. elim (is_in-pushed k (at lists l) node h) [ inl e ↦ loose m (is_in_equal k node _ e i) | inr j ↦ nm (s.apart m l k bm below i j) ])
      (λ k nh out nin. (
        b.4 k (λ e. elim last [ inl h ↦ nh (e ∙ h) | inr h ↦ out (is_in_equal _ k _ (sym e) h) ]) (λ e. nin (is_in-back k (at lists l) (node ∷ []) (inl e))),
        b.5 k nh (λ e. nin (is_in-back k (at lists l) (node ∷ []) (inl e))),
      ))

  pub stand-removed : (s2 : Slots) (front back : List ℕ) → at lists l ≡ front ++ node ∷ back →
      Joined slots s2 (prev_in slots node) (next_in slots node) →
      Stand s2 heads (set lists l (front ++ back))
  stand-removed s2 front back is f =
      let ring = subst (λ zs. Chain (next_in slots) (prev_in slots) (head_at heads l) zs (head_at heads l)) is (s.rings l below) in
      let none : IsIn (head_at heads l) (front ++ node ∷ back) → ⊥ = subst (λ zs. IsIn (head_at heads l) zs → ⊥) is (head_in_none slots heads lists l l s below below) in
      let distinct = subst Distinct is (s.distinct l below) in
      let back_in : (k : ℕ) → IsIn k (front ++ back) → IsIn k (at lists l) = λ k h. subst (λ zs. IsIn k zs) (sym is) (is_in-skipped k front node back h) in
      let prev = chain-prev_in (next_in slots) (prev_in slots) _ front node back _ ring in
      let next = chain-next_in (next_in slots) (prev_in slots) _ front node back _ ring in
      stand-changed slots s2 heads lists l (front ++ back) s below f.kinds
      (chain-removed (next_in slots) (prev_in slots) (next_in s2) (prev_in s2) _ front node back _ f.next_before f.prev_after f.next_others f.prev_others none none distinct ring)
      (distinct-skipped front node back distinct)
      (λ k h. s.inner l k below (back_in k h))
      (λ m k bm nm h i. nm (s.apart m l k bm below i (back_in k h)))
      (λ k nh out nin. (
        f.next_others k (λ e. elim prev [ inl h ↦ nh (e ∙ h) | inr h ↦ nin (is_in-front k front back (is_in_equal _ k _ (sym e) h)) ]),
        f.prev_others k (λ e. elim next [ inl h ↦ nh (e ∙ h) | inr h ↦ nin (is_in-back k front back (is_in_equal _ k _ (sym e) h)) ]),
      ))

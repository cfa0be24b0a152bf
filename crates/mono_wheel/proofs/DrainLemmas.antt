-- Going through a list while chosen nodes leave it.
use Rattle.std.proofs.Common.{arith, ◌≡◌, ◌≢◌, ℕ, ◌<◌, ◌⊎◌, inl, inr, length, Bool, true, false, List, [], ◌∷◌, ◌++◌, map, Option, Some, None, ap, refl, sym, ◌∙◌, subst, append_assoc, append-nil, eq-eqb, length-append, get_or-set_same, length-set}
use Rattle.std.proofs.lemmas.Bool.Decides.{eqb_tells}
use Rattle.std.proofs.lemmas.Option.{none-some}
use Rattle.std.proofs.lemmas.List.{set-get_or}
use Rattle.std.proofs.Math.Seq.{set-set}
use Rattle.std.specs.List.{FoldsTo}
use Rattle.std.specs.Iterator.{Yields, YieldsThen}
use base.Fml.{GName}
use Rattle.std.specs.Option.{ForSome}
use Rattle.mono_wheel.specs.Lists.{Lists, IsIn, IsFirst, list_at, with_list}
use Rattle.mono_wheel.specs.Rings.{Slots, Chain, Distinct, ring_of, seen, at, head_at, next_in, prev_in, Stand}
use Rattle.mono_wheel.specs.Drains.{from_node, until_node, from_place, until_place, left_of, spared_of, whole_of, lender_of, links_of, CanStep, Stays, DrainSteps, Sifts, Drained, Drains}
use Rattle.mono_wheel.specs.declared.drain_filter.DrainFilter.{DrainFilter}
use Rattle.mono_wheel.proofs.ChainLemmas.{is_in_equal, is_in-middle, is_in-back, distinct-skipped}
use Rattle.mono_wheel.proofs.RingLemmas.{head_in_none}
use Rattle.mono_wheel.proofs.CallLemmas.{seen-below, split}

-- what comes after a node of a chain
chain-after : (n p : ℕ → ℕ) (a : ℕ) (front : List ℕ) (node : ℕ) (back : List ℕ) (b : ℕ) →
    (IsIn b (front ++ node ∷ back) → ⊥) → Chain n p a (front ++ node ∷ back) b →
    ((n node ≡ b) × (back ≡ [])) ⊎ ((n node ≢ b) × (rest : List ℕ) × (back ≡ n node ∷ rest))
chain-after n p a [] node [] b f c = inl (c.1.forth, refl)
chain-after n p a [] node (y ∷ ys) b f c = inr ((λ e. f (inr (inl (sym e ∙ c.1.0.forth)))), ys, ap (λ z. z ∷ ys) (sym c.1.0.forth))
chain-after n p a (x ∷ front) node back b f c = chain-after n p x front node back b (λ h. f (inr h)) c.1

pub seen-after : (slots : Slots) (heads : List ℕ) (room : ℕ) (v : Lists) (l node : ℕ) (front back : List ℕ) → seen slots heads room ≡ v → Stand slots heads (map (ring_of slots) heads) → l < length v.lists →
    list_at v l ≡ front ++ node ∷ back → (head next : ℕ) → head ≡ head_at heads l → next ≡ next_in slots node →
    (next ≡ head → back ≡ []) × (next ≢ head → (rest : List ℕ) × (back ≡ next ∷ rest))
seen-after slots heads room v l node front back e s below is head next h f =
    let b = seen-below slots heads room v l e below in
    let here : at (map (ring_of slots) heads) l ≡ front ++ node ∷ back = subst (λ w. list_at w l ≡ front ++ node ∷ back) (sym e) is in
    elim (chain-after (next_in slots) (prev_in slots) (head_at heads l) front node back (head_at heads l)
    (subst (λ zs. IsIn (head_at heads l) zs → ⊥) here (head_in_none slots heads _ l l s b b))
    (subst (λ zs. Chain (next_in slots) (prev_in slots) (head_at heads l) zs (head_at heads l)) here (s.rings l b))) [
      | inl t ↦ ((λ _. t.1), (λ ne. absurd (ne (f ∙ t.0 ∙ sym h))))
      | inr t ↦ ((λ g. absurd (t.0 (sym f ∙ g ∙ h))), (λ _. (t.1, t.2 ∙ ap (λ z. z ∷ t.1) (sym f))))
    ]

-- a list is cut at a node that it names once
cut-at : (front : List ℕ) (node : ℕ) (back : List ℕ) → Distinct (front ++ node ∷ back) →
    (from_node node (front ++ node ∷ back) ≡ node ∷ back) × (until_node node (front ++ node ∷ back) ≡ front)
cut-at [] node back d = (rw (eq-eqb node node refl) refl, rw (eq-eqb node node refl) refl)
cut-at (x ∷ front) node back d = elim (eqb_tells node x) [
  | inl e ↦ absurd (d.0 (is_in_equal node x _ e.1 (is_in-middle front node back)))
  | inr e ↦ let found = cut-at front node back d.1 in (rw (e.0) found.0, rw (e.0) (ap (λ zs. x ∷ zs) found.1))
]

-- and at the first of what comes after a part
pub cut-after : (front back : List ℕ) (r : Option ℕ) → Distinct (front ++ back) → IsFirst back r →
    (from_place r (front ++ back) ≡ back) × (until_place r (front ++ back) ≡ front)
cut-after front back None d is = (sym is, ap (λ zs. front ++ zs) is ∙ append-nil front)
cut-after front back (Some node) d is =
    let found = cut-at front node is.0 (subst (λ zs. Distinct (front ++ zs)) is.1 d) in
    subst (λ zs. (from_node node (front ++ zs) ≡ zs) × (until_node node (front ++ zs) ≡ front)) (sym is.1) found

module _ {F : Type 0} where
  -- The closure was asked about the first nodes of the remaining ones, and spared them.
  pub record Going (asks : F → ℕ → Bool → F → Type 0) (s t : DrainFilter F) : Type 0 where
    pub passed : List ℕ
    pub asked : FoldsTo (λ f node g. asks f node false g) s.choose passed t.choose
    pub left : left_of s ≡ passed ++ left_of t
    pub spared : spared_of t ≡ spared_of s ++ passed
    pub stays : Stays s t
    pub same : t.links.now ≡ s.links.now
    pub ready : CanStep t

place-of : (back : List ℕ) (r : Option ℕ) → IsFirst back r → ForSome r (λ node. IsIn node back)
place-of back None is m e = absurd (none-some m e)
place-of back (Some node) is m e = let same : m ≡ node = cc in subst (IsIn m) (sym is.1) (inl same)

-- a list is cut at a node, and at what comes after it, with the node and without it
pub record Cut (xs : List ℕ) (node : ℕ) (r : Option ℕ) : Type 0 where
  pub front : List ℕ
  pub back : List ℕ
  pub is : xs ≡ front ++ node ∷ back
  pub left : from_node node xs ≡ node ∷ back
  pub spared : until_node node xs ≡ front
  pub left_on : from_place r xs ≡ back
  pub spared_on : until_place r xs ≡ front ++ node ∷ []
  pub left_without : from_place r (front ++ back) ≡ back
  pub spared_without : until_place r (front ++ back) ≡ front
  pub place : ForSome r (λ m. IsIn m back)
  pub distinct : Distinct (front ++ back)

pub cut : (xs : List ℕ) (node : ℕ) (r : Option ℕ) → IsIn node xs → Distinct xs → ((front back : List ℕ) → xs ≡ front ++ node ∷ back → IsFirst back r) → Cut xs node r
cut xs node r within d after =
    let found = split node xs within in
    let front : List ℕ = found.0 in
    let back : List ℕ = found.1 in
    let is : xs ≡ front ++ node ∷ back = found.2 in
    let first : IsFirst back r = after front back is in
    let e : (front ++ node ∷ []) ++ back ≡ front ++ node ∷ back = append_assoc front (node ∷ []) back in
    let dis : Distinct (front ++ node ∷ back) = subst Distinct is d in
    let here : (from_node node (front ++ node ∷ back) ≡ node ∷ back) × (until_node node (front ++ node ∷ back) ≡ front) = cut-at front node back dis in
    let on : (from_place r ((front ++ node ∷ []) ++ back) ≡ back) × (until_place r ((front ++ node ∷ []) ++ back) ≡ front ++ node ∷ []) = cut-after (front ++ node ∷ []) back r (subst Distinct (sym e) dis) first in
    let less : Distinct (front ++ back) = distinct-skipped front node back dis in
    let out : (from_place r (front ++ back) ≡ back) × (until_place r (front ++ back) ≡ front) = cut-after front back r less first in
    record {
      front = front;
      back = back;
      is = is;
      left = ap (from_node node) is ∙ here.0;
      spared = ap (until_node node) is ∙ here.1;
      left_on = ap (from_place r) (is ∙ sym e) ∙ on.0;
      spared_on = ap (until_place r) (is ∙ sym e) ∙ on.1;
      left_without = out.0;
      spared_without = out.1;
      place = place-of back r first;
      distinct = less;
    }

module _ {F : Type 0} (asks : F → ℕ → Bool → F → Type 0) where
  abbrev spares : F → ℕ → F → Type 0
  spares f node g = asks f node false g

  folds_more : (xs : List ℕ) (f g h : F) (node : ℕ) → FoldsTo spares f xs g → asks g node false h → FoldsTo spares f (xs ++ node ∷ []) h
  folds_more [] f g h node is a = (h, subst (λ z. asks z node false h) (sym is) a, refl)
  folds_more (x ∷ xs) f g h node is a = (is.0, is.1, folds_more xs is.0 g h node is.2 a)

  module _ (s t : DrainFilter F) (go : Going asks s t) (node : ℕ) (r : Option ℕ) (at : t.at ≡ Some node)
      (after : (front back : List ℕ) → whole_of t ≡ front ++ node ∷ back → IsFirst back r) where
    the_cut : Cut (whole_of t) node r
    the_cut = cut (whole_of t) node r (go.ready.place node at) go.ready.distinct after

    left_is : left_of t ≡ node ∷ the_cut.back
    left_is = ap (λ o. from_place o (whole_of t)) at ∙ the_cut.left

    spared_is : spared_of t ≡ the_cut.front
    spared_is = ap (λ o. until_place o (whole_of t)) at ∙ the_cut.spared

    pub falls_on : length (from_place r (whole_of t)) < length (left_of t)
    falls_on = let a = ap length the_cut.left_on in let b = ap length left_is in omega (arith, a, b)

    pub falls_left : (w : Lists) → ((front back : List ℕ) → whole_of t ≡ front ++ node ∷ back → w ≡ with_list t.links.now t.list (front ++ back)) → length (from_place r (list_at w t.list)) < length (left_of s)
    falls_left w parts =
        let whole : list_at w t.list ≡ the_cut.front ++ the_cut.back = ap (λ v. list_at v t.list) (parts the_cut.front the_cut.back the_cut.is) ∙ get_or-set_same t.links.now.lists t.list (the_cut.front ++ the_cut.back) [] go.ready.exists in
        let a = ap length (ap (from_place r) whole ∙ the_cut.left_without) in
        let b = ap length left_is in
        let c = ap length go.left ∙ length-append go.passed (left_of t) in
        omega (arith, a, b, c)

    module _ (u : DrainFilter F) (at2 : u.at ≡ r) (list : u.list ≡ t.list) (name : u.links.ghost_name ≡ t.links.ghost_name) where
      stays_on : Stays s u
      stays_on = record { list = list ∙ go.stays.list; reference = name ∙ go.stays.reference }

      -- the node is spared
      module _ (same : u.links.now ≡ t.links.now) where
        whole_on : whole_of u ≡ whole_of t
        whole_on = ap (λ v. list_at v u.list) same ∙ ap (list_at t.links.now) list

        left_on : left_of u ≡ the_cut.back
        left_on = ap (λ o. from_place o (whole_of u)) at2 ∙ ap (from_place r) whole_on ∙ the_cut.left_on

        spared_on : spared_of u ≡ the_cut.front ++ node ∷ []
        spared_on = ap (λ o. until_place o (whole_of u)) at2 ∙ ap (until_place r) whole_on ∙ the_cut.spared_on

        pub goes_on : asks t.choose node false u.choose → Going asks s u
        goes_on asked = record {
          passed = go.passed ++ node ∷ [];
          asked = folds_more go.passed s.choose t.choose u.choose node go.asked asked;
          left = go.left ∙ ap (λ zs. go.passed ++ zs) (left_is ∙ ap (λ zs. node ∷ zs) (sym left_on)) ∙ sym (append_assoc go.passed (node ∷ []) (left_of u));
          spared = spared_on ∙ ap (λ zs. zs ++ node ∷ []) (sym spared_is ∙ go.spared) ∙ append_assoc (spared_of s) go.passed (node ∷ []);
          stays = stays_on;
          same = same ∙ go.same;
          ready = record {
            exists = subst (λ l. l < length u.links.now.lists) (sym list) (subst (λ v. t.list < length v.lists) (sym same) go.ready.exists);
            place = λ m e. subst (IsIn m) (sym (whole_on ∙ the_cut.is)) (is_in-back m the_cut.front (node ∷ the_cut.back) (inr (the_cut.place m (sym at2 ∙ e))));
            distinct = subst Distinct (sym whole_on) go.ready.distinct;
          };
        }

      -- the node is chosen
      module _ (parts : (front back : List ℕ) → whole_of t ≡ front ++ node ∷ back → u.links.now ≡ with_list t.links.now t.list (front ++ back)) where
        left : u.links.now ≡ with_list t.links.now t.list (the_cut.front ++ the_cut.back)
        left = parts the_cut.front the_cut.back the_cut.is

        whole_left : whole_of u ≡ the_cut.front ++ the_cut.back
        whole_left = ap (λ v. list_at v u.list) left ∙ ap (list_at (with_list t.links.now t.list (the_cut.front ++ the_cut.back))) list ∙ get_or-set_same t.links.now.lists t.list (the_cut.front ++ the_cut.back) [] go.ready.exists

        rest_left : left_of u ≡ the_cut.back
        rest_left = ap (λ o. from_place o (whole_of u)) at2 ∙ ap (from_place r) whole_left ∙ the_cut.left_without

        spared_left : spared_of u ≡ the_cut.front
        spared_left = ap (λ o. until_place o (whole_of u)) at2 ∙ ap (until_place r) whole_left ∙ the_cut.spared_without

        pub gives : asks t.choose node true u.choose → DrainSteps asks s (Some node) u
        gives asked = (
          go.passed,
          t.choose,
          go.asked,
          spared_left ∙ sym spared_is ∙ go.spared,
          stays_on,
          (
            asked,
            go.left ∙ ap (λ zs. go.passed ++ zs) (left_is ∙ ap (λ zs. node ∷ zs) (sym rest_left)),
            left ∙ ap (λ v. with_list v t.list (the_cut.front ++ the_cut.back)) go.same ∙ ap (λ l. with_list s.links.now l (the_cut.front ++ the_cut.back)) go.stays.list ∙ (λ i. with_list s.links.now s.list (sym spared_left i ++ sym rest_left i)),
          ),
        )

        pub ready_left : CanStep u
        ready_left = record {
          exists = subst (λ v. u.list < length v.lists) (sym left) (subst (λ l. l < length (with_list t.links.now t.list (the_cut.front ++ the_cut.back)).lists) (sym list) (subst (λ n. t.list < n) (sym (length-set t.links.now.lists t.list (the_cut.front ++ the_cut.back))) go.ready.exists));
          place = λ m e. subst (IsIn m) (sym whole_left) (is_in-back m the_cut.front the_cut.back (the_cut.place m (sym at2 ∙ e)));
          distinct = subst Distinct (sym whole_left) the_cut.distinct;
        }

module _ {F : Type 0} (asks : F → ℕ → Bool → F → Type 0) where
  abbrev passes : F → ℕ → F → Type 0
  passes f node g = asks f node false g

  sifts-passed : (passed : List ℕ) (f g h : F) (rest chosen spared : List ℕ) → FoldsTo passes f passed g → Sifts asks g rest chosen spared h → Sifts asks f (passed ++ rest) chosen (passed ++ spared) h
  sifts-passed [] f g h rest chosen spared is then_ = subst (λ z. Sifts asks z rest chosen spared h) (sym is) then_
  sifts-passed (x ∷ xs) f g h rest chosen spared is then_ = inr (is.0, xs ++ spared, is.1, refl, sifts-passed xs is.0 g h rest chosen spared is.2 then_)

  sifts-spared : (passed : List ℕ) (f g : F) → FoldsTo passes f passed g → Sifts asks f passed [] passed g
  sifts-spared [] f g is = (is, refl, refl)
  sifts-spared (x ∷ xs) f g is = inr (is.0, xs, is.1, refl, sifts-spared xs is.0 g is.2)

  sifts-more : (asked : List ℕ) (f g h : F) (chosen spared passed : List ℕ) → Sifts asks f asked chosen spared g → FoldsTo passes g passed h → Sifts asks f (asked ++ passed) chosen (spared ++ passed) h
  sifts-more [] f g h chosen spared passed is more =
      subst (λ zs. Sifts asks f passed chosen (zs ++ passed) h) (sym is.2) (subst (λ zs. Sifts asks f passed zs passed h) (sym is.1) (subst (λ z. Sifts asks z passed [] passed h) (sym is.0) (sifts-spared passed g h more)))
  sifts-more (x ∷ xs) f g h chosen spared passed (inl is) more = inl (is.0, is.1, is.2, is.3, sifts-more xs is.0 g h is.1 spared passed is.4 more)
  sifts-more (x ∷ xs) f g h chosen spared passed (inr is) more = inr (is.0, is.1 ++ passed, is.2, ap (λ zs. zs ++ passed) is.3, sifts-more xs is.0 g h chosen is.1 passed is.4 more)

  -- The calls from one state to another.
  record Ran (s : DrainFilter F) (given : List ℕ) (t : DrainFilter F) : Type 0 where
    asked : List ℕ
    spared : List ℕ
    left : left_of s ≡ asked ++ left_of t
    sifted : Sifts asks s.choose asked given spared t.choose
    stand : spared_of t ≡ spared_of s ++ spared
    links : t.links.now ≡ with_list s.links.now s.list (spared_of t ++ left_of t)
    stays : Stays s t

  with_twice : (v : Lists) (l m : ℕ) (xs ys : List ℕ) → m ≡ l → with_list (with_list v l xs) m ys ≡ with_list v l ys
  with_twice v l m xs ys e = subst (λ z. with_list (with_list v l xs) z ys ≡ with_list v l ys) (sym e) (ap (λ zs. record { lists = zs; nodes = v.nodes; entries = v.entries; room = v.room }) (set-set v.lists l xs ys))

  ran : (given : List ℕ) (s t : DrainFilter F) → s.links.now ≡ with_list s.links.now s.list (spared_of s ++ left_of s) → Yields (DrainSteps asks) s given t → Ran s given t
  ran [] s t cascaded y =
      subst (λ z. Ran s [] z) y (record {
        asked = [];
        spared = [];
        left = refl;
        sifted = (refl, refl, refl);
        stand = sym (append-nil (spared_of s));
        links = cascaded;
        stays = record { list = refl; reference = refl };
      })
  ran (x ∷ xs) s t cascaded y =
      let j : DrainFilter F = y.0 in
      let step : DrainSteps asks s (Some x) j = y.1 in
      let passed : List ℕ = step.0 in
      let rest : Ran j xs t = ran xs j t (step.5.2 ∙ sym (with_twice s.links.now s.list j.list (spared_of j ++ left_of j) (spared_of j ++ left_of j) step.4.list) ∙ ap (λ v. with_list v j.list (spared_of j ++ left_of j)) (sym step.5.2)) y.2 in
      record {
        asked = passed ++ x ∷ rest.asked;
        spared = passed ++ rest.spared;
        left = step.5.1 ∙ ap (λ zs. passed ++ x ∷ zs) rest.left ∙ sym (append_assoc passed (x ∷ rest.asked) (left_of t));
        sifted = sifts-passed passed s.choose step.1 t.choose (x ∷ rest.asked) (x ∷ xs) rest.spared step.2 (inl (j.choose, xs, step.5.0, refl, rest.sifted));
        stand = rest.stand ∙ ap (λ zs. zs ++ rest.spared) step.3 ∙ append_assoc (spared_of s) passed rest.spared;
        links = rest.links ∙ ap (λ v. with_list v j.list (spared_of t ++ left_of t)) step.5.2 ∙ with_twice s.links.now s.list j.list (spared_of j ++ left_of j) (spared_of t ++ left_of t) step.4.list;
        stays = record { list = rest.stays.list ∙ step.4.list; reference = rest.stays.reference ∙ step.4.reference };
      }

  -- a state in which nothing was asked yet
  module _ (s : DrainFilter F) (old : Lists) (list : ℕ) (choose : F) (at : s.list ≡ list) (links : s.links.now ≡ old) (closure : s.choose ≡ choose) (left : left_of s ≡ list_at old list) (none : spared_of s ≡ []) where
    cascaded : s.links.now ≡ with_list s.links.now s.list (spared_of s ++ left_of s)
    cascaded =
        let whole : spared_of s ++ left_of s ≡ list_at s.links.now s.list = ap (λ zs. zs ++ left_of s) none ∙ left ∙ (λ i. list_at (sym links i) (sym at i)) in
        sym (ap (with_list s.links.now s.list) whole ∙ ap (λ zs. record { lists = zs; nodes = s.links.now.nodes; entries = s.links.now.entries; room = s.links.now.room }) (set-get_or s.links.now.lists s.list []))

    so_far : (given : List ℕ) (t : DrainFilter F) → Yields (DrainSteps asks) s given t → Drained asks old list choose given t × (lender_of t ≡ lender_of s)
    so_far given t y =
        let r : Ran s given t = ran given s t cascaded y in (
          record {
            asked = r.asked;
            spared = r.spared;
            whole = sym left ∙ r.left;
            sifted = subst (λ f. Sifts asks f r.asked given r.spared t.choose) closure r.sifted;
            links = r.links ∙ (λ i. with_list (links i) (at i) ((r.stand ∙ ap (λ zs. zs ++ r.spared) none) i ++ left_of t));
          },
          r.stays.reference,
        )

    whole : (given : List ℕ) (u : DrainFilter F) → YieldsThen (DrainSteps asks) s given None u → Drained asks old list choose given u × (lender_of u ≡ lender_of s) × (left_of u ≡ [])
    whole given u y =
        let t : DrainFilter F = y.0 in
        let step : DrainSteps asks t None u = y.2 in
        let r = (so_far given t y.1).0 in
        let passed : List ℕ = step.0 in
        let folds : FoldsTo passes t.choose passed u.choose = subst (λ g. FoldsTo passes t.choose passed g) step.5.0 step.2 in (
          record {
            asked = r.asked ++ passed;
            spared = r.spared ++ passed;
            whole = r.whole ∙ ap (λ zs. r.asked ++ zs) step.5.1 ∙ sym (append-nil (r.asked ++ passed)) ∙ ap (λ zs. (r.asked ++ passed) ++ zs) (sym step.5.2);
            sifted = sifts-more r.asked choose t.choose u.choose given r.spared passed r.sifted folds;
            links = step.5.3 ∙ r.links ∙ ap (with_list old list) (ap (λ zs. r.spared ++ zs) step.5.1 ∙ sym (append-nil (r.spared ++ passed)) ∙ ap (λ zs. (r.spared ++ passed) ++ zs) (sym step.5.2));
          },
          step.4.reference ∙ (so_far given t y.1).1,
          step.5.2,
        )

    pub drains : Drains asks old list choose s
    drains = record { so_far = so_far; whole = whole }

  -- The lists after a loop over the iterator, under the reference from which it was made.
  pub drain-leaves : (old : Lists) (list : ℕ) (choose : F) (s s2 t u : DrainFilter F) (given : List ℕ) (name : GName) (x : Lists) →
      Drains asks old list choose s → s2 ≡ s → Yields (DrainSteps asks) s2 given t → DrainSteps asks t None u → lender_of s ≡ name → (name ≡ lender_of u → x ≡ links_of u) →
      (spared : List ℕ) × Sifts asks choose (list_at old list) given spared u.choose × (x ≡ with_list old list spared)
  drain-leaves old list choose s s2 t u given name x d e y n lender back =
      let end : Drained asks old list choose given u × (lender_of u ≡ lender_of s) × (left_of u ≡ []) = d.whole given u (t, subst (λ z. Yields (DrainSteps asks) z given t) e y, n) in
      let all : list_at old list ≡ end.0.asked = end.0.whole ∙ ap (λ zs. end.0.asked ++ zs) end.2 ∙ append-nil end.0.asked in (
        end.0.spared,
        subst (λ zs. Sifts asks choose zs given end.0.spared u.choose) (sym all) end.0.sifted,
        back (sym (end.1 ∙ lender)) ∙ end.0.links ∙ ap (with_list old list) (ap (λ zs. end.0.spared ++ zs) end.2 ∙ append-nil end.0.spared),
      )

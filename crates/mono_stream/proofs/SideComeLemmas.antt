-- The items that may come of two streams.
use Rattle.std.proofs.Common.{◌≡◌, inl, inr, false, List, [], ◌∷◌, ◌++◌, map, Option, Some, None, refl, sym, ap, subst, ◌∙◌}
use Rattle.std.specs.List.{cons_option}
use Rattle.std.specs.Option.{is_some}
use Rattle.mono_model.specs.declared.poll.Poll.{Poll}
use Rattle.mono_model.specs.declared.poll.Poll.TheVariants.{Ready, Pending}
use Rattle.mono_stream.specs.Appends.{ChainGives}
use Rattle.mono_stream.specs.Comes.{MayCome, FollowOn}
use Rattle.mono_stream.specs.JoinedItems.{Interleaves}
use Rattle.mono_stream.specs.Merges.{BothGive, MergeGives}
use Rattle.mono_stream.specs.Sides.{SideMayCome, SideFollows}
use Rattle.mono_stream.specs.Zips.{HeldComes, Pairs, ZipGives}
use Rattle.mono_stream.specs.declared.appends.Chain.{Chain}
use Rattle.mono_stream.specs.declared.merges.Merge.{Merge}
use Rattle.mono_stream.specs.declared.sides.Fuse.{Fuse}
use Rattle.mono_stream.specs.declared.zips.Zip.{Zip}
use Rattle.mono_stream.proofs.ComeLemmas.{any_come, wait_all}

module _ {S X : Type 0} (gives : S → List X → Type 0) where
  pub none_of_side : (s : Option S) → SideMayCome gives s []
  none_of_side (Some s) = tt
  none_of_side None = refl

  ended_side : (s : Option S) (xs : List X) → xs ≡ [] → SideMayCome gives s xs
  ended_side s xs none = subst (λ l. SideMayCome gives s l) (sym none) (none_of_side s)

  pub ended_on : (s t : Option S) → ((xs : List X) → SideMayCome gives t xs → xs ≡ []) → (xs : List X) → SideMayCome gives t xs → SideMayCome gives s xs
  ended_on s t over xs may = ended_side s xs (over xs may)

  abbrev Gives : Fuse S → List X → Type 0
  Gives q xs = SideMayCome gives q.side xs

  pub fuse_on : (s t : Fuse S) (r : Poll (Option X)) → SideFollows (SideMayCome gives s.side) r (SideMayCome gives t.side) → FollowOn (MayCome Gives s) r (MayCome Gives t)
  fuse_on s t (Ready (Some x)) follow = λ xs may. follow xs (any_come Gives t (none_of_side t.side) xs may)
  fuse_on s t (Ready None) follow = tt
  fuse_on s t Pending follow = λ x xs may. follow (x ∷ xs) may

  -- The stream was polled.
  module _ (side left : Option S) (s : S) (is : side ≡ Some s) where
    pub side_first : (t : S) (x : X) → left ≡ Some t → ((xs : List X) → MayCome gives t xs → gives s (x ∷ xs)) → (xs : List X) → SideMayCome gives left xs → SideMayCome gives side (x ∷ xs)
    side_first t x kept follow xs may = subst (λ o. SideMayCome gives o (x ∷ xs)) (sym is) (follow xs (subst (λ o. SideMayCome gives o xs) kept may))

    pub side_waits : (t : S) → left ≡ Some t → ((x : X) (xs : List X) → gives t (x ∷ xs) → gives s (x ∷ xs)) → (xs : List X) → SideMayCome gives left xs → SideMayCome gives side xs
    side_waits t kept follow xs may = subst (λ o. SideMayCome gives o xs) (sym is) (wait_all gives s t follow xs (subst (λ o. SideMayCome gives o xs) kept may))

  pub side_over : (left : Option S) → left ≡ None → (xs : List X) → SideMayCome gives left xs → xs ≡ []
  side_over left none xs may = subst (λ o. SideMayCome gives o xs) none may

-- ---- one after the other

module _ {A B X : Type 0} (gives : A → List X → Type 0) (second_gives : B → List X → Type 0) (m n : Chain A B) where
  no_item : ChainGives gives second_gives n []
  no_item = record { firsts = []; seconds = []; first = none_of_side gives n.first; second = tt; are = refl }

  abbrev Later : List X → Type 0
  Later zs = MayCome (ChainGives gives second_gives) n zs

  pub first_comes : (x : X) → ((xs : List X) → SideMayCome gives n.first xs → SideMayCome gives m.first (x ∷ xs)) → n.second ≡ m.second → (zs : List X) → Later zs → ChainGives gives second_gives m (x ∷ zs)
  first_comes x follow same zs may =
      let h = any_come (ChainGives gives second_gives) n no_item zs may in
      record { firsts = x ∷ h.firsts; seconds = h.seconds; first = follow h.firsts h.first; second = subst (λ s. MayCome second_gives s h.seconds) same h.second; are = ap (λ l. x ∷ l) h.are }

  pub first_waits : ((xs : List X) → SideMayCome gives n.first xs → SideMayCome gives m.first xs) → n.second ≡ m.second → (z : X) (zs : List X) → ChainGives gives second_gives n (z ∷ zs) → ChainGives gives second_gives m (z ∷ zs)
  first_waits follow same z zs h =
      record { firsts = h.firsts; seconds = h.seconds; first = follow h.firsts h.first; second = subst (λ s. MayCome second_gives s h.seconds) same h.second; are = h.are }

  -- The first stream has ended.
  module _ (over : (xs : List X) → SideMayCome gives n.first xs → xs ≡ []) where
    second_only : (zs : List X) → ChainGives gives second_gives n zs → MayCome second_gives n.second zs
    second_only zs h = subst (λ l. MayCome second_gives n.second l) (sym (h.are ∙ ap (λ l. l ++ h.seconds) (over h.firsts h.first))) h.second

    from_second : (zs : List X) → MayCome second_gives m.second zs → ChainGives gives second_gives m zs
    from_second zs may = record { firsts = []; seconds = zs; first = none_of_side gives m.first; second = may; are = refl }

    pub second_comes : (r : Poll (Option X)) → FollowOn (MayCome second_gives m.second) r (MayCome second_gives n.second) → FollowOn (MayCome (ChainGives gives second_gives) m) r Later
    second_comes (Ready (Some x)) follow = λ zs may. from_second (x ∷ zs) (follow zs (second_only zs (any_come (ChainGives gives second_gives) n no_item zs may)))
    second_comes (Ready None) follow = tt
    second_comes Pending follow = λ z zs may. from_second (z ∷ zs) (follow z zs (second_only (z ∷ zs) may))

-- ---- as they come

swapped : {X : Type 0} (xs ys zs : List X) → Interleaves xs ys zs → Interleaves ys xs zs
swapped xs ys [] h = (h.1, h.0)
swapped xs ys (z ∷ zs) h = elim h [
  | inl k ↦ inr (k.0, k.1, swapped k.0 ys zs k.2)
  | inr k ↦ inl (k.0, k.1, swapped xs k.0 zs k.2)
]

module _ {A B X : Type 0} (gives : A → List X → Type 0) (far_gives : B → List X → Type 0) where
  neither : (near : Option A) (far : Option B) → BothGive gives far_gives near far []
  neither near far = record { nears = []; fars = []; first = none_of_side gives near; second = none_of_side far_gives far; are = (refl, refl) }

  both_swapped : (near : Option A) (far : Option B) (zs : List X) → BothGive gives far_gives near far zs → BothGive far_gives gives far near zs
  both_swapped near far zs h = record { nears = h.fars; fars = h.nears; first = h.second; second = h.first; are = swapped h.nears h.fars zs h.are }

  module _ (near near' : Option A) (far far' : Option B) where
    pub near_comes : (x : X) → ((xs : List X) → SideMayCome gives near' xs → SideMayCome gives near (x ∷ xs)) → far' ≡ far → (zs : List X) → BothGive gives far_gives near' far' zs → BothGive gives far_gives near far (x ∷ zs)
    near_comes x follow same zs h =
        record { nears = x ∷ h.nears; fars = h.fars; first = follow h.nears h.first; second = subst (λ s. SideMayCome far_gives s h.fars) same h.second; are = inl (h.nears, refl, h.are) }

    -- The near stream has no item: it waits, or has ended.
    module _ (follow : (xs : List X) → SideMayCome gives near' xs → SideMayCome gives near xs) where
      pub far_comes : (x : X) → ((xs : List X) → SideMayCome far_gives far' xs → SideMayCome far_gives far (x ∷ xs)) → (zs : List X) → BothGive gives far_gives near' far' zs → BothGive gives far_gives near far (x ∷ zs)
      far_comes x comes zs h =
          record { nears = h.nears; fars = x ∷ h.fars; first = follow h.nears h.first; second = comes h.fars h.second; are = inr (h.fars, refl, h.are) }

      pub both_wait : ((xs : List X) → SideMayCome far_gives far' xs → SideMayCome far_gives far xs) → (zs : List X) → BothGive gives far_gives near' far' zs → BothGive gives far_gives near far zs
      both_wait waits zs h = record { nears = h.nears; fars = h.fars; first = follow h.nears h.first; second = waits h.fars h.second; are = h.are }

      pub far_on : (r : Poll (Option X)) → SideFollows (SideMayCome far_gives far) r (SideMayCome far_gives far') → FollowOn (BothGive gives far_gives near far) r (BothGive gives far_gives near' far')
      far_on (Ready (Some x)) on = far_comes x on
      far_on (Ready None) on = tt
      far_on Pending on = λ z zs h. both_wait on (z ∷ zs) h

module _ {A B X : Type 0} (gives : A → List X → Type 0) (second_gives : B → List X → Type 0) (m n : Merge A B) where
  nothing : MergeGives gives second_gives n []
  nothing = neither gives second_gives n.first n.second

  pub merge_on : (r : Poll (Option X)) → FollowOn (BothGive gives second_gives m.first m.second) r (BothGive gives second_gives n.first n.second) → FollowOn (MayCome (MergeGives gives second_gives) m) r (MayCome (MergeGives gives second_gives) n)
  merge_on (Ready (Some x)) on = λ zs may. on zs (any_come (MergeGives gives second_gives) n nothing zs may)
  merge_on (Ready None) on = tt
  merge_on Pending on = on

  turned : (zs : List X) → MergeGives gives second_gives n zs → BothGive second_gives gives n.second n.first zs
  turned zs h = both_swapped gives second_gives n.first n.second zs h

  pub merge_turned : (r : Poll (Option X)) → FollowOn (BothGive second_gives gives m.second m.first) r (BothGive second_gives gives n.second n.first) → FollowOn (MayCome (MergeGives gives second_gives) m) r (MayCome (MergeGives gives second_gives) n)
  merge_turned (Ready (Some x)) on = λ zs may. both_swapped second_gives gives m.second m.first (x ∷ zs) (on zs (turned zs (any_come (MergeGives gives second_gives) n nothing zs may)))
  merge_turned (Ready None) on = tt
  merge_turned Pending on = λ z zs h. both_swapped second_gives gives m.second m.first (z ∷ zs) (on z zs (turned (z ∷ zs) h))

-- ---- in pairs

pub no_item_held : {X : Type 0} (o : Option X) → is_some o ≡ false → o ≡ None
no_item_held (Some x) none = absurd (cc)
no_item_held None none = refl

module _ {S X : Type 0} (gives : S → List X → Type 0) (s t : S) (held : Option X) where
  -- An item came, and is held.
  pub held_first : (left : Option X) (x : X) → held ≡ None → left ≡ Some x → ((xs : List X) → MayCome gives t xs → gives s (x ∷ xs)) → (xs : List X) → HeldComes gives t left xs → HeldComes gives s held xs
  held_first left x none is follow xs h = record {
    items = x ∷ h.items;
    may = follow h.items h.may;
    are = (h.are ∙ ap (λ o. cons_option o h.items) is) ∙ sym (ap (λ o. cons_option o (x ∷ h.items)) none);
  }

  pub held_waits : ((x : X) (xs : List X) → gives t (x ∷ xs) → gives s (x ∷ xs)) → (xs : List X) → HeldComes gives t held xs → HeldComes gives s held xs
  held_waits follow xs h = record { items = h.items; may = wait_all gives s t follow h.items h.may; are = h.are }

-- The item that is held is taken.
held_taken : {S X : Type 0} (gives : S → List X → Type 0) (s : S) (x : X) (xs : List X) → HeldComes gives s None xs → HeldComes gives s (Some x) (x ∷ xs)
held_taken gives s x xs h = record { items = h.items; may = h.may; are = ap (λ l. x ∷ l) h.are }

module _ {A B X Y : Type 0} (gives : A → List X → Type 0) (second_gives : B → List Y → Type 0) (m n : Zip A B X Y) where
  no_pair : ZipGives gives second_gives n []
  no_pair = record {
    more = cons_option n.first_item [];
    first = record { items = []; may = tt; are = refl };
    second_more = cons_option n.second_item [];
    second = record { items = []; may = tt; are = refl };
  }

  -- What could come of the first stream, after a poll of it.
  pub zip_first : ((xs : List X) → HeldComes gives n.first n.first_item xs → HeldComes gives m.first m.first_item xs) → n.second ≡ m.second → n.second_item ≡ m.second_item
      → (pairs : List (X × Y)) → ZipGives gives second_gives n pairs → ZipGives gives second_gives m pairs
  zip_first first same still pairs h = record {
    more = h.more;
    first = first _ h.first;
    second_more = h.second_more;
    second = subst (λ o. HeldComes second_gives m.second o (map (λ p. p.1) pairs ++ h.second_more)) still (subst (λ s. HeldComes second_gives s n.second_item (map (λ p. p.1) pairs ++ h.second_more)) same h.second);
  }

  -- Polls of both, if no item was held: what is held afterwards, and what may come.
  module _ (x : Option X) (y : Option Y) (first : (xs : List X) → HeldComes gives n.first x xs → HeldComes gives m.first m.first_item xs) (second : (ys : List Y) → HeldComes second_gives n.second y ys → HeldComes second_gives m.second m.second_item ys) where
    pub zip_waits : n.first_item ≡ x → n.second_item ≡ y → (pair : X × Y) (pairs : List (X × Y)) → ZipGives gives second_gives n (pair ∷ pairs) → ZipGives gives second_gives m (pair ∷ pairs)
    zip_waits held second_held pair pairs h = record {
      more = h.more;
      first = first _ (subst (λ o. HeldComes gives n.first o (map (λ p. p.0) (pair ∷ pairs) ++ h.more)) held h.first);
      second_more = h.second_more;
      second = second _ (subst (λ o. HeldComes second_gives n.second o (map (λ p. p.1) (pair ∷ pairs) ++ h.second_more)) second_held h.second);
    }

  zip_pairs : (x : X) (y : Y) → ((xs : List X) → HeldComes gives n.first (Some x) xs → HeldComes gives m.first m.first_item xs) → ((ys : List Y) → HeldComes second_gives n.second (Some y) ys → HeldComes second_gives m.second m.second_item ys)
      → n.first_item ≡ None → n.second_item ≡ None → (pairs : List (X × Y)) → MayCome (ZipGives gives second_gives) n pairs → ZipGives gives second_gives m ((x, y) ∷ pairs)
  zip_pairs x y first second none second_none pairs may =
      let h = any_come (ZipGives gives second_gives) n no_pair pairs may in record {
        more = h.more;
        first = first _ (held_taken gives n.first x _ (subst (λ o. HeldComes gives n.first o (map (λ p. p.0) pairs ++ h.more)) none h.first));
        second_more = h.second_more;
        second = second _ (held_taken second_gives n.second y _ (subst (λ o. HeldComes second_gives n.second o (map (λ p. p.1) pairs ++ h.second_more)) second_none h.second));
      }

  abbrev Follows : Poll (Option (X × Y)) → Type 0
  Follows r = FollowOn (MayCome (ZipGives gives second_gives) m) r (MayCome (ZipGives gives second_gives) n)

  pub zip_on : (x : Option X) (y : Option Y) (r : Poll (Option (X × Y))) → ((xs : List X) → HeldComes gives n.first x xs → HeldComes gives m.first m.first_item xs) → ((ys : List Y) → HeldComes second_gives n.second y ys → HeldComes second_gives m.second m.second_item ys)
      → Pairs x y r n.first_item n.second_item → Follows r
  zip_on (Some x) (Some y) r first second q = subst Follows (sym q.0) (zip_pairs x y first second q.1 q.2)
  zip_on (Some x) None r first second q = subst Follows (sym q.0) (zip_waits (Some x) None first second q.1 q.2)
  zip_on None y r first second q = subst Follows (sym q.0) (zip_waits None y first second q.1 q.2)

-- What could come before a poll could come before the poll before it.
pub follow_then : {S X : Type 0} (gives : S → List X → Type 0) (s t u : S) (r : Poll (Option X)) → ((xs : List X) → gives t xs → gives s xs) → FollowOn (MayCome gives t) r (MayCome gives u) → FollowOn (MayCome gives s) r (MayCome gives u)
follow_then gives s t u (Ready (Some x)) first follow = λ xs may. first (x ∷ xs) (follow xs may)
follow_then gives s t u (Ready None) first follow = tt
follow_then gives s t u Pending first follow = λ x xs may. first (x ∷ xs) (follow x xs may)

-- The items of two streams, as they come.
use Rattle.std.proofs.Common.{◌≡◌, inl, inr, ℕ, zero, suc, Bool, true, false, List, [], ◌∷◌, Option, Some, None, refl, sym, ap, subst, ◌∙◌}
use Rattle.mono_model.specs.declared.poll.Poll.{Poll}
use Rattle.mono_model.specs.declared.poll.Poll.TheVariants.{Ready, Pending}
use Rattle.mono_stream.specs.Items.{After, Gives}
use Rattle.mono_stream.specs.Sides.{AfterSide, SidePolls}
use Rattle.mono_stream.specs.Merges.{or_pending, AfterNear, BothPoll, ByTurn, MergePolls}
use Rattle.mono_stream.specs.JoinedItems.{Interleaves, SideItems, SideGives, MergesItems}
use Rattle.mono_stream.specs.declared.merges.Merge.{Merge}

unended : {P : Type 0} → false ≡ true → P
unended e = absurd (cc)

-- ---- one of the streams

module _ {S C X : Type 0} (polls : S → C → Poll (Option X) → S → C → Type 0) (cancels : S → C → C → Type 0) where
  abbrev Sided : Option S → List X → Option S → Type 0
  Sided = SideGives polls

  item_side : (ready : Poll (Option X)) (x : X) (s left : S) (c e d : C) (side last : Option S) (xs : List X) → polls s c ready left e → AfterSide polls cancels ready left e (Ready (Some x)) side d → Sided side xs last → SideItems polls s (x ∷ xs) last
  item_side (Ready (Some y)) x s left c e d side last xs polled (is, stays, still) later =
      let items = subst (λ o. Sided o xs last) stays later in
      let same : y ≡ x = sym cc in
      record {
        count = suc items.count;
        ended = items.ended;
        left = items.left;
        given = (Ready (Some y), left, record { before = c; after = e; polled = polled }, (xs, ap (λ z. z ∷ xs) (sym same), items.given));
        rest = items.rest;
      }
  item_side (Ready None) x s left c e d side last xs polled (is, over, given_up) later = absurd (cc)
  item_side Pending x s left c e d side last xs polled (is, stays, still) later = absurd (cc)

  -- An item came.
  pub item_came : (before side last : Option S) (x : X) (c d : C) (xs : List X) → SidePolls polls cancels before c (Ready (Some x)) side d → Sided side xs last → Sided before (x ∷ xs) last
  item_came (Some s) side last x c d xs p later = item_side p.answer x s p.left c p.middle d side last xs p.polled p.rest later
  item_came None side last x c d xs (is, over, still) later = absurd (cc)

  quiet_side : (ready r : Poll (Option X)) (s left : S) (c e d : C) (side last : Option S) (xs : List X) → polls s c ready left e → AfterSide polls cancels ready left e r side d → ((x : X) → r ≡ Ready (Some x) → ⊥) → Sided side xs last → SideItems polls s xs last
  quiet_side (Ready (Some y)) r s left c e d side last xs polled (is, stays, still) none later = absurd (none y is)
  quiet_side (Ready None) r s left c e d side last xs polled (is, over, given_up) none later =
      let (nothing, gone) = subst (λ o. Sided o xs last) over later in
      record { count = suc zero; ended = true; left = left; given = (Ready None, left, record { before = c; after = e; polled = polled }, (nothing, refl, refl)); rest = gone }
  quiet_side Pending r s left c e d side last xs polled (is, stays, still) none later =
      let items = subst (λ o. Sided o xs last) stays later in
      record { count = suc items.count; ended = items.ended; left = items.left; given = (Pending, left, record { before = c; after = e; polled = polled }, items.given); rest = items.rest }

  -- No item came.
  pub none_came : (before side last : Option S) (r : Poll (Option X)) (c d : C) (xs : List X) → SidePolls polls cancels before c r side d → ((x : X) → r ≡ Ready (Some x) → ⊥) → Sided side xs last → Sided before xs last
  none_came (Some s) side last r c d xs p none later = quiet_side p.answer r s p.left c p.middle d side last xs p.polled p.rest none later
  none_came None side last r c d xs (is, over, still) none later = subst (λ o. Sided o xs last) over later

  ended_side : (ready : Poll (Option X)) (s left : S) (e d : C) (side : Option S) → AfterSide polls cancels ready left e (Ready None) side d → side ≡ None
  ended_side (Ready (Some y)) s left e d side (is, stays, still) = absurd (cc)
  ended_side (Ready None) s left e d side (is, over, given_up) = over
  ended_side Pending s left e d side (is, stays, still) = absurd (cc)

  -- The stream has ended.
  pub has_gone : (before side : Option S) (c d : C) → SidePolls polls cancels before c (Ready None) side d → side ≡ None
  has_gone (Some s) side c d p = ended_side p.answer s p.left p.middle d side p.rest
  has_gone None side c d (is, over, still) = over

  pub stays_gone : (side last : Option S) (xs : List X) → side ≡ None → Sided side xs last → last ≡ None
  stays_gone side last xs over given = (subst (λ o. Sided o xs last) over given).1

  pub as_it_was : (side : Option S) → Sided side [] side
  as_it_was (Some s) = record { count = zero; ended = false; left = s; given = (refl, refl, refl); rest = refl }
  as_it_was None = (refl, refl)

-- ---- both

module _ {A B C X : Type 0} (polls : A → C → Poll (Option X) → A → C → Type 0) (cancels : A → C → C → Type 0) (far_polls : B → C → Poll (Option X) → B → C → Type 0) (far_cancels : B → C → C → Type 0) where
  -- What both give together, and whether the end is the end of both.
  pub record Both (near : Option A) (far : Option B) (zs : List X) (has_ended : Bool) (near_last : Option A) (far_last : Option B) : Type 0 where
    pub xs : List X
    pub ys : List X
    pub first : SideGives polls near xs near_last
    pub second : SideGives far_polls far ys far_last
    pub are : Interleaves xs ys zs
    pub ends : has_ended ≡ true → (near_last ≡ None) × (far_last ≡ None)

  abbrev pub Later : Poll (Option X) → Option A → Option B → List X → Bool → Option A → Option B → Type 0
  Later (Ready (Some x)) near far zs has_ended near_last far_last = (rest : List X) × (zs ≡ x ∷ rest) × Both near far rest has_ended near_last far_last
  Later (Ready None) near far zs has_ended near_last far_last = (zs ≡ []) × (near_last ≡ near) × (far_last ≡ far)
  Later Pending near far zs has_ended near_last far_last = Both near far zs has_ended near_last far_last

  far_more : (answer : Poll (Option X)) (near near_side near_last : Option A) (far far_side far_last : Option B) (c m d : C) (zs : List X) (has_ended : Bool) → SidePolls polls cancels near c (Ready None) near_side m → SidePolls far_polls far_cancels far m answer far_side d
      → Later answer near_side far_side zs has_ended near_last far_last → Both near far zs has_ended near_last far_last
  far_more (Ready (Some x)) near near_side near_last far far_side far_last c m d zs has_ended p q (rest, first, both) = record {
    xs = both.xs;
    ys = x ∷ both.ys;
    first = none_came polls cancels near near_side near_last (Ready None) c m both.xs p (λ y e. cc) both.first;
    second = item_came far_polls far_cancels far far_side far_last x m d both.ys q both.second;
    are = subst (λ l. Interleaves both.xs (x ∷ both.ys) l) (sym first) (inr (both.ys, refl, both.are));
    ends = both.ends;
  }
  far_more (Ready None) near near_side near_last far far_side far_last c m d zs has_ended p q (none, same, same2) = record {
    xs = [];
    ys = [];
    first = none_came polls cancels near near_side near_last (Ready None) c m [] p (λ y e. cc) (subst (λ o. SideGives polls near_side [] o) (sym same) (as_it_was polls cancels near_side));
    second = none_came far_polls far_cancels far far_side far_last (Ready None) m d [] q (λ y e. cc) (subst (λ o. SideGives far_polls far_side [] o) (sym same2) (as_it_was far_polls far_cancels far_side));
    are = subst (λ l. Interleaves [] [] l) (sym none) (refl, refl);
    ends = λ e. (same ∙ has_gone polls cancels near near_side c m p, same2 ∙ has_gone far_polls far_cancels far far_side m d q);
  }
  far_more Pending near near_side near_last far far_side far_last c m d zs has_ended p q both = record {
    xs = both.xs;
    ys = both.ys;
    first = none_came polls cancels near near_side near_last (Ready None) c m both.xs p (λ y e. cc) both.first;
    second = none_came far_polls far_cancels far far_side far_last Pending m d both.ys q (λ y e. cc) both.second;
    are = both.are;
    ends = both.ends;
  }

  wait_more : (answer : Poll (Option X)) (near near_side near_last : Option A) (far far_side far_last : Option B) (c m d : C) (zs : List X) (has_ended : Bool) → SidePolls polls cancels near c Pending near_side m → SidePolls far_polls far_cancels far m answer far_side d
      → Later (or_pending answer) near_side far_side zs has_ended near_last far_last → Both near far zs has_ended near_last far_last
  wait_more (Ready (Some x)) near near_side near_last far far_side far_last c m d zs has_ended p q (rest, first, both) = record {
    xs = both.xs;
    ys = x ∷ both.ys;
    first = none_came polls cancels near near_side near_last Pending c m both.xs p (λ y e. cc) both.first;
    second = item_came far_polls far_cancels far far_side far_last x m d both.ys q both.second;
    are = subst (λ l. Interleaves both.xs (x ∷ both.ys) l) (sym first) (inr (both.ys, refl, both.are));
    ends = both.ends;
  }
  wait_more (Ready None) near near_side near_last far far_side far_last c m d zs has_ended p q both = record {
    xs = both.xs;
    ys = both.ys;
    first = none_came polls cancels near near_side near_last Pending c m both.xs p (λ y e. cc) both.first;
    second = none_came far_polls far_cancels far far_side far_last (Ready None) m d both.ys q (λ y e. cc) both.second;
    are = both.are;
    ends = both.ends;
  }
  wait_more Pending near near_side near_last far far_side far_last c m d zs has_ended p q both = record {
    xs = both.xs;
    ys = both.ys;
    first = none_came polls cancels near near_side near_last Pending c m both.xs p (λ y e. cc) both.first;
    second = none_came far_polls far_cancels far far_side far_last Pending m d both.ys q (λ y e. cc) both.second;
    are = both.are;
    ends = both.ends;
  }

  by_near : (answer r : Poll (Option X)) (near near_side near_last : Option A) (far far_side far_last : Option B) (c m d : C) (zs : List X) (has_ended : Bool) → SidePolls polls cancels near c answer near_side m → AfterNear polls cancels far_polls far_cancels answer far m r far_side d
      → Later r near_side far_side zs has_ended near_last far_last → Both near far zs has_ended near_last far_last
  by_near (Ready (Some x)) r near near_side near_last far far_side far_last c m d zs has_ended p (is, same, still) later =
      let (rest, first, both) = subst (λ q. Later q near_side far_side zs has_ended near_last far_last) is later in
      record {
        xs = x ∷ both.xs;
        ys = both.ys;
        first = item_came polls cancels near near_side near_last x c m both.xs p both.first;
        second = subst (λ o. SideGives far_polls o both.ys far_last) same both.second;
        are = subst (λ l. Interleaves (x ∷ both.xs) both.ys l) (sym first) (inl (both.xs, refl, both.are));
        ends = both.ends;
      }
  by_near (Ready None) r near near_side near_last far far_side far_last c m d zs has_ended p q later = far_more r near near_side near_last far far_side far_last c m d zs has_ended p q later
  by_near Pending r near near_side near_last far far_side far_last c m d zs has_ended p (answer, q, is) later =
      wait_more answer near near_side near_last far far_side far_last c m d zs has_ended p q (subst (λ a. Later a near_side far_side zs has_ended near_last far_last) is later)

  pub polled_both : (near near_side near_last : Option A) (far far_side far_last : Option B) (c d : C) (r : Poll (Option X)) (zs : List X) (has_ended : Bool) → BothPoll polls cancels far_polls far_cancels near far c r near_side far_side d
      → Later r near_side far_side zs has_ended near_last far_last → Both near far zs has_ended near_last far_last
  polled_both near near_side near_last far far_side far_last c d r zs has_ended p later = by_near p.answer r near near_side near_last far far_side far_last c p.middle d zs has_ended p.polled p.rest later

-- ---- in turn

turned : {X : Type 0} (xs ys zs : List X) → Interleaves xs ys zs → Interleaves ys xs zs
turned xs ys [] (none, nothing) = (nothing, none)
turned xs ys (z ∷ zs) (inl (rest, first, more)) = inr (rest, first, turned rest ys zs more)
turned xs ys (z ∷ zs) (inr (rest, first, more)) = inl (rest, first, turned xs rest zs more)

module _ {A B C X : Type 0} (polls : A → C → Poll (Option X) → A → C → Type 0) (cancels : A → C → C → Type 0) (second_polls : B → C → Poll (Option X) → B → C → Type 0) (second_cancels : B → C → C → Type 0) where
  abbrev Polled : Merge A B → C → Poll (Option X) → Merge A B → C → Type 0
  Polled = MergePolls polls cancels second_polls second_cancels

  abbrev Merged : Merge A B → List X → Bool → Merge A B → Type 0
  Merged old zs has_ended new = MergesItems polls second_polls old zs has_ended new

  abbrev BothFirst : Merge A B → List X → Bool → Merge A B → Type 0
  BothFirst old zs has_ended new = Both polls cancels second_polls second_cancels old.first old.second zs has_ended new.first new.second

  abbrev BothSecond : Merge A B → List X → Bool → Merge A B → Type 0
  BothSecond old zs has_ended new = Both second_polls second_cancels polls cancels old.second old.first zs has_ended new.second new.first

  from_first : (old new : Merge A B) (zs : List X) (has_ended : Bool) → BothFirst old zs has_ended new → Merged old zs has_ended new
  from_first old new zs has_ended b = record { xs = b.xs; ys = b.ys; first = b.first; second = b.second; are = b.are; ends = b.ends }

  to_first : (old new : Merge A B) (zs : List X) (has_ended : Bool) → Merged old zs has_ended new → BothFirst old zs has_ended new
  to_first old new zs has_ended b = record { xs = b.xs; ys = b.ys; first = b.first; second = b.second; are = b.are; ends = b.ends }

  from_second : (old new : Merge A B) (zs : List X) (has_ended : Bool) → BothSecond old zs has_ended new → Merged old zs has_ended new
  from_second old new zs has_ended b = record { xs = b.ys; ys = b.xs; first = b.second; second = b.first; are = turned b.xs b.ys zs b.are; ends = λ e. ((b.ends e).1, (b.ends e).0) }

  to_second : (old new : Merge A B) (zs : List X) (has_ended : Bool) → Merged old zs has_ended new → BothSecond old zs has_ended new
  to_second old new zs has_ended b = record { xs = b.ys; ys = b.xs; first = b.second; second = b.first; are = turned b.xs b.ys zs b.are; ends = λ e. ((b.ends e).1, (b.ends e).0) }

  abbrev Goes : ℕ → Merge A B → Bool → Merge A B → Type 0
  Goes n mid has_ended new = (zs : List X) → Gives Polled n mid zs has_ended new → Merged mid zs has_ended new

  first_later : (n : ℕ) (r : Poll (Option X)) (mid new : Merge A B) (zs : List X) (has_ended : Bool) → Goes n mid has_ended new → After r mid (Gives Polled n mid) zs has_ended new
      → Later polls cancels second_polls second_cancels r mid.first mid.second zs has_ended new.first new.second
  first_later n (Ready (Some x)) mid new zs has_ended later (rest, first, given) = (rest, first, to_first mid new rest has_ended (later rest given))
  first_later n (Ready None) mid new zs has_ended later (none, over, last) = (none, ap (λ m. m.first) last, ap (λ m. m.second) last)
  first_later n Pending mid new zs has_ended later given = to_first mid new zs has_ended (later zs given)

  second_later : (n : ℕ) (r : Poll (Option X)) (mid new : Merge A B) (zs : List X) (has_ended : Bool) → Goes n mid has_ended new → After r mid (Gives Polled n mid) zs has_ended new
      → Later second_polls second_cancels polls cancels r mid.second mid.first zs has_ended new.second new.first
  second_later n (Ready (Some x)) mid new zs has_ended later (rest, first, given) = (rest, first, to_second mid new rest has_ended (later rest given))
  second_later n (Ready None) mid new zs has_ended later (none, over, last) = (none, ap (λ m. m.second) last, ap (λ m. m.first) last)
  second_later n Pending mid new zs has_ended later given = to_second mid new zs has_ended (later zs given)

  by_turn : (due : Bool) (n : ℕ) (r : Poll (Option X)) (old mid new : Merge A B) (c d : C) (zs : List X) (has_ended : Bool) → ByTurn polls cancels second_polls second_cancels due old c r mid d → Goes n mid has_ended new
      → After r mid (Gives Polled n mid) zs has_ended new → Merged old zs has_ended new
  by_turn true n r old mid new c d zs has_ended (turn, both) later after =
      from_second old new zs has_ended (polled_both second_polls second_cancels polls cancels old.second mid.second new.second old.first mid.first new.first c d r zs has_ended both (second_later n r mid new zs has_ended later after))
  by_turn false n r old mid new c d zs has_ended (turn, both) later after =
      from_first old new zs has_ended (polled_both polls cancels second_polls second_cancels old.first mid.first new.first old.second mid.second new.second c d r zs has_ended both (first_later n r mid new zs has_ended later after))

  pub merges : (n : ℕ) (old : Merge A B) (zs : List X) (has_ended : Bool) (new : Merge A B) → Gives Polled n old zs has_ended new → Merged old zs has_ended new
  merges zero old zs has_ended new (none, not_over, last) = record {
    xs = [];
    ys = [];
    first = subst (λ m. SideGives polls old.first [] m.first) (sym last) (as_it_was polls cancels old.first);
    second = subst (λ m. SideGives second_polls old.second [] m.second) (sym last) (as_it_was second_polls second_cancels old.second);
    are = subst (λ l. Interleaves [] [] l) (sym none) (refl, refl);
    ends = λ e. unended (sym not_over ∙ e);
  }
  merges (suc n) old zs has_ended new (r, mid, polled, after) = by_turn old.is_second_due n r old mid new polled.before polled.after zs has_ended polled.polled (λ ys. merges n mid ys has_ended new) after

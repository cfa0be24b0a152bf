-- The ends of waits after a session left the queue of a key.
use Rattle.std.proofs.Common.{◌≡◌, ◌≤◌, ◌+◌, ℕ, Bool, true, false, not, nat_eq, nat_lt, ◌&&◌, ◌==◌, if◌then◌else◌, cond, List, [], ◌∷◌, ◌++◌, length, Option, Some, None, is_some, refl, sym, ap, subst, ◌∙◌, arith, append-nil}
use Rattle.std.specs.Prelude.{⊤}
use Rattle.std.specs.List.{AllByRecursion, IsDistinct}
use Rattle.std.specs.Map.{keys_of, lookup, remove_entry}
use Rattle.std.proofs.lemmas.List.Elements.{filter-append}
use Rattle.mono_session.specs.Links.{pair_eq}
use Rattle.lease_core.specs.declared.ends.Waiter.{Waiter}
use Rattle.lease_core.specs.declared.places.Place.{Place}
use Rattle.lease_core.specs.declared.requests.Outcome.{Outcome}
use Rattle.lease_core.specs.declared.requests.Outcome.TheVariants as outcome
use Rattle.lease_core.specs.declared.requests.Reply.{Reply}
use Rattle.lease_core.specs.Waits.{left_end, end_reply, ended, still}
use Rattle.lease_core.specs.Places.{Entry, waiter_of, waiters, descends, is_of, is_held, place_reply, in_order}
use Rattle.lease_core.proofs.PlaceLemmas.{both, ended_more, descends_more, length_waiters}

-- ---- tests that one key passes

-- At most one key of the table passes.
abbrev pub Single : (ℕ × ℕ → Bool) → List Entry → Type 0
Single p [] = ⊤
Single p (e ∷ es) = (p e.0 ≡ true → lookup p es ≡ None) × Single p es

none_passes : (p : ℕ × ℕ → Bool) (es : List Entry) → AllByRecursion (λ k. p k ≡ false) (keys_of es) → lookup p es ≡ None
none_passes p [] none = refl
none_passes p (e ∷ es) none = rw none.0 (none_passes p es none.1)

none_else : (key s : ℕ) (x : ℕ × ℕ) (es : List Entry) → is_of key s x ≡ true → AllByRecursion (λ k. pair_eq x k ≡ false) (keys_of es) → lookup (is_of key s) es ≡ None
none_else key s x es is none =
    let parts = both (nat_eq key x.0) (nat_eq s x.1) is in
    let first : x.0 ≡ key = grind (arith, parts.0) in
    let second : x.1 ≡ s = grind (arith, parts.1) in
    subst (λ n. lookup (is_of n s) es ≡ None) first (subst (λ n. lookup (is_of x.0 n) es ≡ None) second (none_passes (pair_eq x) es none))

pub one_of : (key s : ℕ) (es : List Entry) → IsDistinct pair_eq (keys_of es) → Single (is_of key s) es
unfolding IsDistinct
one_of key s [] distinct = tt
one_of key s (e ∷ es) distinct = (λ is. none_else key s e.0 es is distinct.0, one_of key s es distinct.1)

none_of : (es : List Entry) → Single (λ k. false) es
none_of [] = tt
none_of (e ∷ es) = (λ is. cc is, none_of es)

pub one_held : (key : ℕ) (holder : Option ℕ) (es : List Entry) → IsDistinct pair_eq (keys_of es) → Single (is_held key holder) es
one_held key None es distinct = none_of es
one_held key (Some s) es distinct = one_of key s es distinct

absent : (p : ℕ × ℕ → Bool) (es : List Entry) → lookup p es ≡ None → remove_entry p es ≡ es
absent p [] none = refl
absent p (e ∷ es) none = (elim (p e.0) as (λ b. p e.0 ≡ b → remove_entry p (e ∷ es) ≡ e ∷ es) [
  | true ↦ λ t. let none' = rw t at none in cc none'
  | false ↦ λ t. rw t (ap (λ l. e ∷ l) (absent p es (rw t at none)))
]) refl

still_absent : (p q : ℕ × ℕ → Bool) (es : List Entry) → lookup q es ≡ None → lookup q (remove_entry p es) ≡ None
still_absent p q [] none = refl
still_absent p q (e ∷ es) none = (elim (q e.0) as (λ b. q e.0 ≡ b → lookup q (remove_entry p (e ∷ es)) ≡ None) [
  | true ↦ λ t. let none' = rw t at none in cc none'
  | false ↦ λ t. (elim (p e.0) as (λ b. p e.0 ≡ b → lookup q (remove_entry p (e ∷ es)) ≡ None) [
    | true ↦ λ u. rw u (rw t at none)
    | false ↦ λ u. rw (u, t) (still_absent p q es (rw t at none))
  ]) refl
]) refl

-- A wait that was found came before the ticket.
below : (p : ℕ × ℕ → Bool) (n : ℕ) (es : List Entry) (place : Place) → descends n es ≡ true → lookup p es ≡ Some place → nat_lt place.ticket n ≡ true
below p n [] place order found = cc found
below p n (e ∷ es) place order found =
    let parts = both (nat_lt e.1.ticket n) (descends e.1.ticket es) order in
    (elim (p e.0) as (λ b. p e.0 ≡ b → nat_lt place.ticket n ≡ true) [
      | true ↦ λ t.
          let found' = rw t at found in
          let same : e.1 ≡ place = cc found' in
          subst (λ (x : Place). nat_lt x.ticket n ≡ true) same parts.0
      | false ↦ λ t.
          let less = below p e.1.ticket es place parts.1 (rw t at found) in
          grind (arith, less, parts.0)
    ]) refl

-- ---- the replies in the order in which the waits came

abbrev pub pick : Outcome → Bool → Bool → Option Outcome
pick own true q = Some own
pick own false true = Some outcome.Held
pick own false false = None

left_last : (tick : ℕ) (own : Outcome) (e : Entry) (held : Option Place) → ((h : Place) → held ≡ Some h → nat_lt h.ticket e.1.ticket ≡ true)
    → in_order tick own None held ++ end_reply tick (waiter_of e) (Some own) ≡ in_order tick own (Some e.1) held
left_last tick own e None lt = refl
left_last tick own e (Some h) lt = let less = lt h refl in rw less refl

held_last : (tick : ℕ) (own : Outcome) (e : Entry) (left : Option Place) → ((l : Place) → left ≡ Some l → nat_lt l.ticket e.1.ticket ≡ true)
    → in_order tick own left None ++ end_reply tick (waiter_of e) (Some outcome.Held) ≡ in_order tick own left (Some e.1)
held_last tick own e None lt = refl
held_last tick own e (Some l) lt =
    let less = lt l refl in
    let not_less : nat_lt e.1.ticket l.ticket ≡ false = grind (arith, less) in
    rw not_less refl

module _ (p q : ℕ × ℕ → Bool) (f : Waiter → Option Outcome) (own : Outcome) (picks : (e : Entry) → f (waiter_of e) ≡ pick own (p e.0) (q e.0)) (tick : ℕ) where
  told_more : (e : Entry) (es : List Entry) (told : List Reply) (end : Option Outcome) → ended f tick (waiters es) ≡ told → f (waiter_of e) ≡ end → ended f tick (waiters (e ∷ es)) ≡ told ++ end_reply tick (waiter_of e) end
  told_more e es told end on is =
      ended_more f tick (waiters es) (waiter_of e) ∙ ap (λ rs. rs ++ end_reply tick (waiter_of e) (f (waiter_of e))) on ∙ ap (λ o. told ++ end_reply tick (waiter_of e) o) is

  -- The replies of the waits that end.
  pub left_told : (n : ℕ) (es : List Entry) → Single p es → Single q es → descends n es ≡ true → ended f tick (waiters es) ≡ in_order tick own (lookup p es) (lookup q (remove_entry p es))
  left_told n [] one_p one_q order = refl
  left_told n (e ∷ es) one_p one_q order =
      let parts = both (nat_lt e.1.ticket n) (descends e.1.ticket es) order in
      let on = left_told e.1.ticket es one_p.1 one_q.1 parts.1 in
      (elim (p e.0) as (λ b. p e.0 ≡ b → ended f tick (waiters (e ∷ es)) ≡ in_order tick own (lookup p (e ∷ es)) (lookup q (remove_entry p (e ∷ es)))) [
        | true ↦ λ t.
            let none = one_p.0 t in
            let end : f (waiter_of e) ≡ Some own = picks e ∙ ap (λ b. pick own b (q e.0)) t in
            let only : ended f tick (waiters es) ≡ in_order tick own None (lookup q es) = on ∙ ap (λ o. in_order tick own o (lookup q (remove_entry p es))) none ∙ ap (λ l. in_order tick own None (lookup q l)) (absent p es none) in
            let all = told_more e es _ _ only end ∙ left_last tick own e (lookup q es) (λ h found. below q e.1.ticket es h parts.1 found) in
            all ∙ sym (ap (λ b. in_order tick own (cond b (Some e.1) (lookup p es)) (lookup q (cond b es (e ∷ remove_entry p es)))) t)
        | false ↦ λ t. (elim (q e.0) as (λ b. q e.0 ≡ b → ended f tick (waiters (e ∷ es)) ≡ in_order tick own (lookup p (e ∷ es)) (lookup q (remove_entry p (e ∷ es)))) [
          | true ↦ λ u.
              let none = still_absent p q es (one_q.0 u) in
              let end : f (waiter_of e) ≡ Some outcome.Held = picks e ∙ ap (λ b. pick own b (q e.0)) t ∙ ap (pick own false) u in
              let only : ended f tick (waiters es) ≡ in_order tick own (lookup p es) None = on ∙ ap (λ o. in_order tick own (lookup p es) o) none in
              let all = told_more e es _ _ only end ∙ held_last tick own e (lookup p es) (λ l found. below p e.1.ticket es l parts.1 found) in
              all ∙ sym (ap (λ b. in_order tick own (cond b (Some e.1) (lookup p es)) (lookup q (cond b es (e ∷ remove_entry p es)))) t ∙ ap (λ b. in_order tick own (lookup p es) (cond b (Some e.1) (lookup q (remove_entry p es)))) u)
          | false ↦ λ u.
              let end : f (waiter_of e) ≡ None = picks e ∙ ap (λ b. pick own b (q e.0)) t ∙ ap (pick own false) u in
              let all = told_more e es _ _ on end ∙ append-nil _ in
              all ∙ sym (ap (λ b. in_order tick own (cond b (Some e.1) (lookup p es)) (lookup q (cond b es (e ∷ remove_entry p es)))) t ∙ ap (λ b. in_order tick own (lookup p es) (cond b (Some e.1) (lookup q (remove_entry p es)))) u)
        ]) refl
      ]) refl

  goes : Waiter → Bool
  goes w = not (is_some (f w))

  kept_more : (e : Entry) (es left : List Entry) (b : Bool) → waiters left ≡ still f (waiters es) → goes (waiter_of e) ≡ b → waiters left ++ cond b (waiter_of e ∷ []) [] ≡ still f (waiters (e ∷ es))
  unfolding goes
  kept_more e es left b on is = ap (λ ws. ws ++ cond b (waiter_of e ∷ []) []) on ∙ sym (filter-append (λ w. not (is_some (f w))) (waiters es) (waiter_of e ∷ []) ∙ ap (λ x. still f (waiters es) ++ cond x (waiter_of e ∷ []) []) is)

  -- The waits that go on.
  pub left_kept : (es : List Entry) → Single p es → Single q es → waiters (remove_entry q (remove_entry p es)) ≡ still f (waiters es)
  unfolding goes
  left_kept [] one_p one_q = refl
  left_kept (e ∷ es) one_p one_q =
      let on = left_kept es one_p.1 one_q.1 in
      (elim (p e.0) as (λ b. p e.0 ≡ b → waiters (remove_entry q (remove_entry p (e ∷ es))) ≡ still f (waiters (e ∷ es))) [
        | true ↦ λ t.
            let none = one_p.0 t in
            let ends : goes (waiter_of e) ≡ false = ap (λ o. not (is_some o)) (picks e ∙ ap (λ b. pick own b (q e.0)) t) in
            let only : waiters (remove_entry q es) ≡ still f (waiters es) = ap (λ l. waiters (remove_entry q l)) (sym (absent p es none)) ∙ on in
            rw t (sym (append-nil (waiters (remove_entry q es))) ∙ kept_more e es (remove_entry q es) false only ends)
        | false ↦ λ t. (elim (q e.0) as (λ b. q e.0 ≡ b → waiters (remove_entry q (remove_entry p (e ∷ es))) ≡ still f (waiters (e ∷ es))) [
          | true ↦ λ u.
              let none = still_absent p q es (one_q.0 u) in
              let ends : goes (waiter_of e) ≡ false = ap (λ o. not (is_some o)) (picks e ∙ ap (λ b. pick own b (q e.0)) t ∙ ap (pick own false) u) in
              let only : waiters (remove_entry p es) ≡ still f (waiters es) = ap waiters (sym (absent q (remove_entry p es) none)) ∙ on in
              rw (t, u) (sym (append-nil (waiters (remove_entry p es))) ∙ kept_more e es (remove_entry p es) false only ends)
          | false ↦ λ u.
              let stays : goes (waiter_of e) ≡ true = ap (λ o. not (is_some o)) (picks e ∙ ap (λ b. pick own b (q e.0)) t ∙ ap (pick own false) u) in
              rw (t, u) (kept_more e es (remove_entry q (remove_entry p es)) true on stays)
        ]) refl
      ]) refl

-- ---- the tests of a key that was left

swapped : (a b : ℕ) → (a == b) ≡ nat_eq b a
swapped a b = grind arith

picked : (own : Outcome) (a b h : Bool) → (if not a then None else if b then Some own else if h then Some outcome.Held else None) ≡ pick own (a && b) (a && h)
picked own true true h = refl
picked own true false true = refl
picked own true false false = refl
picked own false b h = refl

picked_none : (own : Outcome) (a b : Bool) → (if not a then None else if b then Some own else None) ≡ pick own (a && b) false
picked_none own true true = refl
picked_none own true false = refl
picked_none own false b = refl

left_picks : (s : ℕ) (own : Outcome) (key : ℕ) (holder : Option ℕ) (e : Entry) → left_end s own key holder (waiter_of e) ≡ pick own (is_of key s e.0) (is_held key holder e.0)
left_picks s own key None e = rw (swapped e.0.0 key, swapped e.0.1 s) (picked_none own (nat_eq key e.0.0) (nat_eq s e.0.1))
left_picks s own key (Some h) e = rw (swapped e.0.0 key, swapped e.0.1 s) (picked own (nat_eq key e.0.0) (nat_eq s e.0.1) (nat_eq h e.0.1))

-- ---- lengths

pub length_removed : (p : ℕ × ℕ → Bool) (tick : ℕ) (told : Outcome) (es : List Entry) → length (remove_entry p es) + length (place_reply tick told (lookup p es)) ≡ length es
length_removed p tick told [] = refl
length_removed p tick told (e ∷ es) = (elim (p e.0) as (λ b. p e.0 ≡ b → length (remove_entry p (e ∷ es)) + length (place_reply tick told (lookup p (e ∷ es))) ≡ length (e ∷ es)) [
  | true ↦ λ t. rw t (omega arith)
  | false ↦ λ t. rw t (omega (arith, length_removed p tick told es))
]) refl

pub order_removed : (p : ℕ × ℕ → Bool) (n : ℕ) (es : List Entry) → descends n es ≡ true → descends n (remove_entry p es) ≡ true
order_removed p n [] order = refl
order_removed p n (e ∷ es) order =
    let parts = both (nat_lt e.1.ticket n) (descends e.1.ticket es) order in
    (elim (p e.0) as (λ b. p e.0 ≡ b → descends n (remove_entry p (e ∷ es)) ≡ true) [
      | true ↦ λ t. rw t (descends_more e.1.ticket n es (grind (arith, parts.0)) parts.1)
      | false ↦ λ t. rw (t, parts.0) (order_removed p e.1.ticket es parts.1)
    ]) refl

never : (key : ℕ) (es : List Entry) → (None ≡ lookup (is_held key None) es) × (es ≡ remove_entry (is_held key None) es)
never key [] = (refl, refl)
never key (e ∷ es) = let on = never key es in (on.0, ap (λ l. e ∷ l) on.1)

pub none_held : (key : ℕ) (holder : Option ℕ) (es : List Entry) → holder ≡ None → (None ≡ lookup (is_held key holder) es) × (es ≡ remove_entry (is_held key holder) es)
none_held key holder es none = rw none (never key es)

-- ---- a session left the queue of a key

pub left_answers : (s : ℕ) (own : Outcome) (key : ℕ) (holder : Option ℕ) (tick n : ℕ) (es mid : List Entry) (left held : Option Place) (out replies : List Reply) → IsDistinct pair_eq (keys_of es) → descends n es ≡ true
    → left ≡ lookup (is_of key s) es → mid ≡ remove_entry (is_of key s) es → held ≡ lookup (is_held key holder) mid → replies ≡ out ++ in_order tick own left held
    → replies ≡ out ++ ended (left_end s own key holder) tick (waiters es)
left_answers s own key holder tick n es mid left held out replies distinct order left_is mid_is held_is told =
    let p = is_of key s in
    let q = is_held key holder in
    told ∙ ap (λ o. out ++ in_order tick own o held) left_is ∙ ap (λ o. out ++ in_order tick own (lookup p es) o) (held_is ∙ ap (lookup q) mid_is)
    ∙ ap (λ rs. out ++ rs) (sym (left_told p q (left_end s own key holder) own (left_picks s own key holder) tick n es (one_of key s es distinct) (one_held key holder es distinct) order))

pub left_keeps : (s : ℕ) (own : Outcome) (key : ℕ) (holder : Option ℕ) (es mid new : List Entry) → IsDistinct pair_eq (keys_of es) → mid ≡ remove_entry (is_of key s) es → new ≡ remove_entry (is_held key holder) mid
    → waiters new ≡ still (left_end s own key holder) (waiters es)
left_keeps s own key holder es mid new distinct mid_is new_is =
    let p = is_of key s in
    let q = is_held key holder in
    ap waiters (new_is ∙ ap (remove_entry q) mid_is)
    ∙ left_kept p q (left_end s own key holder) own (left_picks s own key holder) 0 es (one_of key s es distinct) (one_held key holder es distinct)

-- There is room for the replies.
pub left_fits : (p q : ℕ × ℕ → Bool) (tick : ℕ) (own : Outcome) (n cap : ℕ) (es mid : List Entry) (left held : Option Place) → left ≡ lookup p es → mid ≡ remove_entry p es → held ≡ lookup q mid → n + length (waiters es) ≤ cap
    → n + length (place_reply tick own left) + length (place_reply tick outcome.Held held) ≤ cap
left_fits p q tick own n cap es mid left held left_is mid_is held_is fits =
    let first : length mid + length (place_reply tick own left) ≡ length es = rw (mid_is, left_is) (length_removed p tick own es) in
    let second : length (remove_entry q mid) + length (place_reply tick outcome.Held held) ≡ length mid = rw held_is (length_removed q tick outcome.Held mid) in
    omega (arith, first, second, length_waiters es, fits)

-- Each wait that ended has one reply.
pub left_counts : (p q : ℕ × ℕ → Bool) (tick : ℕ) (own : Outcome) (n m : ℕ) (es mid new : List Entry) (left held : Option Place) → left ≡ lookup p es → mid ≡ remove_entry p es → held ≡ lookup q mid → new ≡ remove_entry q mid
    → m ≡ n + length (place_reply tick own left) + length (place_reply tick outcome.Held held) → m + length (waiters new) ≡ n + length (waiters es)
left_counts p q tick own n m es mid new left held left_is mid_is held_is new_is told =
    let first : length mid + length (place_reply tick own left) ≡ length es = rw (mid_is, left_is) (length_removed p tick own es) in
    let second : length new + length (place_reply tick outcome.Held held) ≡ length mid = rw (new_is, held_is) (length_removed q tick outcome.Held mid) in
    omega (arith, first, second, length_waiters es, length_waiters new, told)

pub left_shrinks : (p q : ℕ × ℕ → Bool) (es mid new : List Entry) → mid ≡ remove_entry p es → new ≡ remove_entry q mid → length (waiters new) ≤ length (waiters es)
left_shrinks p q es mid new mid_is new_is =
    let first : length mid ≤ length es = rw mid_is (omega (arith, length_removed p 0 outcome.Left es)) in
    let second : length new ≤ length mid = rw new_is (omega (arith, length_removed q 0 outcome.Left mid)) in
    omega (arith, first, second, length_waiters es, length_waiters new)

-- The clock of a wheel goes on.
use Rattle.std.proofs.Common.{arith, ◌≡◌, ◌≢◌, ℕ, ◌+◌, ◌*◌, ◌^◌, ◌/◌, ◌<◌, ◌≤◌, inl, inr, length, true, false, nat_le, List, [], ◌∷◌, map, Option, Some, None, set, ap, refl, sym, ◌∙◌, subst, length-set}
use Rattle.std.proofs.lemmas.Bool.Decides.{leb_tells, eqb_tells}
use Rattle.mono_wheel.specs.Start.{far_digit, slot_of, start, top_level, slot_count, pending_list, taken_list}
use Rattle.mono_wheel.specs.Lists.{Lists, IsIn, with_list, list_at, is_node}
use Rattle.mono_wheel.specs.Model.{Timed, Wheel, Precedes, StandsBehind, Fits, timed_at, moved, timed_after}
use Rattle.mono_wheel.specs.Holdings.{place_of, place_in, timed_of, timed_in, StandsIn, Held, Cascading, Cascaded, anew, IsNextSlot, Advanced}
use Rattle.mono_wheel.specs.declared.entry.Entry.{Entry}
use Rattle.mono_wheel.proofs.StartLemmas.{start-above, start-le, start-apart, level-same}
use Rattle.mono_wheel.proofs.PlaceLemmas.{place_of-below, place_in-below, place-ahead, place-level}
use Rattle.mono_wheel.proofs.HoldingLemmas.{list-same, list-other}
use Rattle.mono_wheel.proofs.DueLemmas.{stands-pending}
use Rattle.mono_wheel.proofs.SearchLemmas.{stands-timed, ahead-in}
use Rattle.mono_wheel.proofs.RankLemmas.{start-place, place-start}
use Rattle.mono_wheel.specs.Counts.{Moves}

-- while the clock has not come to the start of its slot a tick stays in it
pub place-same : (elapsed later tick : ℕ) → elapsed < tick → elapsed ≤ later → later < start top_level elapsed tick → place_in later tick ≡ place_in elapsed tick
place-same elapsed later tick b l h =
    let s : start top_level elapsed tick ≤ tick = start-le top_level elapsed tick b in
    let k : far_digit top_level later tick ≡ far_digit top_level elapsed tick = level-same top_level elapsed later tick b l h in
    place-ahead later tick (λ e. omega (arith, s, h, e)) ∙ ap (λ z. z * 64 + slot_of z tick) k ∙ sym (place-ahead elapsed tick (λ e. omega (arith, b, e)))

pub no-slots : (elapsed : ℕ) (entries : List Entry) → ((key : ℕ) → (timed : Timed) → timed_in entries key ≡ Some timed → timed.tick ≢ elapsed) → (fits : (key : ℕ) → Fits elapsed (timed_in entries key)) →
    (key : ℕ) (timed : Timed) → timed_in entries key ≡ Some timed → (elapsed < timed.registered) × (timed.registered ≤ timed.tick)
no-slots elapsed entries none fits key timed is = ahead (subst (Fits elapsed) is (fits key))
  where
    ahead : Fits elapsed (Some timed) → (elapsed < timed.registered) × (timed.registered ≤ timed.tick)
    ahead (inl h) = absurd (none key timed is h.1)
    ahead (inr h) = h

le-yes : (a b : ℕ) → a ≤ b → nat_le a b ≡ true
le-yes a b h = elim (leb_tells a b) [ inl t ↦ t.0 | inr t ↦ absurd (let l = t.1 in omega (arith, l, h)) ]

le-not : (a b : ℕ) → b < a → nat_le a b ≡ false
le-not a b h = elim (leb_tells a b) [ inl t ↦ absurd (let l = t.1 in omega (arith, l, h)) | inr t ↦ t.0 ]

pub moved-stays : (old new : ℕ) (timed : Timed) → new < start top_level old timed.registered → moved old new timed ≡ timed
moved-stays old new timed h = rw (le-not (start top_level old timed.registered) new h) refl

pub moved-anew : (old new : ℕ) (timed : Timed) → start top_level old timed.registered ≤ new → moved old new timed ≡ record { tick = timed.tick; registered = timed.tick }
moved-anew old new timed h = rw (le-yes (start top_level old timed.registered) new h) refl

empty-of : (xs : List ℕ) → ((k : ℕ) → IsIn k xs → ⊥) → xs ≡ []
empty-of [] h = refl
empty-of (x ∷ xs) h = absurd (h x (inl refl))

pub taken-empty : (elapsed : ℕ) (entries : List Entry) (links : Lists) → Held elapsed entries links → list_at links taken_list ≡ []
taken-empty elapsed entries links h = empty-of (list_at links taken_list) (λ k i.
    let t = stands-timed elapsed taken_list (timed_in entries k) (h.within k taken_list i) in
    let b = place_in-below elapsed t.0.registered in let e = t.2 in omega (arith, b, e))

pub pending-empty : (elapsed : ℕ) (entries : List Entry) (links : Lists) → Held elapsed entries links → ((key : ℕ) (timed : Timed) → timed_in entries key ≡ Some timed → timed.tick ≢ elapsed) → list_at links pending_list ≡ []
pending-empty elapsed entries links h none = empty-of (list_at links pending_list) (λ k i.
    let t = stands-pending elapsed (timed_in entries k) (h.within k pending_list i) (h.fits k) in none k t.0 t.1 t.2)

-- Nothing is pending, and the clock goes on to a tick before the start of each slot that has a key.
module _ (elapsed later : ℕ) (entries : List Entry) (links : Lists) (h : Held elapsed entries links) (le : elapsed ≤ later)
    (none : (key : ℕ) (timed : Timed) → timed_in entries key ≡ Some timed → timed.tick ≢ elapsed)
    (before : (key : ℕ) (timed : Timed) → timed_in entries key ≡ Some timed → elapsed < timed.registered → later < start top_level elapsed timed.registered) where
  ahead : (key : ℕ) (timed : Timed) → timed_in entries key ≡ Some timed → (elapsed < timed.registered) × (timed.registered ≤ timed.tick)
  ahead = no-slots elapsed entries none h.fits

  same : (key : ℕ) (timed : Timed) → timed_in entries key ≡ Some timed → place_in later timed.registered ≡ place_in elapsed timed.registered
  same key timed is = let a = (ahead key timed is).0 in place-same elapsed later timed.registered a le (before key timed is a)

  stands-still : (key l : ℕ) (o : Option Timed) → timed_in entries key ≡ o → StandsIn elapsed l o → StandsIn later l o
  stands-still key l None is s = s
  stands-still key l (Some timed) is s = s ∙ sym (same key timed is)

  stands-back : (key l : ℕ) (o : Option Timed) → timed_in entries key ≡ o → StandsIn later l o → StandsIn elapsed l o
  stands-back key l None is s = s
  stands-back key l (Some timed) is s = s ∙ same key timed is

  fits-still : (key : ℕ) (o : Option Timed) → timed_in entries key ≡ o → Fits later o
  fits-still key None is = tt
  fits-still key (Some timed) is =
      let a = (ahead key timed is).0 in let b = (ahead key timed is).1 in
      let s = start-le top_level elapsed timed.registered a in let l = before key timed is a in
      inr (omega (arith, s, l), b)

  pub later-held : Held later entries links
  later-held = record {
    lists = h.lists;
    within = λ k l i. stands-still k l (timed_in entries k) refl (h.within k l i);
    found = λ k l s. h.found k l (stands-back k l (timed_in entries k) refl s);
    fits = λ k. fits-still k (timed_in entries k) refl;
    room = h.room;
  }

  after-same : (key : ℕ) (o : Option Timed) → timed_in entries key ≡ o → o ≡ timed_after elapsed later o
  after-same key None is = refl
  after-same key (Some timed) is = ap Some (sym (moved-stays elapsed later timed (before key timed is (ahead key timed is).0)))

  pub later-advanced : {moves : Moves} (v : Wheel) → (let w : Wheel = record { elapsed = elapsed; entries = map timed_of entries; reserved = links.nodes; lines = links.lists; moves = moves } in w ≡ v) →
      Advanced v (record { elapsed = later; entries = map timed_of entries; reserved = links.nodes; lines = links.lists; moves = moves })
  later-advanced {moves} v seen = subst (λ u. Advanced u (record { elapsed = later; entries = map timed_of entries; reserved = links.nodes; lines = links.lists; moves = moves })) seen (record {
    fits = h.fits;
    later = le;
    ticks = λ k. after-same k (timed_in entries k) refl;
    order = λ a b p. record { line = p.line; behind = p.behind; same = p.same };
    reserved = refl;
  })

  pub later-passed : {moves : Moves} (v : Wheel) → (let w : Wheel = record { elapsed = elapsed; entries = map timed_of entries; reserved = links.nodes; lines = links.lists; moves = moves } in w ≡ v) →
      (key : ℕ) (timed : Timed) → timed_at v key ≡ Some timed → later < timed.tick
  later-passed v seen = subst (λ u. (key : ℕ) (timed : Timed) → timed_at u key ≡ Some timed → later < timed.tick) seen (λ key timed is.
      let a = (ahead key timed is).0 in let b = (ahead key timed is).1 in
      let s = start-le top_level elapsed timed.registered a in let l = before key timed is a in
      omega (arith, b, s, l))

-- Nothing is pending, and the clock comes to the first start of a slot that has a key, whose list is taken.
module _ (elapsed begin list : ℕ) (entries : List Entry) (links taken : Lists) (h : Held elapsed entries links) (slot : IsNextSlot elapsed entries list begin)
    (none : (key : ℕ) (timed : Timed) → timed_in entries key ≡ Some timed → timed.tick ≢ elapsed)
    (take : taken ≡ with_list (with_list links list []) taken_list (list_at links list)) where
  pub begin-above : elapsed < begin
  begin-above = let a = start-above top_level elapsed slot.timed.registered in let e = slot.begins in omega (arith, a, e)

  pub list-below : list < slot_count
  list-below = let b = place_of-below elapsed slot.timed.registered in let e = slot.place in omega (arith, b, e)

  pub list-apart : list ≢ taken_list
  list-apart e = let b = list-below in omega (arith, b, e)

  ticks : (key : ℕ) (timed : Timed) → timed_in entries key ≡ Some timed → (elapsed < timed.registered) × (timed.registered ≤ timed.tick)
  ticks = no-slots elapsed entries none h.fits

  pub at_taken : list_at taken taken_list ≡ list_at links list
  at_taken = ap (λ w. list_at w taken_list) take ∙ list-same (with_list links list []) taken_list (list_at links list) (let n = h.lists in let e : length (set links.lists list []) ≡ length links.lists = length-set links.lists list [] in omega (arith, n, e))

  at_list : list_at taken list ≡ []
  at_list = ap (λ w. list_at w list) take ∙ list-other (with_list links list []) taken_list list (list_at links list) list-apart ∙ list-same links list [] (let n = h.lists in let b = list-below in omega (arith, n, b))

  at_other : (l : ℕ) → l ≢ taken_list → l ≢ list → list_at taken l ≡ list_at links l
  at_other l ne nl = ap (λ w. list_at w l) take ∙ list-other (with_list links list []) taken_list l (list_at links list) ne ∙ list-other links list l [] nl

  -- the slot of a key is this one, or starts later
  pub in-slot : (key : ℕ) (timed : Timed) → timed_in entries key ≡ Some timed → place_of elapsed timed.registered ≡ list → start top_level elapsed timed.registered ≡ begin
  in-slot key timed is e = place-start elapsed timed.registered slot.timed.registered (e ∙ slot.place) ∙ sym slot.begins

  pub not-slot : (key : ℕ) (timed : Timed) → timed_in entries key ≡ Some timed → place_of elapsed timed.registered ≢ list → begin < start top_level elapsed timed.registered
  not-slot key timed is ne =
      let a = (ticks key timed is).0 in
      let l = slot.least key timed is a in
      let apart : start top_level elapsed timed.registered ≢ begin = λ e. ne (start-place elapsed timed.registered slot.timed.registered a slot.ahead (e ∙ slot.begins) ∙ sym slot.place) in
      omega (arith, l, apart)

  pub slot-in : (key : ℕ) (timed : Timed) → timed_in entries key ≡ Some timed → place_of elapsed timed.registered ≡ list → IsIn key (list_at links list)
  slot-in key timed is e = subst (λ l. IsIn key (list_at links l)) e (ahead-in elapsed entries links key timed h is (ticks key timed is).0)

  pub in-place : (key l : ℕ) (timed : Timed) → timed_in entries key ≡ Some timed → IsIn key (list_at links l) → place_of elapsed timed.registered ≡ l
  in-place key l timed is i =
      let s : l ≡ place_in elapsed timed.registered = subst (StandsIn elapsed l) is (h.within key l i) in
      sym (s ∙ place-ahead elapsed timed.registered (λ e. let a = (ticks key timed is).0 in omega (arith, a, e)))

  -- another slot starts at least the length of this one after it
  pub past-slot : (key : ℕ) (timed : Timed) → timed_in entries key ≡ Some timed → place_of elapsed timed.registered ≢ list → begin + 64 ^ (list / 64) ≤ start top_level elapsed timed.registered
  past-slot key timed is ne =
      let later = not-slot key timed is ne in
      let begins = slot.begins in
      let level : list / 64 ≡ far_digit top_level elapsed slot.timed.registered = ap (λ z. z / 64) slot.place ∙ place-level elapsed slot.timed.registered in
      let apart = start-apart top_level elapsed slot.timed.registered timed.registered slot.ahead (ticks key timed is).0 (omega (arith, begins, later)) in
      let width : 64 ^ (list / 64) ≡ 64 ^ far_digit top_level elapsed slot.timed.registered = ap (λ z. 64 ^ z) level in
      omega (arith, begins, apart, width)

  -- a key of the slot is not due before the slot starts
  pub slot-waits : (key : ℕ) (timed : Timed) → timed_in entries key ≡ Some timed → IsIn key (list_at links list) → begin ≤ timed.tick
  slot-waits key timed is i =
      let a = (ticks key timed is).0 in let b = (ticks key timed is).1 in
      let s = start-le top_level elapsed timed.registered a in
      let e = in-slot key timed is (in-place key list timed is i) in
      omega (arith, b, s, e)

  -- The clock goes on to a tick before the start of each other slot that has a key, and not after the tick of a key of this one.
  module _ (to : ℕ) (le : begin ≤ to)
      (clear : (key : ℕ) (timed : Timed) → timed_in entries key ≡ Some timed → place_of elapsed timed.registered ≢ list → to < start top_level elapsed timed.registered)
      (waits : (key : ℕ) (timed : Timed) → timed_in entries key ≡ Some timed → IsIn key (list_at links list) → to ≤ timed.tick) where
    place-still : (key : ℕ) (timed : Timed) → timed_in entries key ≡ Some timed → place_of elapsed timed.registered ≢ list → place_in to timed.registered ≡ place_in elapsed timed.registered
    place-still key timed is ne = let a = begin-above in place-same elapsed to timed.registered (ticks key timed is).0 (omega (arith, a, le)) (clear key timed is ne)

    within-taken : (key l : ℕ) (o : Option Timed) → timed_in entries key ≡ o → l ≢ taken_list → IsIn key (list_at taken l) → StandsIn to l o
    within-taken key l None is ne i = elim (eqb_tells l list) [
      | inl e ↦ subst (λ zs. IsIn key zs) (ap (list_at taken) e.1 ∙ at_list) i
      | inr e ↦ subst (StandsIn elapsed l) is (h.within key l (subst (λ zs. IsIn key zs) (at_other l ne e.1) i))
    ]
    within-taken key l (Some timed) is ne i = elim (eqb_tells l list) [
      | inl e ↦ absurd (subst (λ zs. IsIn key zs) (ap (list_at taken) e.1 ∙ at_list) i)
      | inr e ↦
          let old = subst (λ zs. IsIn key zs) (at_other l ne e.1) i in
          let s : l ≡ place_in elapsed timed.registered = subst (StandsIn elapsed l) is (h.within key l old) in
          s ∙ sym (place-still key timed is (λ f. e.1 (sym (in-place key l timed is old) ∙ f)))
    ]

    found-taken : (key l : ℕ) (o : Option Timed) → timed_in entries key ≡ o → (IsIn key (list_at taken taken_list) → ⊥) → StandsIn to l o → IsIn key (list_at taken l)
    found-taken key l None is out s = absurd s
    found-taken key l (Some timed) is out s =
        let ne : place_of elapsed timed.registered ≢ list = λ e. out (subst (λ zs. IsIn key zs) (sym at_taken) (slot-in key timed is e)) in
        let old : l ≡ place_in elapsed timed.registered = s ∙ place-still key timed is ne in
        let i : IsIn key (list_at links l) = h.found key l (subst (StandsIn elapsed l) (sym is) old) in
        let nl : l ≢ list = λ e. ne (in-place key l timed is i ∙ e) in
        let b = place_in-below elapsed timed.registered in
        subst (λ zs. IsIn key zs) (sym (at_other l (λ e. omega (arith, b, old, e)) nl)) i

    fits-taken : (key : ℕ) (o : Option Timed) → timed_in entries key ≡ o → (IsIn key (list_at taken taken_list) → ⊥) → Fits to o
    fits-taken key None is out = tt
    fits-taken key (Some timed) is out =
        let ne : place_of elapsed timed.registered ≢ list = λ e. out (subst (λ zs. IsIn key zs) (sym at_taken) (slot-in key timed is e)) in
        let a = (ticks key timed is).0 in
        let s = start-le top_level elapsed timed.registered a in
        let l = clear key timed is ne in
        inr (omega (arith, s, l), (ticks key timed is).1)

    waits-taken : (key : ℕ) (o : Option Timed) → timed_in entries key ≡ o → IsIn key (list_at links list) → (timed : Timed) × (o ≡ Some timed) × (to ≤ timed.tick)
    waits-taken key None is i = absurd (subst (StandsIn elapsed list) is (h.within key list i))
    waits-taken key (Some timed) is i = (timed, refl, waits key timed is i)

    pub slot-cascading : Cascading to entries taken
    slot-cascading = record {
      lists = ap (λ w. length w.lists) take ∙ length-set (set links.lists list []) taken_list (list_at links list) ∙ length-set links.lists list [] ∙ h.lists;
      within = λ k l ne i. within-taken k l (timed_in entries k) refl ne i;
      found = λ k l out s. found-taken k l (timed_in entries k) refl out s;
      fits = λ k out. fits-taken k (timed_in entries k) refl out;
      waits = λ k i. waits-taken k (timed_in entries k) refl (subst (λ zs. IsIn k zs) at_taken i);
      room = λ k n. h.room k (subst (λ w. is_node w k ≡ true) take n);
    }

    module _ (entries2 : List Entry) (links2 : Lists) (h2 : Held to entries2 links2) (d : Cascaded entries entries2 taken links2) where
      gone : (k : ℕ) → IsIn k (list_at links2 taken_list) → ⊥
      gone k i = subst (λ zs. IsIn k zs) (taken-empty to entries2 links2 h2) i

      pub ticks-after : (key : ℕ) (o : Option Timed) → timed_in entries key ≡ o → timed_in entries2 key ≡ timed_after elapsed to o
      ticks-after key None is = d.others key (λ i. subst (StandsIn elapsed list) is (h.within key list (subst (λ zs. IsIn key zs) at_taken i))) ∙ is
      ticks-after key (Some timed) is = elim (eqb_tells (place_of elapsed timed.registered) list) [
        | inl e ↦
            let now = in-slot key timed is e.1 in
            d.done key (subst (λ zs. IsIn key zs) (sym at_taken) (slot-in key timed is e.1)) (gone key) ∙ ap anew is ∙ ap Some (sym (moved-anew elapsed to timed (omega (arith, now, le))))
        | inr e ↦
            d.others key (λ i. e.1 (in-place key list timed is (subst (λ zs. IsIn key zs) at_taken i))) ∙ is ∙ ap Some (sym (moved-stays elapsed to timed (clear key timed is e.1)))
      ]

      behind-after : (a b line : ℕ) → StandsBehind (list_at links line) a b → timed_in entries a ≡ timed_in entries b → (l : ℕ) × StandsBehind (list_at links2 l) a b
      behind-after a b line s same =
          let cascaded : (l : ℕ) → StandsBehind (list_at taken l) a b → (m : ℕ) × StandsBehind (list_at links2 m) a b =
          λ l t. elim (d.order a b l t same) [ inl u ↦ u | inr u ↦ absurd (gone b u.2) ] in
          elim (eqb_tells line list) [
            | inl e ↦ cascaded taken_list (subst (λ zs. StandsBehind zs a b) (sym at_taken) (subst (λ z. StandsBehind (list_at links z) a b) e.1 s))
            | inr e ↦ elim (eqb_tells line taken_list) [
              | inl f ↦ absurd (subst (λ zs. StandsBehind zs a b) (ap (list_at links) f.1 ∙ taken-empty elapsed entries links h) s)
              | inr f ↦ cascaded line (subst (λ zs. StandsBehind zs a b) (sym (at_other line f.1 e.1)) s)
            ]
          ]

      precedes-after : {moves : Moves} (a b line : ℕ) → StandsBehind (list_at links line) a b → timed_in entries a ≡ timed_in entries b →
          (let w : Wheel = record { elapsed = to; entries = map timed_of entries2; reserved = links2.nodes; lines = links2.lists; moves = moves } in Precedes w a b)
      precedes-after a b line s same =
          let t = behind-after a b line s same in
          record {
            line = t.0;
            behind = t.1;
            same = ticks-after a (timed_in entries a) refl ∙ ap (timed_after elapsed to) same ∙ sym (ticks-after b (timed_in entries b) refl);
          }

      pub slot-advanced : {moves moves2 : Moves} (v : Wheel) → (let w : Wheel = record { elapsed = elapsed; entries = map timed_of entries; reserved = links.nodes; lines = links.lists; moves = moves } in w ≡ v) →
          Advanced v (record { elapsed = to; entries = map timed_of entries2; reserved = links2.nodes; lines = links2.lists; moves = moves2 })
      slot-advanced {moves} {moves2} v seen = subst (λ u. Advanced u (record { elapsed = to; entries = map timed_of entries2; reserved = links2.nodes; lines = links2.lists; moves = moves2 })) seen (record {
        fits = h.fits;
        later = let a = begin-above in omega (arith, a, le);
        ticks = λ k. ticks-after k (timed_in entries k) refl;
        order = λ a b p. precedes-after a b p.line p.behind p.same;
        reserved = d.nodes ∙ ap (λ w. w.nodes) take;
      })

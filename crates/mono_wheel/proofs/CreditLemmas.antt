-- How the credit falls while keys are taken from slots.
use Rattle.std.proofs.Common.{arith, ◌≡◌, ◌≢◌, zero, suc, ℕ, ◌+◌, ◌-◌, ◌<◌, ◌≤◌, ◌⊎◌, inl, inr, length, Bool, true, false, ◌==◌, nat_lt, if◌then◌else◌, List, [], ◌∷◌, ◌++◌, map, Option, Some, None, get_or, set, ap, refl, sym, ◌∙◌, subst, eq-eqb, get_or-set_other}
use Rattle.std.proofs.lemmas.Bool.Decides.{eqb_tells}
use Rattle.std.proofs.lemmas.List.{map-set, length-map}
use Rattle.mono_wheel.specs.Start.{start, takes_from, top_level, pending_list, taken_list}
use Rattle.mono_wheel.specs.Lists.{Lists, IsIn, with_list, list_at}
use Rattle.mono_wheel.specs.Rings.{Distinct}
use Rattle.mono_wheel.specs.Model.{Timed, Wheel, Fits, AllFit, Extended, timed_at, timed_after}
use Rattle.mono_wheel.specs.Credit.{takes, credit_of, credit, most_takes, reset_raise, CreditFollows}
use Rattle.mono_wheel.specs.Skips.{at_tick}
use Rattle.mono_wheel.specs.Holdings.{place_of, timed_of, timed_in, StandsIn, Held, IsNextSlot, Cascaded}
use Rattle.mono_wheel.specs.declared.entry.Entry.{Entry}
use Rattle.mono_wheel.proofs.KeyLemmas.{none_of, timed-here}
use Rattle.mono_wheel.proofs.DueLemmas.{due-stands, due-below, stands-pending}
use Rattle.mono_wheel.proofs.RingLemmas.{false-true}
use Rattle.mono_wheel.proofs.StartLemmas.{start-le, start-same, takes-once, takes-bound, takes-later, eqb-no, ltb_tells}
use Rattle.mono_wheel.proofs.AdvanceLemmas.{no-slots, moved-stays, moved-anew, ticks-after, in-slot, slot-in, in-place, begin-above}
use Rattle.mono_wheel.specs.Counts.{Moves, no_moves}

-- one key has other ticks
pub credit-set : (elapsed key : ℕ) (os : List (Option Timed)) (o : Option Timed) → key < length os → credit_of elapsed (set os key o) + takes elapsed (get_or os key None) ≡ credit_of elapsed os + takes elapsed o
credit-set elapsed key [] o b = absurd (omega (arith, b))
credit-set elapsed zero (x ∷ os) o b = omega arith
credit-set elapsed (suc key) (x ∷ os) o b = let r = credit-set elapsed key os o (omega (arith, b)) in omega (arith, r)

bit : Bool → ℕ
bit true = 1
bit false = 0

count : (Option Timed → Bool) → List (Option Timed) → ℕ
count p [] = 0
count p (o ∷ os) = bit (p o) + count p os

bool-cases : (b : Bool) → (b ≡ true) ⊎ (b ≡ false)
bool-cases true = inl refl
bool-cases false = inr refl

count-none : (p : Option Timed → Bool) (os : List (Option Timed)) → ((k : ℕ) → p (get_or os k None) ≡ false) → count p os ≡ 0
unfolding count bit
count-none p [] h = refl
count-none p (o ∷ os) h = let r : count p os ≡ 0 = count-none p os (λ k. h (suc k)) in let f : bit (p o) ≡ 0 = ap bit (h 0) in omega (arith, r, f)

count-set : (p : Option Timed → Bool) (os : List (Option Timed)) (x : ℕ) → p None ≡ false → p (get_or os x None) ≡ true → count p os ≡ suc (count p (set os x None))
unfolding count bit
count-set p [] x none some = absurd (false-true (sym none ∙ some))
count-set p (o ∷ os) zero none some = let a : bit (p o) ≡ 1 = ap bit some in let b : bit (p None) ≡ 0 = ap bit none in omega (arith, a, b)
count-set p (o ∷ os) (suc x) none some = let r = count-set p os x none some in omega (arith, r)

set-none : (os : List (Option Timed)) (x : ℕ) → get_or (set os x None) x None ≡ None
set-none [] x = refl
set-none (o ∷ os) zero = refl
set-none (o ∷ os) (suc x) = set-none os x

-- The count of keys with a property that exactly the keys of a list have.
count-list : (p : Option Timed → Bool) (xs : List ℕ) (os : List (Option Timed)) → p None ≡ false → Distinct xs → ((k : ℕ) → IsIn k xs → p (get_or os k None) ≡ true) → ((k : ℕ) → p (get_or os k None) ≡ true → IsIn k xs) → count p os ≡ length xs
count-list p [] os none d into back = count-none p os (λ k. elim (bool-cases (p (get_or os k None))) [ inl t ↦ absurd (back k t) | inr f ↦ f ])
count-list p (x ∷ xs) os none d into back =
    count-set p os x none (into x (inl refl))
    ∙ ap suc (count-list p xs (set os x None) none d.1
    (λ k i. let ne : k ≢ x = λ e. d.0 (subst (λ z. IsIn z xs) e i) in ap p (get_or-set_other os x k None None ne) ∙ into k (inr i))
    (λ k t. elim (eqb_tells k x) [
      | inl e ↦ absurd (false-true (sym none ∙ ap p (sym (set-none os x) ∙ ap (λ z. get_or (set os x None) z None) (sym e.1)) ∙ t))
      | inr e ↦ elim (back k (ap p (sym (get_or-set_other os x k None None e.1)) ∙ t)) [ inl f ↦ absurd (e.1 f) | inr i ↦ i ]
    ]))

credit-fall : (e s : ℕ) (p : Option Timed → Bool) (os ps : List (Option Timed)) → p None ≡ false → ((k : ℕ) → takes e (get_or os k None) ≡ takes s (get_or ps k None) + bit (p (get_or os k None))) →
    credit_of e os ≡ credit_of s ps + count p os
unfolding count bit
credit-fall e s p [] [] none h = refl
credit-fall e s p [] (y ∷ ps) none h = let a : 0 ≡ takes s y + bit (p None) = h 0 in let r = credit-fall e s p [] ps none (λ k. h (suc k)) in omega (arith, a, r)
credit-fall e s p (x ∷ os) [] none h = let a : takes e x ≡ 0 + bit (p x) = h 0 in let r = credit-fall e s p os [] none (λ k. h (suc k)) in omega (arith, a, r)
credit-fall e s p (x ∷ os) (y ∷ ps) none h = let a : takes e x ≡ takes s y + bit (p x) = h 0 in let r = credit-fall e s p os ps none (λ k. h (suc k)) in omega (arith, a, r)

credit-even : (e s : ℕ) (os ps : List (Option Timed)) → ((k : ℕ) → takes e (get_or os k None) ≡ takes s (get_or ps k None)) → credit_of e os ≡ credit_of s ps
credit-even e s [] [] h = refl
credit-even e s [] (y ∷ ps) h = let a : 0 ≡ takes s y = h 0 in let r = credit-even e s [] ps (λ k. h (suc k)) in omega (arith, a, r)
credit-even e s (x ∷ os) [] h = let a : takes e x ≡ 0 = h 0 in let r = credit-even e s os [] (λ k. h (suc k)) in omega (arith, a, r)
credit-even e s (x ∷ os) (y ∷ ps) h = let a : takes e x ≡ takes s y = h 0 in let r = credit-even e s os ps (λ k. h (suc k)) in omega (arith, a, r)

suc-apart : (k x : ℕ) → k ≢ x → suc k ≢ suc x
suc-apart k x ne e = ne (omega (arith, e))

-- one key alone makes the difference
credit-one : (e s x b d : ℕ) (os ps : List (Option Timed)) → ((k : ℕ) → k ≢ x → takes e (get_or os k None) ≡ takes s (get_or ps k None)) → takes e (get_or os x None) + b ≡ takes s (get_or ps x None) + d →
    credit_of e os + b ≡ credit_of s ps + d
credit-one e s x b d [] [] h t = t
credit-one e s zero b d [] (y ∷ ps) h t = let a : 0 + b ≡ takes s y + d = t in let r = credit-even e s [] ps (λ k. h (suc k) (omega arith)) in omega (arith, a, r)
credit-one e s zero b d (x ∷ os) [] h t = let a : takes e x + b ≡ 0 + d = t in let r = credit-even e s os [] (λ k. h (suc k) (omega arith)) in omega (arith, a, r)
credit-one e s zero b d (x ∷ os) (y ∷ ps) h t = let a : takes e x + b ≡ takes s y + d = t in let r = credit-even e s os ps (λ k. h (suc k) (omega arith)) in omega (arith, a, r)
credit-one e s (suc z) b d [] (y ∷ ps) h t = let a : 0 ≡ takes s y = h 0 (omega arith) in let r = credit-one e s z b d [] ps (λ k ne. h (suc k) (suc-apart k z ne)) t in omega (arith, a, r)
credit-one e s (suc z) b d (x ∷ os) [] h t = let a : takes e x ≡ 0 = h 0 (omega arith) in let r = credit-one e s z b d os [] (λ k ne. h (suc k) (suc-apart k z ne)) t in omega (arith, a, r)
credit-one e s (suc z) b d (x ∷ os) (y ∷ ps) h t = let a : takes e x ≡ takes s y = h 0 (omega arith) in let r = credit-one e s z b d os ps (λ k ne. h (suc k) (suc-apart k z ne)) t in omega (arith, a, r)

pub takes-ahead : (e : ℕ) (timed : Timed) → e < timed.tick → takes e (Some timed) ≡ takes_from (timed.tick - e) top_level e timed.registered timed.tick
takes-ahead e timed b = rw (eqb-no timed.tick e (λ f. omega (arith, b, f))) refl

pub takes-now : (e : ℕ) (timed : Timed) → timed.tick ≡ e → takes e (Some timed) ≡ 0
takes-now e timed f = rw (eq-eqb timed.tick e f) refl

-- an entry that is taken, and one that is not
pub takes-taken : (e s : ℕ) (timed : Timed) → e < timed.registered → timed.registered ≤ timed.tick → start top_level e timed.registered ≡ s → takes e (Some timed) ≡ takes s (Some record { tick = timed.tick; registered = timed.tick }) + 1
takes-taken e s timed a b is =
    let le : start top_level e timed.registered ≤ timed.registered = start-le top_level e timed.registered a in
    takes-ahead e timed (omega (arith, a, b)) ∙ takes-once top_level e timed.registered timed.tick a b
    ∙ ap (λ z. if nat_lt z timed.tick then suc (takes_from (timed.tick - z) top_level z timed.tick timed.tick) else 1) is
    ∙ elim (ltb_tells s timed.tick) [
      | inl h ↦ let f = takes-ahead s record { tick = timed.tick; registered = timed.tick } h.1 in rw h.0 (omega (arith, f))
      | inr h ↦ let f = takes-now s record { tick = timed.tick; registered = timed.tick } (let g = h.1 in omega (arith, g, le, is, b)) in rw h.0 (omega (arith, f))
    ]

pub takes-still : (e s : ℕ) (timed : Timed) → e < timed.registered → timed.registered ≤ timed.tick → e ≤ s → s < start top_level e timed.registered → takes e (Some timed) ≡ takes s (Some timed)
takes-still e s timed a b l h =
    let le : start top_level e timed.registered ≤ timed.registered = start-le top_level e timed.registered a in
    let ahead : s < timed.registered = omega (arith, le, h) in
    takes-ahead e timed (omega (arith, a, b)) ∙ takes-once top_level e timed.registered timed.tick a b
    ∙ ap (λ z. if nat_lt z timed.tick then suc (takes_from (timed.tick - z) top_level z timed.tick timed.tick) else 1) (sym (start-same top_level e s timed.registered a l h))
    ∙ sym (takes-ahead s timed (omega (arith, ahead, b)) ∙ takes-once top_level s timed.registered timed.tick ahead b)

abbrev is_placed : ℕ → ℕ → Option Timed → Bool
is_placed elapsed list None = false
is_placed elapsed list (Some timed) = place_of elapsed timed.registered == list

-- the clock goes on before the start of each slot that has a key
pub credit-later : (elapsed later : ℕ) (entries : List Entry) → elapsed ≤ later → ((key : ℕ) → Fits elapsed (timed_in entries key)) →
    ((key : ℕ) (timed : Timed) → timed_in entries key ≡ Some timed → timed.tick ≢ elapsed) →
    ((key : ℕ) (timed : Timed) → timed_in entries key ≡ Some timed → elapsed < timed.registered → later < start top_level elapsed timed.registered) →
    credit_of elapsed (map timed_of entries) ≡ credit_of later (map timed_of entries)
unfolding bit
credit-later elapsed later entries le fits none before =
    credit-fall elapsed later (λ o. false) (map timed_of entries) (map timed_of entries) refl (λ k. still k (timed_in entries k) refl) ∙ zero-more
  where
    still : (k : ℕ) (o : Option Timed) → timed_in entries k ≡ o → takes elapsed o ≡ takes later o + 0
    still k None is = refl
    still k (Some timed) is =
        let t = no-slots elapsed entries none fits k timed is in
        let f = takes-still elapsed later timed t.0 t.1 le (before k timed is t.0) in
        omega (arith, f)

    zero-more : credit_of later (map timed_of entries) + count (λ o. false) (map timed_of entries) ≡ credit_of later (map timed_of entries)
    zero-more = let r = count-none (λ o. false) (map timed_of entries) (λ k. refl) in omega (arith, r)

-- The clock comes to the first start of a slot that has a key, whose list is taken, or goes on within that slot.
module _ (elapsed begin list : ℕ) (entries : List Entry) (links taken : Lists) (h : Held elapsed entries links) (slot : IsNextSlot elapsed entries list begin)
    (none : (key : ℕ) (timed : Timed) → timed_in entries key ≡ Some timed → timed.tick ≢ elapsed)
    (take : taken ≡ with_list (with_list links list []) taken_list (list_at links list))
    (to : ℕ) (le : begin ≤ to)
    (clear : (key : ℕ) (timed : Timed) → timed_in entries key ≡ Some timed → place_of elapsed timed.registered ≢ list → to < start top_level elapsed timed.registered)
    (waits : (key : ℕ) (timed : Timed) → timed_in entries key ≡ Some timed → IsIn key (list_at links list) → to ≤ timed.tick)
    (entries2 : List Entry) (links2 : Lists) (h2 : Held to entries2 links2) (d : Cascaded entries entries2 taken links2) (distinct : Distinct (list_at links list)) where
  placed : (k : ℕ) (o : Option Timed) → timed_in entries k ≡ o → is_placed elapsed list o ≡ true → IsIn k (list_at links list)
  placed k None is t = absurd (false-true t)
  placed k (Some timed) is t = slot-in elapsed begin list entries links taken h slot none take k timed is (elim (eqb_tells (place_of elapsed timed.registered) list) [
    | inl e ↦ e.1
    | inr e ↦ absurd (false-true (sym e.0 ∙ t))
  ])

  is-placed : (k : ℕ) (o : Option Timed) → timed_in entries k ≡ o → IsIn k (list_at links list) → is_placed elapsed list o ≡ true
  is-placed k None is i = absurd (subst (λ o. StandsIn elapsed list o) is (h.within k list i))
  is-placed k (Some timed) is i = eq-eqb (place_of elapsed timed.registered) list (in-place elapsed begin list entries links taken h slot none take k list timed is i)

  after : (k : ℕ) → timed_in entries2 k ≡ timed_after elapsed to (timed_in entries k)
  after k = ticks-after elapsed begin list entries links taken h slot none take to le clear waits entries2 links2 h2 d k (timed_in entries k) refl

  -- a key of the slot is taken from it
  fall-here : (k : ℕ) (timed : Timed) → timed_in entries k ≡ Some timed → place_of elapsed timed.registered ≡ list → takes elapsed (Some timed) ≡ takes begin (at_tick timed.tick) + 1
  fall-here k timed is e =
      let t = no-slots elapsed entries none h.fits k timed is in
      takes-taken elapsed begin timed t.0 t.1 (in-slot elapsed begin list entries links taken h slot none take k timed is e)

  then-here : (k : ℕ) (timed : Timed) → timed_in entries k ≡ Some timed → place_of elapsed timed.registered ≡ list → timed_after elapsed to (Some timed) ≡ at_tick timed.tick
  then-here k timed is e =
      let now = in-slot elapsed begin list entries links taken h slot none take k timed is e in
      ap Some (moved-anew elapsed to timed (omega (arith, now, le)))

  -- a key of another slot stays
  fall-there : (k : ℕ) (timed : Timed) → timed_in entries k ≡ Some timed → place_of elapsed timed.registered ≢ list → takes elapsed (Some timed) ≡ takes to (timed_after elapsed to (Some timed))
  fall-there k timed is ne =
      let t = no-slots elapsed entries none h.fits k timed is in
      let up = begin-above elapsed begin list entries links taken h slot none take in
      takes-still elapsed to timed t.0 t.1 (omega (arith, up, le)) (clear k timed is ne)
      ∙ ap (λ z. takes to (Some z)) (sym (moved-stays elapsed to timed (clear k timed is ne)))

  fall : begin ≡ to → (k : ℕ) (o : Option Timed) → timed_in entries k ≡ o → takes elapsed o ≡ takes to (timed_after elapsed to o) + bit (is_placed elapsed list o)
  unfolding bit
  fall here k None is = refl
  fall here k (Some timed) is =
      elim (eqb_tells (place_of elapsed timed.registered) list) [
        | inl e ↦
            fall-here k timed is e.1 ∙ ap (λ z. takes z (at_tick timed.tick) + 1) here ∙ ap (λ z. takes to z + 1) (sym (then-here k timed is e.1))
            ∙ ap (λ b. takes to (timed_after elapsed to (Some timed)) + bit b) (sym e.0)
        | inr e ↦
            let f = fall-there k timed is e.1 in
            let z : takes elapsed (Some timed) ≡ takes to (timed_after elapsed to (Some timed)) + 0 = omega (arith, f) in
            z ∙ ap (λ b. takes to (timed_after elapsed to (Some timed)) + bit b) (sym e.0)
      ]

  -- at the slot's start each of its keys is taken once
  pub credit-slot : begin ≡ to → credit_of elapsed (map timed_of entries) ≡ credit_of to (map timed_of entries2) + length (list_at links list)
  credit-slot here =
      credit-fall elapsed to (is_placed elapsed list) (map timed_of entries) (map timed_of entries2) refl
      (λ k. fall here k (timed_in entries k) refl ∙ ap (λ o. takes to o + bit (is_placed elapsed list (timed_in entries k))) (sym (after k)))
      ∙ ap (λ z. credit_of to (map timed_of entries2) + z)
      (count-list (is_placed elapsed list) (list_at links list) (map timed_of entries) refl distinct (λ k i. is-placed k (timed_in entries k) refl i) (λ k t. placed k (timed_in entries k) refl t))

  -- a key alone in its slot is taken from it, and as often as it would be on the way to that tick
  pub credit-alone : (key : ℕ) (timed : Timed) (steps count : ℕ) → list_at links list ≡ key ∷ [] → timed_in entries key ≡ Some timed →
      count + takes to (at_tick timed.tick) ≡ steps + takes begin (at_tick timed.tick) →
      credit_of elapsed (map timed_of entries) + steps ≡ credit_of to (map timed_of entries2) + (count + 1)
  credit-alone key timed steps count alone is counted =
      credit-one elapsed to key steps (count + 1) (map timed_of entries) (map timed_of entries2)
      (λ k ne. others k (timed_in entries k) refl ne ∙ ap (takes to) (sym (after k))) here
    where
      here : takes elapsed (timed_in entries key) + steps ≡ takes to (timed_in entries2 key) + (count + 1)
      here =
          let e : place_of elapsed timed.registered ≡ list = in-place elapsed begin list entries links taken h slot none take key list timed is (subst (λ zs. IsIn key zs) (sym alone) (inl refl)) in
          let was : takes elapsed (timed_in entries key) ≡ takes begin (at_tick timed.tick) + 1 = ap (takes elapsed) is ∙ fall-here key timed is e in
          let now : takes to (timed_in entries2 key) ≡ takes to (at_tick timed.tick) = ap (takes to) (after key ∙ ap (timed_after elapsed to) is ∙ then-here key timed is e) in
          omega (arith, was, now, counted)

      others : (k : ℕ) (o : Option Timed) → timed_in entries k ≡ o → k ≢ key → takes elapsed o ≡ takes to (timed_after elapsed to o)
      others k None is_k ne = refl
      others k (Some other) is_k ne = fall-there k other is_k (λ e. elim (subst (λ zs. IsIn k zs) alone (slot-in elapsed begin list entries links taken h slot none take k other is_k e)) [
        | inl f ↦ ne f
        | inr i ↦ i
      ])

-- a pending key is no longer taken from a slot
pub due-credit : (elapsed : ℕ) (entries : List Entry) (links : Lists) (key : ℕ) (front : List ℕ) (x : Entry) → Held elapsed entries links → list_at links pending_list ≡ front ++ key ∷ [] → x.tick ≡ 0 →
    credit_of elapsed (map timed_of (set entries key x)) ≡ credit_of elapsed (map timed_of entries)
due-credit elapsed entries links key front x h is out =
    let stands = due-stands elapsed entries links key front h is in
    let below : key < length (map timed_of entries) = let b = due-below elapsed entries links key front h is in let n = length-map entries timed_of in omega (arith, b, n) in
    let pending = stands-pending elapsed (timed_in entries key) stands (h.fits key) in
    let zero_here : takes elapsed (timed_in entries key) ≡ 0 = ap (takes elapsed) pending.1 ∙ takes-now elapsed pending.0 pending.2 in
    let gone : timed_of x ≡ None = none_of x out in
    let zero_then : takes elapsed (timed_of x) ≡ 0 = ap (takes elapsed) gone in
    let r = credit-set elapsed key (map timed_of entries) (timed_of x) below in
    ap (credit_of elapsed) (map-set timed_of entries key x) ∙ omega (arith, r, zero_here, zero_then)

-- an entry was written
pub credit-entry : {moves : Moves} (elapsed : ℕ) (entries : List Entry) (nodes nodes2 : List Bool) (lines lines2 : List (List ℕ)) (v : Wheel) (key : ℕ) (x : Entry) →
    (let w : Wheel = record { elapsed = elapsed; entries = map timed_of entries; reserved = nodes; lines = lines; moves = moves } in w ≡ v) → key < length entries →
    CreditFollows v (record { elapsed = elapsed; entries = map timed_of (set entries key x); reserved = nodes2; lines = lines2; moves = no_moves }) key
credit-entry {moves} elapsed entries nodes nodes2 lines lines2 v key x seen low =
    let below : key < length (map timed_of entries) = let n = length-map entries timed_of in omega (arith, low, n) in
    let r = credit-set elapsed key (map timed_of entries) (timed_of x) below in
    let here = ap (takes elapsed) (timed-here entries key x low) in
    let wrote = ap (credit_of elapsed) (map-set timed_of entries key x) in
    subst (λ u. CreditFollows u (record { elapsed = elapsed; entries = map timed_of (set entries key x); reserved = nodes2; lines = lines2; moves = no_moves }) key) seen (omega (arith, r, here, wrote))

-- ---- the raise of the credit by each call
credit-none : (e : ℕ) (os : List (Option Timed)) → ((k : ℕ) → get_or os k None ≡ None) → credit_of e os ≡ 0
credit-none e [] h = refl
credit-none e (o ∷ os) h = let f : takes e o ≡ 0 = ap (takes e) (h 0) in let r = credit-none e os (λ k. h (suc k)) in omega (arith, f, r)

pub credit-same : (e : ℕ) (os ps : List (Option Timed)) → ((k : ℕ) → get_or os k None ≡ get_or ps k None) → credit_of e os ≡ credit_of e ps
credit-same e [] ps h = sym (credit-none e ps (λ k. sym (h k)))
credit-same e (o ∷ os) [] h = credit-none e (o ∷ os) h
credit-same e (o ∷ os) (p ∷ ps) h = let f : takes e o ≡ takes e p = ap (takes e) (h 0) in let r = credit-same e os ps (λ k. h (suc k)) in omega (arith, f, r)

-- a key at its registered tick, and one whose tick was moved
pub takes-new : (e tick : ℕ) → e < tick → takes e (Some record { tick = tick; registered = tick }) ≤ most_takes (tick - e)
takes-new e tick ahead = let f = takes-ahead e record { tick = tick; registered = tick } ahead in let l = takes-bound top_level (tick - e) e tick ahead in omega (arith, f, l)

takes-reset : (e registered tick later : ℕ) → e < registered → registered ≤ tick → tick ≤ later → takes e (Some record { tick = later; registered = registered }) ≤ takes e (Some record { tick = tick; registered = registered }) + most_takes (later - e)
takes-reset e registered tick later a b l =
    let f = takes-ahead e record { tick = later; registered = registered } (omega (arith, a, b, l)) in
    let g = takes-ahead e record { tick = tick; registered = registered } (omega (arith, a, b)) in
    let m = takes-later e registered tick later a b l in
    omega (arith, f, g, m)

pub raise-inserted : (old : Wheel) (after key tick : ℕ) (o : Option Timed) → after + takes old.elapsed (timed_at old key) ≡ credit old + takes old.elapsed o → o ≡ Some record { tick = tick; registered = tick } → old.elapsed < tick →
    after ≤ credit old + most_takes (tick - old.elapsed)
raise-inserted old after key tick o c is ahead =
    let f : takes old.elapsed o ≡ takes old.elapsed (Some record { tick = tick; registered = tick }) = ap (takes old.elapsed) is in
    let l = takes-new old.elapsed tick ahead in
    omega (arith, c, f, l)

pub raise-removed : (old : Wheel) (after key : ℕ) (o : Option Timed) → after + takes old.elapsed (timed_at old key) ≡ credit old + takes old.elapsed o → o ≡ None → after ≤ credit old
raise-removed old after key o c is = let f : takes old.elapsed o ≡ 0 = ap (takes old.elapsed) is in omega (arith, c, f)

pub raise-reset : (old new : Wheel) (key tick : ℕ) (answer : Bool) → AllFit old → Extended old new key tick answer → CreditFollows old new key → credit new ≤ credit old + reset_raise old.elapsed (timed_at old key) tick
raise-reset old new key tick false fits (same, refused) c = let e : credit new ≡ credit old = ap credit same in omega (arith, e)
raise-reset old new key tick true fits (timed, is, ahead, later, changed) c = by (subst (Fits old.elapsed) is (fits key))
  where
    before : takes old.elapsed (timed_at old key) ≡ takes old.elapsed (Some timed)
    before = ap (takes old.elapsed) is

    after : takes old.elapsed (timed_at new key) ≡ takes old.elapsed (Some record { tick = tick; registered = timed.registered })
    after = ap (takes old.elapsed) changed.here

    by : Fits old.elapsed (Some timed) → credit new ≤ credit old + reset_raise old.elapsed (timed_at old key) tick
    by (inl now) = absurd (ahead now.1)
    by (inr fit) = subst (λ o. credit new ≤ credit old + reset_raise old.elapsed o tick) (sym is) (elim (eqb_tells timed.tick tick) [
      | inl e ↦
          let s : takes old.elapsed (Some timed) ≡ takes old.elapsed (Some record { tick = tick; registered = timed.registered }) = ap (λ t. takes old.elapsed (Some record { tick = t; registered = timed.registered })) e.1 in
          rw e.0 (omega (arith, c, before, after, s))
      | inr e ↦ let m = takes-reset old.elapsed timed.registered timed.tick tick fit.0 fit.1 later in rw e.0 (omega (arith, c, before, after, m))
    ])

-- A key that is alone in a slot that starts at its tick is taken once.
pub takes-at-once : (tick : ℕ) → 0 < tick → start top_level 0 tick ≡ tick → takes 0 (Some record { tick = tick; registered = tick }) ≡ 1
takes-at-once tick ahead starts =
    takes-ahead 0 record { tick = tick; registered = tick } ahead ∙ takes-once top_level 0 tick tick ahead (omega arith)
    ∙ elim (ltb_tells (start top_level 0 tick) tick) [
      | inl h ↦ absurd (let l = h.1 in omega (arith, l, starts))
      | inr h ↦ rw h.0 refl
    ]

pub credit-empty : (wheel : Wheel) → ((k : ℕ) → timed_at wheel k ≡ None) → credit wheel ≡ 0
credit-empty wheel none = credit-none wheel.elapsed wheel.entries none

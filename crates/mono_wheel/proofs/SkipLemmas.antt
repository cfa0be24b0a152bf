-- The clock goes on once it came to a slot.
use Rattle.std.proofs.Common.{arith, ◌≡◌, ◌≢◌, ℕ, ◌+◌, ◌/◌, ◌<◌, ◌≤◌, inl, inr, length, List, [], ◌∷◌, ◌++◌, map, Some, None, get_or, ap, refl, sym, ◌∙◌, subst}
use Rattle.mono_wheel.specs.Start.{start, top_level, taken_list}
use Rattle.mono_wheel.specs.Lists.{Lists, IsIn, with_list, list_at}
use Rattle.mono_wheel.specs.Rings.{Distinct}
use Rattle.mono_wheel.specs.Model.{Timed}
use Rattle.mono_wheel.specs.Credit.{takes, credit_of}
use Rattle.mono_wheel.specs.Skips.{at_tick, ComesTo}
use Rattle.mono_wheel.specs.Holdings.{place_of, timed_of, timed_in, Held, Cascading, Cascaded, IsNextSlot}
use Rattle.mono_wheel.specs.declared.entry.Entry.{Entry}
use Rattle.mono_wheel.proofs.KeyLemmas.{entry-in, entry-below}
use Rattle.mono_wheel.proofs.CascadeLemmas.{some-not}
use Rattle.mono_wheel.proofs.AdvanceLemmas.{at_taken, not-slot, past-slot, slot-waits}
use Rattle.mono_wheel.proofs.CreditLemmas.{takes-taken, takes-still, credit-slot, credit-alone}

-- a list whose first node is its last has no other
pub one-alone : (node : ℕ) (nodes rest front : List ℕ) → Distinct nodes → nodes ≡ node ∷ rest → nodes ≡ front ++ node ∷ [] → nodes ≡ node ∷ []
one-alone node nodes rest [] d e f = f
one-alone node nodes rest (x ∷ front) d e f =
    let g : node ∷ rest ≡ x ∷ (front ++ node ∷ []) = sym e ∙ f in
    let r : rest ≡ front ++ node ∷ [] = cc in
    let t : Distinct (node ∷ rest) = subst Distinct e d in
    absurd (t.0 (subst (λ zs. IsIn node zs) (sym r) (last-of front node)))
  where
    last-of : (front : List ℕ) (node : ℕ) → IsIn node (front ++ node ∷ [])
    last-of [] node = inl refl
    last-of (y ∷ ys) node = inr (last-of ys node)

-- the one key that waits has an entry, whose tick is not before the start of the slot
pub waiting-timed : (begin : ℕ) (entries : List Entry) (links : Lists) (key : ℕ) → Cascading begin entries links → list_at links taken_list ≡ key ∷ [] →
    (timed_in entries key ≡ None → ⊥) × ((x : Entry) → x ≡ get_or entries key x → (timed_in entries key ≡ Some record { tick = x.tick; registered = x.registered }) × (begin ≤ x.tick))
waiting-timed begin entries links key s alone =
    let w = s.waits key (subst (λ zs. IsIn key zs) (sym alone) (inl refl)) in
    let some = some-not (timed_in entries key) w.0 w.1 in (
      some,
      λ x e.
          let t = entry-in entries key x (entry-below entries key some) e some in
          let f : Some w.0 ≡ Some record { tick = x.tick; registered = x.registered } = sym w.1 ∙ t in
          let f2 : w.0 ≡ record { tick = x.tick; registered = x.registered } = cc in
          (t, subst (λ z. begin ≤ z.tick) f2 w.2),
    )

-- the clock comes to the next start of a key, which is registered at its true tick, on the way to a tick that is not above that
pub takes-next : (at to tick : ℕ) → at < to → to ≤ tick → start top_level at tick ≤ to → takes at (at_tick tick) ≡ takes (start top_level at tick) (at_tick tick) + 1
takes-next at to tick a b c = takes-taken at (start top_level at tick) record { tick = tick; registered = tick } (omega (arith, a, b)) (omega arith) refl

-- the clock goes on before that start
pub takes-before : (at to tick : ℕ) → at ≤ to → to ≤ tick → to < start top_level at tick → at < tick → takes at (at_tick tick) ≡ takes to (at_tick tick)
takes-before at to tick a b c d = takes-still at to record { tick = tick; registered = tick } d (omega arith) a c

module _ (elapsed begin list : ℕ) (entries : List Entry) (links taken : Lists) (h : Held elapsed entries links) (slot : IsNextSlot elapsed entries list begin)
    (none : (key : ℕ) (timed : Timed) → timed_in entries key ≡ Some timed → timed.tick ≢ elapsed)
    (take : taken ≡ with_list (with_list links list []) taken_list (list_at links list))
    (now before after to : ℕ) where
  pub goes-later : ComesTo begin now (list / 64) entries taken before after to → begin ≤ to
  goes-later (inl e) = let f = e.0 in omega (arith, f)
  goes-later (inr g) = g.later

  pub goes-by : ComesTo begin now (list / 64) entries taken before after to → begin ≤ now → to ≤ now
  goes-by (inl e) b = let f = e.0 in omega (arith, f, b)
  goes-by (inr g) b = g.by

  pub goes-clear : ComesTo begin now (list / 64) entries taken before after to → (key : ℕ) (timed : Timed) → timed_in entries key ≡ Some timed → place_of elapsed timed.registered ≢ list → to < start top_level elapsed timed.registered
  goes-clear (inl e) key timed is ne = let f = e.0 in let l = not-slot elapsed begin list entries links taken h slot none take key timed is ne in omega (arith, f, l)
  goes-clear (inr g) key timed is ne = let w = g.within in let l = past-slot elapsed begin list entries links taken h slot none take key timed is ne in omega (arith, w, l)

  pub goes-waits : ComesTo begin now (list / 64) entries taken before after to → (key : ℕ) (timed : Timed) → timed_in entries key ≡ Some timed → IsIn key (list_at links list) → to ≤ timed.tick
  goes-waits (inl e) key timed is i = let f = e.0 in let l = slot-waits elapsed begin list entries links taken h slot none take key timed is i in omega (arith, f, l)
  goes-waits (inr g) key timed is i =
      elim (subst (λ zs. IsIn key zs) (sym (at_taken elapsed begin list entries links taken h slot none take) ∙ g.alone) i) [
        | inl e ↦
            let s : Some timed ≡ Some g.timed = sym is ∙ ap (timed_in entries) e ∙ g.is in
            let t : timed ≡ g.timed = cc in
            subst (λ t. to ≤ t.tick) (sym t) g.waits
        | inr none_else ↦ absurd none_else
      ]

  pub goes-credit : (c : ComesTo begin now (list / 64) entries taken before after to) (entries2 : List Entry) (links2 : Lists) → Held to entries2 links2 → Cascaded entries entries2 taken links2 → Distinct (list_at links list) →
      after + length (list_at links list) + credit_of to (map timed_of entries2) ≡ before + credit_of elapsed (map timed_of entries)
  goes-credit (inl e) entries2 links2 h2 d distinct =
      let c = inl e in
      let fall = credit-slot elapsed begin list entries links taken h slot none take to (goes-later c) (goes-clear c) (goes-waits c) entries2 links2 h2 d distinct (sym e.0) in
      let same = e.1 in
      omega (arith, fall, same)
  goes-credit (inr g) entries2 links2 h2 d distinct =
      let c = inr g in
      let alone : list_at links list ≡ g.key ∷ [] = sym (at_taken elapsed begin list entries links taken h slot none take) ∙ g.alone in
      let fall = credit-alone elapsed begin list entries links taken h slot none take to (goes-later c) (goes-clear c) (goes-waits c) entries2 links2 h2 d distinct g.key g.timed before after alone g.is g.counted in
      let one : length (list_at links list) ≡ 1 = ap length alone in
      omega (arith, fall, one)

-- A key that is alone in the next slot comes out at its tick at once.
use Rattle.std.proofs.Common.{arith, ◌≡◌, ◌≢◌, ℕ, ◌+◌, ◌^◌, ◌/◌, ◌<◌, ◌≤◌, inl, inr, length, List, [], ◌∷◌, map, Option, Some, None, get_or, set, ap, refl, sym, ◌∙◌, subst}
use Rattle.std.proofs.lemmas.Bool.Decides.{eqb_tells}
use Rattle.mono_wheel.specs.Start.{start, top_level, taken_list}
use Rattle.mono_wheel.specs.Lists.{Lists, IsIn, with_list, without, list_at, no_entry}
use Rattle.mono_wheel.specs.Model.{Timed, Wheel, StandsBehind, CameOut, timed_after}
use Rattle.mono_wheel.specs.Credit.{takes, credit_of}
use Rattle.mono_wheel.specs.Skips.{at_tick}
use Rattle.mono_wheel.specs.Holdings.{place_of, timed_of, timed_in, Held, IsNextSlot}
use Rattle.mono_wheel.specs.declared.entry.Entry.{Entry}
use Rattle.mono_wheel.proofs.StartLemmas.{start-le}
use Rattle.mono_wheel.proofs.KeyLemmas.{none_of, timed-here, timed-other, entry-in, entry-below, read-in}
use Rattle.mono_wheel.proofs.DueLemmas.{stands-one, stands-some}
use Rattle.mono_wheel.proofs.OrderLemmas.{behind-upper}
use Rattle.mono_wheel.proofs.HoldingLemmas.{held-removed, keeps-removed}
use Rattle.mono_wheel.proofs.AdvanceLemmas.{no-slots, moved-stays, in-slot, slot-in, in-place, slot-waits, past-slot, begin-above, list-below, later-held}
use Rattle.mono_wheel.proofs.CreditLemmas.{credit-entry, credit-later, takes-taken, takes-now}
use Rattle.mono_wheel.specs.Counts.{Moves, no_moves}

none-behind : (key other : ℕ) → StandsBehind (key ∷ []) other key → ⊥
none-behind key other (inl h) = h.1
none-behind key other (inr h) = h

is-alone : (k key : ℕ) → IsIn k (key ∷ []) → k ≡ key
is-alone k key (inl e) = e
is-alone k key (inr i) = absurd i

module _ (elapsed begin list key : ℕ) (entries : List Entry) (links new : Lists) (h : Held elapsed entries links) (slot : IsNextSlot elapsed entries list begin)
    (none : (key : ℕ) (timed : Timed) → timed_in entries key ≡ Some timed → timed.tick ≢ elapsed) (alone : list_at links list ≡ key ∷ [])
    (x out : Entry) (read : x ≡ get_or entries key no_entry) (empty : out.tick ≡ 0) where
  inside : IsIn key (list_at links list)
  inside = subst (λ zs. IsIn key zs) (sym alone) (inl refl)

  some : timed_in entries key ≡ None → ⊥
  some = stands-some elapsed list (timed_in entries key) (h.within key list inside)

  pub alone-below : key < length entries
  alone-below = entry-below entries key some

  was : timed_in entries key ≡ Some record { tick = x.tick; registered = x.registered }
  was = entry-in entries key x alone-below (read-in entries key x no_entry alone-below read) some

  ahead : (elapsed < x.registered) × (x.registered ≤ x.tick)
  ahead = no-slots elapsed entries none h.fits key record { tick = x.tick; registered = x.registered } was

  begins : start top_level elapsed x.registered ≡ begin
  begins = in-slot elapsed begin list entries links (with_list (with_list links list []) taken_list (list_at links list)) h slot none refl key record { tick = x.tick; registered = x.registered } was
      (in-place elapsed begin list entries links (with_list (with_list links list []) taken_list (list_at links list)) h slot none refl key list record { tick = x.tick; registered = x.registered } was inside)

  pub alone-waits : begin ≤ x.tick
  alone-waits = slot-waits elapsed begin list entries links (with_list (with_list links list []) taken_list (list_at links list)) h slot none refl key record { tick = x.tick; registered = x.registered } was inside

  up : elapsed < begin
  up = begin-above elapsed begin list entries links (with_list (with_list links list []) taken_list (list_at links list)) h slot none refl

  pub alone-low : list < length links.lists
  alone-low = let b = list-below elapsed begin list entries links (with_list (with_list links list []) taken_list (list_at links list)) h slot none refl in let n = h.lists in omega (arith, b, n)

  module _ (within : x.tick < begin + 64 ^ (list / 64)) where
    far : (k : ℕ) (t : Timed) → k ≢ key → timed_in entries k ≡ Some t → x.tick < start top_level elapsed t.registered
    far k t ne is =
        let other : place_of elapsed t.registered ≢ list = λ e. ne (is-alone k key (subst (λ zs. IsIn k zs) alone (slot-in elapsed begin list entries links (with_list (with_list links list []) taken_list (list_at links list)) h slot none refl k t is e))) in
        let l = past-slot elapsed begin list entries links (with_list (with_list links list []) taken_list (list_at links list)) h slot none refl k t is other in
        omega (arith, within, l)

    left : (k : ℕ) (t : Timed) → timed_in (set entries key out) k ≡ Some t → (k ≢ key) × (timed_in entries k ≡ Some t)
    left k t is = elim (eqb_tells k key) [
      | inl e ↦ absurd (let f : Some t ≡ None = sym is ∙ ap (timed_in (set entries key out)) e.1 ∙ timed-here entries key out alone-below ∙ none_of out empty in cc)
      | inr e ↦ (e.1, sym (timed-other entries key k out e.1) ∙ is)
    ]

    left-none : (k : ℕ) (t : Timed) → timed_in (set entries key out) k ≡ Some t → t.tick ≢ elapsed
    left-none k t is = none k t (left k t is).1

    left-far : (k : ℕ) (t : Timed) → timed_in (set entries key out) k ≡ Some t → elapsed < t.registered → x.tick < start top_level elapsed t.registered
    left-far k t is a = let l = left k t is in far k t l.0 l.1

    later : elapsed ≤ x.tick
    later = let a = up in let b = alone-waits in omega (arith, a, b)

    module _ (is : new ≡ with_list links list (without key (list_at links list))) (gone : IsIn key (list_at new list) → ⊥) where
      held-out : Held elapsed (set entries key out) new
      held-out = held-removed elapsed entries links new key list out h alone-below alone-low (h.within key list inside) is gone empty (λ l s. stands-one elapsed l list (timed_in entries key) s (h.within key list inside))

      pub alone-held : Held x.tick (set entries key out) new
      alone-held = later-held elapsed x.tick (set entries key out) new held-out later left-none left-far

      after : (k : ℕ) → k ≢ key → timed_in (set entries key out) k ≡ timed_after elapsed x.tick (timed_in entries k)
      after k ne = timed-other entries key k out ne ∙ stays (timed_in entries k) refl
        where
          stays : (o : Option Timed) → timed_in entries k ≡ o → o ≡ timed_after elapsed x.tick o
          stays None e = refl
          stays (Some t) e = ap Some (sym (moved-stays elapsed x.tick t (far k t ne e)))

      first : (line other : ℕ) → StandsBehind (list_at links line) other key → ⊥
      first line other b =
          let line_is : line ≡ list = stands-one elapsed line list (timed_in entries key) (h.within key line (behind-upper (list_at links line) other key b)) (h.within key list inside) in
          none-behind key other (subst (λ zs. StandsBehind zs other key) (ap (list_at links) line_is ∙ alone) b)

      least : (other tick : ℕ) (t : Timed) → timed_in entries other ≡ Some t → t.tick ≡ tick → x.tick ≤ tick
      least other tick t there same = elim (eqb_tells other key) [
        | inl e ↦
            let f : Some t ≡ Some record { tick = x.tick; registered = x.registered } = sym there ∙ ap (timed_in entries) e.1 ∙ was in
            let g : t ≡ record { tick = x.tick; registered = x.registered } = cc in
            let k : t.tick ≡ x.tick = ap (λ z. z.tick) g in
            omega (arith, k, same)
        | inr e ↦
            let l = far other t e.1 there in
            let a = no-slots elapsed entries none h.fits other t there in
            let b = a.1 in
            let s = start-le top_level elapsed t.registered a.0 in
            omega (arith, l, b, s, same)
      ]

      pub alone-came : {moves moves2 : Moves} (v : Wheel) (now : ℕ) → (let w : Wheel = record { elapsed = elapsed; entries = map timed_of entries; reserved = links.nodes; lines = links.lists; moves = moves } in w ≡ v) → x.tick ≤ now →
          CameOut v (record { elapsed = x.tick; entries = map timed_of (set entries key out); reserved = new.nodes; lines = new.lists; moves = moves2 }) now key
      alone-came {moves} {moves2} v now seen by = subst (λ u. CameOut u (record { elapsed = x.tick; entries = map timed_of (set entries key out); reserved = new.nodes; lines = new.lists; moves = moves2 }) now key) seen (record {
        due = (record { tick = x.tick; registered = x.registered }, was, refl, by);
        least = λ other tick due. least other tick due.0 due.1 due.2;
        first = λ other p. first p.line other p.behind;
        out = timed-here entries key out alone-below ∙ none_of out empty;
        others = λ other ne. after other ne;
        order = λ a b na nb p. record {
          line = p.line;
          behind = keeps-removed links.lists new.lists list key alone-low (ap (λ w. w.lists) is) a b p.line na nb p.behind;
          same = after a na ∙ ap (timed_after elapsed x.tick) p.same ∙ sym (after b nb);
        };
        reserved = ap (λ w. w.nodes) is;
      })

      pub alone-credit : (count before next : ℕ) → count + takes x.tick (at_tick x.tick) ≡ takes begin (at_tick x.tick) → next ≡ before + count + 1 →
          next + credit_of x.tick (map timed_of (set entries key out)) ≡ before + credit_of elapsed (map timed_of entries)
      alone-credit count before next counted stepped =
          let follows = credit-entry {moves = no_moves} elapsed entries links.nodes links.nodes links.lists links.lists _ key out refl alone-below in
          let here : takes elapsed (timed_in entries key) ≡ takes begin (at_tick x.tick) + 1 = ap (takes elapsed) was ∙ takes-taken elapsed begin record { tick = x.tick; registered = x.registered } ahead.0 ahead.1 begins in
          let then_ : takes elapsed (timed_in (set entries key out) key) ≡ 0 = ap (takes elapsed) (timed-here entries key out alone-below ∙ none_of out empty) in
          let same = credit-later elapsed x.tick (set entries key out) later held-out.fits left-none left-far in
          let now_ = takes-now x.tick record { tick = x.tick; registered = x.tick } refl in
          omega (arith, follows, here, then_, same, now_, counted, stepped)

-- How a move to or from a list counts, and which keys are in the pending list.
use Rattle.std.proofs.Common.{arith, ◌≡◌, ◌≢◌, ℕ, ◌<◌, ◌≤◌, inl, inr, List, map, Some, ap, refl, sym, ◌∙◌, subst, eq-eqb}
use Rattle.std.proofs.lemmas.Bool.Decides.{eqb_tells}
use Rattle.mono_wheel.specs.Start.{slot_count, pending_list}
use Rattle.mono_wheel.specs.Counts.{Moves, slot_move}
use Rattle.mono_wheel.specs.Lists.{Lists}
use Rattle.mono_wheel.specs.Model.{Timed, Wheel, Fits, IsPending}
use Rattle.mono_wheel.specs.Holdings.{place_in, timed_of, timed_in, Held}
use Rattle.mono_wheel.specs.declared.entry.Entry.{Entry}
use Rattle.mono_wheel.proofs.StartLemmas.{eqb-no}
use Rattle.mono_wheel.proofs.PlaceLemmas.{place-pending, place-is_pending}

pub move-slot : (list : ℕ) → list ≢ pending_list → slot_move list ≡ 1
move-slot list ne = rw (eqb-no list pending_list ne) refl

pub move-below : (list : ℕ) → list < slot_count → slot_move list ≡ 1
move-below list low = move-slot list (λ e. omega (arith, low, e))

pub move-pending : (list : ℕ) → list ≡ pending_list → slot_move list ≡ 0
move-pending list e = rw (eq-eqb list pending_list e) refl

pub move-few : (list : ℕ) → slot_move list ≤ 1
move-few list = elim (eqb_tells list pending_list) [ inl h ↦ rw h.0 (omega arith) | inr h ↦ rw h.0 (omega arith) ]

module _ {moves : Moves} (elapsed key list : ℕ) (entries : List Entry) (links : Lists) (v : Wheel) (timed : Timed) (h : Held elapsed entries links)
    (seen : let w : Wheel = record { elapsed = elapsed; entries = map timed_of entries; reserved = links.nodes; lines = links.lists; moves = moves } in w ≡ v)
    (is : timed_in entries key ≡ Some timed) (place : list ≡ place_in elapsed timed.registered) where
  fit : Fits elapsed (Some timed)
  fit = subst (Fits elapsed) is (h.fits key)

  -- a key in the pending list is pending
  pub listed-pending : list ≡ pending_list → IsPending v key
  listed-pending e =
      let here : timed.registered ≡ elapsed = place-is_pending elapsed timed.registered (sym e ∙ place) in
      let due : timed.tick ≡ elapsed = elim fit [ inl t ↦ t.1 | inr t ↦ absurd (let a = t.0 in omega (arith, a, here)) ] in
      subst (λ w. IsPending w key) seen (timed, is, due)

  -- a pending key is in the pending list
  pub pending-listed : IsPending v key → list ≡ pending_list
  pending-listed p =
      let q = subst (λ w. IsPending w key) (sym seen) p in
      let one : Some timed ≡ Some q.0 = sym is ∙ q.1 in
      let same : timed ≡ q.0 = cc in
      let now : timed.tick ≡ elapsed = ap (λ z. z.tick) same ∙ q.2 in
      place ∙ place-pending elapsed timed.registered (elim fit [ inl t ↦ t.0 | inr t ↦ absurd (let a = t.0 in let b = t.1 in omega (arith, a, b, now)) ])

-- The list of a key is one of the wheel's.
use Rattle.std.proofs.Common.{arith, ◌≡◌, ◌≢◌, zero, suc, ℕ, ◌+◌, ◌*◌, ◌/◌, ◌<◌, ◌≤◌, inl, inr, refl}
use Rattle.std.proofs.lemmas.Bool.Decides.{eqb_tells}
use Rattle.std.proofs.Math.Nat.{mod-lt}
use Rattle.mono_wheel.specs.Start.{above, far_digit, slot_of, top_level, slot_count, pending_list, taken_list}
use Rattle.mono_wheel.specs.Holdings.{place_of, place_in}
use Rattle.mono_wheel.proofs.StartLemmas.{eqb-no}

pub far_digit-le : (top elapsed tick : ℕ) → far_digit top elapsed tick ≤ top
far_digit-le zero elapsed tick = omega arith
far_digit-le (suc top) elapsed tick = elim (eqb_tells (above (suc top) elapsed) (above (suc top) tick)) [
  | inl h ↦ let l : far_digit top elapsed tick ≤ top = far_digit-le top elapsed tick in rw h.0 (omega (arith, l))
  | inr h ↦ rw h.0 (omega arith)
]

pub place_of-below : (elapsed tick : ℕ) → place_of elapsed tick < slot_count
place_of-below elapsed tick =
    let a : far_digit top_level elapsed tick ≤ top_level = far_digit-le top_level elapsed tick in
    let b : slot_of (far_digit top_level elapsed tick) tick < 64 = mod-lt (above (far_digit top_level elapsed tick) tick) (omega arith) in
    omega (arith, a, b)

pub place_in-below : (elapsed registered : ℕ) → place_in elapsed registered < taken_list
place_in-below elapsed registered = elim (eqb_tells registered elapsed) [
  | inl h ↦ rw h.0 (omega arith)
  | inr h ↦ let b : place_of elapsed registered < slot_count = place_of-below elapsed registered in rw h.0 (omega (arith, b))
]

pub place-pending : (elapsed registered : ℕ) → registered ≡ elapsed → place_in elapsed registered ≡ pending_list
place-pending elapsed registered e = elim (eqb_tells registered elapsed) [
  | inl h ↦ rw h.0 refl
  | inr h ↦ absurd (h.1 e)
]

pub place-ahead : (elapsed registered : ℕ) → registered ≢ elapsed → place_in elapsed registered ≡ place_of elapsed registered
place-ahead elapsed registered ne = rw (eqb-no registered elapsed ne) refl

pub place-is_pending : (elapsed registered : ℕ) → pending_list ≡ place_in elapsed registered → registered ≡ elapsed
place-is_pending elapsed registered e = elim (eqb_tells registered elapsed) [
  | inl h ↦ h.1
  | inr h ↦ let b : place_of elapsed registered < slot_count = place_of-below elapsed registered in let f : place_in elapsed registered ≡ place_of elapsed registered = place-ahead elapsed registered h.1 in absurd (omega (arith, b, e, f))
]

place-digits : (k s : ℕ) → s < 64 → (k * 64 + s) / 64 ≡ k
place-digits k s b = omega (arith, b)

-- the level of a slot, by the number of its list
pub place-level : (elapsed tick : ℕ) → place_of elapsed tick / 64 ≡ far_digit top_level elapsed tick
place-level elapsed tick = place-digits (far_digit top_level elapsed tick) (slot_of (far_digit top_level elapsed tick) tick) (mod-lt (above (far_digit top_level elapsed tick) tick) (omega arith))

-- The clock goes at once over slots of the top level in which no key is due.
use Rattle.std.proofs.Common.{arith, ◌≡◌, ◌≢◌, zero, suc, ℕ, ◌+◌, ◌-◌, ◌*◌, ◌^◌, ◌/◌, ◌<◌, ◌≤◌, inl, inr, length, List, [], ◌∷◌, map, Option, Some, None, get_or, ap, refl, sym, ◌∙◌, subst, set, get_or-set_same, get_or-set_other, ◌⊎◌}
use Rattle.std.proofs.lemmas.Bool.{cases_lt}
use Rattle.std.proofs.lemmas.List.{get_or_past, length-map}
use Rattle.std.proofs.lemmas.Bool.Decides.{eqb_tells}
use Rattle.std.proofs.Math.Nat.{div-lt_iff_lt-mul}
use Rattle.mono_wheel.specs.Start.{above, next_turn, far_digit, slot_of, start, top_level}
use Rattle.mono_wheel.specs.Lists.{Lists, no_entry}
use Rattle.mono_wheel.specs.Model.{Timed, Wheel, Fits, IsPending, timed_after}
use Rattle.mono_wheel.specs.Credit.{takes, credit_of}
use Rattle.mono_wheel.specs.Skips.{at_tick}
use Rattle.mono_wheel.specs.Holdings.{place_in, timed_of, timed_in, StandsIn, Held, Advanced}
use Rattle.mono_wheel.specs.Leap.{IsFar, IsDueFrom, IsKnown, Known}
use Rattle.mono_wheel.specs.declared.entry.Entry.{Entry}
use Rattle.mono_wheel.proofs.StartLemmas.{div-le_mono, pow-pos, eqb-no, start-above, above-mono, above-start, next_turn-above, next_turn-near, next_turn-whole}
use Rattle.mono_wheel.proofs.PlaceLemmas.{place-ahead}
use Rattle.mono_wheel.proofs.KeyLemmas.{timed-read, timed-here, timed-other, none_of}
use Rattle.mono_wheel.proofs.AdvanceLemmas.{moved-stays, moved-anew}
use Rattle.mono_wheel.proofs.SkipLemmas.{takes-next, takes-before}
use Rattle.mono_wheel.specs.Counts.{Moves, no_moves}

-- ---- how often a key is taken
rounds-one : (a n b w : ℕ) → a < n → n ≤ a + 64 → b ≡ n + 64 * w → (b - a - 1) / 64 ≡ w
rounds-one a n b w l m e = omega (arith, l, m, e)

rounds-less : (a n b w : ℕ) → a < n → n ≤ a + 64 → b ≡ n + 64 * w → n < b → (b - a - 1) / 64 ≡ (b - n - 1) / 64 + 1
rounds-less a n b w l m e h = omega (arith, l, m, e, h)

pub ahead-of : (a b : ℕ) → above top_level a < above top_level b → a < b
ahead-of a b h = elim (cases_lt a b) [
  | inl l ↦ l
  | inr g ↦ absurd (let m = above-mono top_level b a g in omega (arith, m, h))
]

pub far-level : (a b : ℕ) → above top_level a < above top_level b → far_digit top_level a b ≡ top_level
far-level a b h = rw (eqb-no (above top_level a) (above top_level b) (λ e. omega (arith, h, e))) refl

pub far-start : (a b : ℕ) → above top_level a < above top_level b → start top_level a b ≡ next_turn (above top_level a) (above top_level b) * 64 ^ top_level
far-start a b h = ap (λ k. next_turn (above k a) (above k b) * 64 ^ k) (far-level a b h)

-- the clock goes on before the next start of the key
far-still : (from to tick : ℕ) → from ≤ to → above top_level to < above top_level tick → to < start top_level from tick →
    takes from (at_tick tick) + (above top_level tick - above top_level to - 1) / 64 ≡ takes to (at_tick tick) + (above top_level tick - above top_level from - 1) / 64
far-still from to tick l h b =
    let low : above top_level from ≤ above top_level to = above-mono top_level from to l in
    let h2 : above top_level from < above top_level tick = omega (arith, low, h) in
    let due : to < tick = ahead-of to tick h in
    let s : start top_level from tick ≡ next_turn (above top_level from) (above top_level tick) * 64 ^ top_level = far-start from tick h2 in
    let up = next_turn-above (above top_level from) (above top_level tick) in
    let near = next_turn-near (above top_level from) (above top_level tick) in
    let w = next_turn-whole (above top_level from) (above top_level tick) h2 in
    let one = rounds-one (above top_level from) (next_turn (above top_level from) (above top_level tick)) (above top_level tick) w.0 up near w.1 in
    let same = takes-before from to tick l (omega (arith, due)) b (omega (arith, l, due)) in
    let below : above top_level to < next_turn (above top_level from) (above top_level tick) = (div-lt_iff_lt-mul {k = 64 ^ top_level} {x = to} (pow-pos top_level)).1 (subst (λ z. to < z) s b) in
    let two = rounds-one (above top_level to) (next_turn (above top_level from) (above top_level tick)) (above top_level tick) w.0 below (omega (arith, near, low)) w.1 in
    omega (arith, same, one, two)

-- the clock comes to the next start of the key
far-step : (from to tick : ℕ) → above top_level to < above top_level tick → start top_level from tick ≤ to →
    (takes from (at_tick tick) ≡ takes (start top_level from tick) (at_tick tick) + 1)
    × ((above top_level tick - above top_level from - 1) / 64 ≡ (above top_level tick - above top_level (start top_level from tick) - 1) / 64 + 1)
far-step from to tick h b =
    let rise = start-above top_level from tick in
    let low : above top_level from ≤ above top_level to = above-mono top_level from to (omega (arith, rise, b)) in
    let h2 : above top_level from < above top_level tick = omega (arith, low, h) in
    let due : to < tick = ahead-of to tick h in
    let s : start top_level from tick ≡ next_turn (above top_level from) (above top_level tick) * 64 ^ top_level = far-start from tick h2 in
    let up = next_turn-above (above top_level from) (above top_level tick) in
    let near = next_turn-near (above top_level from) (above top_level tick) in
    let w = next_turn-whole (above top_level from) (above top_level tick) h2 in
    let at : above top_level (start top_level from tick) ≡ next_turn (above top_level from) (above top_level tick) = ap (above top_level) s ∙ above-start top_level (next_turn (above top_level from) (above top_level tick)) in
    let high : above top_level (start top_level from tick) ≤ above top_level to = above-mono top_level (start top_level from tick) to b in
    let fewer = rounds-less (above top_level from) (next_turn (above top_level from) (above top_level tick)) (above top_level tick) w.0 up near w.1 (omega (arith, at, high, h)) in (
      takes-next from to tick (omega (arith, rise, b)) (omega (arith, due)) b,
      fewer ∙ ap (λ z. (above top_level tick - z - 1) / 64 + 1) (sym at),
    )

-- how often a key is taken while the clock goes on to an earlier slot of the top level than its tick's
pub far-takes : (fuel from to tick : ℕ) → to - from ≤ fuel → from ≤ to → above top_level to < above top_level tick →
    takes from (at_tick tick) + (above top_level tick - above top_level to - 1) / 64 ≡ takes to (at_tick tick) + (above top_level tick - above top_level from - 1) / 64
far-takes zero from to tick f l h = elim (cases_lt to (start top_level from tick)) [
  | inl b ↦ far-still from to tick l h b
  | inr b ↦ absurd (let up = start-above top_level from tick in omega (arith, f, b, up))
]
far-takes (suc fuel) from to tick f l h = elim (cases_lt to (start top_level from tick)) [
  | inl b ↦ far-still from to tick l h b
  | inr b ↦
      let up = start-above top_level from tick in
      let step = far-step from to tick h b in
      let rest = far-takes fuel (start top_level from tick) to tick (omega (arith, f, b, up)) b h in
      let one = step.0 in
      let two = step.1 in
      omega (arith, rest, one, two)
]

-- the same, as the code counts it
pub far-counted : (from to tick count : ℕ) → from ≤ to → above top_level to < above top_level tick →
    count ≡ (above top_level tick - above top_level from - 1) / 64 - (above top_level tick - above top_level to - 1) / 64 →
    count + takes to (at_tick tick) ≡ takes from (at_tick tick)
far-counted from to tick count l h is =
    let low : above top_level from ≤ above top_level to = above-mono top_level from to l in
    let less : (above top_level tick - above top_level to - 1) / 64 ≤ (above top_level tick - above top_level from - 1) / 64 = div-le_mono _ _ 64 (omega arith) (omega (arith, low)) in
    let whole = far-takes (to - from) from to tick (omega arith) l h in
    omega (arith, is, less, whole)

-- ---- all keys
same-ticks : (timed : Timed) → timed.registered ≡ timed.tick → timed ≡ record { tick = timed.tick; registered = timed.tick }
same-ticks timed e = ap (λ r. let t : Timed = record { tick = timed.tick; registered = r } in t) e

-- a far key is taken no more often from the later tick on
far-falls : (from to : ℕ) (o : Option Timed) → from ≤ to → IsFar to o → takes to o ≤ takes from o
far-falls from to None l f = omega arith
far-falls from to (Some timed) l f = subst (λ t. takes to (Some t) ≤ takes from (Some t)) (sym (same-ticks timed f.0))
    (let e = far-counted from to timed.tick ((above top_level timed.tick - above top_level from - 1) / 64 - (above top_level timed.tick - above top_level to - 1) / 64) l f.1 refl in omega (arith, e))

all-falls : (from to : ℕ) (os : List (Option Timed)) → from ≤ to → ((key : ℕ) → IsFar to (get_or os key None)) → credit_of to os ≤ credit_of from os
all-falls from to [] l far = omega arith
all-falls from to (o ∷ os) l far = let here = far-falls from to o l (far 0) in let rest = all-falls from to os l (λ k. far (suc k)) in omega (arith, here, rest)

pub credit-falls : (from to : ℕ) (entries : List Entry) → from ≤ to → ((key : ℕ) → IsFar to (timed_in entries key)) → credit_of to (map timed_of entries) ≤ credit_of from (map timed_of entries)
credit-falls from to entries l far = all-falls from to (map timed_of entries) l far

-- ---- which keys are due soonest
abbrev pub IsBelow : ℕ → Option Timed → Type 0
IsBelow least None = Unit {0}
IsBelow least (Some timed) = least ≤ timed.tick

pub below-less : (least less : ℕ) (o : Option Timed) → less ≤ least → IsBelow least o → IsBelow less o
below-less least less None l b = tt
below-less least less (Some timed) l b = omega (arith, l, b)

pub below-read : (least : ℕ) (entries : List Entry) (key : ℕ) (x : Entry) → x ≡ get_or entries key no_entry → (x.tick ≢ 0 → least ≤ x.tick) → IsBelow least (timed_in entries key)
below-read least entries key x is h = subst (IsBelow least) (ap timed_of is ∙ sym (timed-read entries key)) (elim (eqb_tells x.tick 0) [ inl t ↦ rw t.0 tt | inr f ↦ rw f.0 (h f.1) ])

-- one more place, whose key may be the one that does not count
pub below-more : (entries : List Entry) (near : List ℕ) (key least less place : ℕ) (x : Entry) → x ≡ get_or entries (get_or near place 0) no_entry → less ≤ least
    → (get_or near place 0 ≢ key → x.tick ≢ 0 → less ≤ x.tick)
    → ((before : ℕ) → before < place → get_or near before 0 ≢ key → IsBelow least (timed_in entries (get_or near before 0)))
    → (before : ℕ) → before < place + 1 → get_or near before 0 ≢ key → IsBelow less (timed_in entries (get_or near before 0))
below-more entries near key least less place x is low here all before l ne = elim (eqb_tells before place) [
  | inl e ↦
      let at : get_or near place 0 ≡ get_or near before 0 = ap (λ p. get_or near p 0) (sym e.1) in
      below-read less entries (get_or near before 0) x (is ∙ ap (λ k. get_or entries k no_entry) at) (here (λ same. ne (sym at ∙ same)))
  | inr e ↦ below-less least less (timed_in entries (get_or near before 0)) low (all before (let n = e.1 in omega (arith, l, n)) ne)
]

pub due-from : (limit least : ℕ) (near : List ℕ) (key : ℕ) (o : Option Timed) → least ≤ limit → ((place : ℕ) → place < 512 → get_or near place 0 ≡ key → IsBelow least o) → IsKnown limit near key o → IsDueFrom least o
due-from limit least near key None l h k = tt
due-from limit least near key (Some timed) l h (same, inl far) = (same, omega (arith, l, far))
due-from limit least near key (Some timed) l h (same, inr (place, low, is)) = (same, h place low is)

pub far-from : (least to : ℕ) (o : Option Timed) → above top_level to < above top_level least → IsDueFrom least o → IsFar to o
far-from least to None h d = tt
far-from least to (Some timed) h (same, l) = (same, let m = above-mono top_level least timed.tick l in omega (arith, h, m))

-- the key is known, and one of the first of these if it is due before the limit
abbrev pub IsNoted : ℕ → List ℕ → ℕ → ℕ → Option Timed → Type 0
IsNoted limit near count key None = Unit {0}
IsNoted limit near count key (Some timed) = (timed.registered ≡ timed.tick) × ((limit ≤ timed.tick) ⊎ ((place : ℕ) × (place < count) × (get_or near place 0 ≡ key)))

-- all keys before this one are
pub record Noted (limit : ℕ) (near : List ℕ) (count : ℕ) (entries : List Entry) (key : ℕ) : Type 0 where
  pub room : count ≤ 512
  pub before : (k : ℕ) → k < key → IsNoted limit near count k (timed_in entries k)

noted-less : (limit less : ℕ) (near : List ℕ) (count key : ℕ) (o : Option Timed) → less ≤ limit → IsNoted limit near count key o → IsNoted less near count key o
noted-less limit less near count key None l n = tt
noted-less limit less near count key (Some timed) l (same, inl far) = (same, inl (omega (arith, l, far)))
noted-less limit less near count key (Some timed) l (same, inr here) = (same, inr here)

noted-more : (limit : ℕ) (near : List ℕ) (count new key : ℕ) (o : Option Timed) → IsNoted limit near count key o → IsNoted limit (set near count new) (count + 1) key o
noted-more limit near count new key None n = tt
noted-more limit near count new key (Some timed) (same, inl far) = (same, inl far)
noted-more limit near count new key (Some timed) (same, inr (place, low, is)) =
    (same, inr (place, omega (arith, low), get_or-set_other near count place new 0 (λ e. omega (arith, low, e)) ∙ is))

pub up-to : (key : ℕ) (P : ℕ → Type 0) → ((k : ℕ) → k < key → P k) → P key → (k : ℕ) → k < key + 1 → P k
up-to key P before here k low = elim (cases_lt k key) [
  | inl b ↦ before k b
  | inr b ↦ subst P (let e : key ≡ k = omega (arith, low, b) in e) here
]

noted-read : (limit : ℕ) (near : List ℕ) (count key : ℕ) (x : Entry) → x.registered ≡ x.tick → (x.tick ≢ 0 → (limit ≤ x.tick) ⊎ ((place : ℕ) × (place < count) × (get_or near place 0 ≡ key))) → IsNoted limit near count key (timed_of x)
noted-read limit near count key x same h = elim (eqb_tells x.tick 0) [ inl t ↦ rw t.0 tt | inr f ↦ rw f.0 (same, h f.1) ]

noted-at : (limit : ℕ) (near : List ℕ) (count key : ℕ) (entries : List Entry) (x : Entry) → x ≡ get_or entries key no_entry → x.registered ≡ x.tick → (x.tick ≢ 0 → (limit ≤ x.tick) ⊎ ((place : ℕ) × (place < count) × (get_or near place 0 ≡ key))) → IsNoted limit near count key (timed_in entries key)
noted-at limit near count key entries x is same h = subst (IsNoted limit near count key) (ap timed_of is ∙ sym (timed-read entries key)) (noted-read limit near count key x same h)

pub noted-start : (limit : ℕ) (near : List ℕ) (entries : List Entry) → Noted limit near 0 entries 0
noted-start limit near entries = record { room = omega arith; before = λ k l. absurd (omega (arith, l)) }

-- one key more: it is out or not due before the limit, or it is noted, or the limit falls
pub noted-past : (limit : ℕ) (near : List ℕ) (count key : ℕ) (entries : List Entry) (x : Entry) → Noted limit near count entries key → x ≡ get_or entries key no_entry → x.registered ≡ x.tick → (x.tick ≢ 0 → limit ≤ x.tick) →
    Noted limit near count entries (key + 1)
noted-past limit near count key entries x n is same h = record {
  room = n.room;
  before = up-to key (λ k. IsNoted limit near count k (timed_in entries k)) n.before (noted-at limit near count key entries x is same (λ some. inl (h some)));
}

pub noted-here : (limit : ℕ) (near : List ℕ) (count key : ℕ) (entries : List Entry) (x : Entry) → Noted limit near count entries key → x ≡ get_or entries key no_entry → x.registered ≡ x.tick → count < 512 → count < length near →
    Noted limit (set near count key) (count + 1) entries (key + 1)
noted-here limit near count key entries x n is same room low = record {
  room = omega (arith, room);
  before = up-to key (λ k. IsNoted limit (set near count key) (count + 1) k (timed_in entries k)) (λ k b. noted-more limit near count key k (timed_in entries k) (n.before k b))
      (noted-at limit (set near count key) (count + 1) key entries x is same (λ some. inr (count, omega arith, get_or-set_same near count key 0 low)));
}

pub noted-falls : (limit : ℕ) (near : List ℕ) (count key : ℕ) (entries : List Entry) (x : Entry) → Noted limit near count entries key → x ≡ get_or entries key no_entry → x.registered ≡ x.tick → x.tick < limit →
    Noted x.tick near count entries (key + 1)
noted-falls limit near count key entries x n is same less = record {
  room = n.room;
  before = up-to key (λ k. IsNoted x.tick near count k (timed_in entries k)) (λ k b. noted-less limit x.tick near count k (timed_in entries k) (omega (arith, less)) (n.before k b))
      (noted-at x.tick near count key entries x is same (λ some. inl (omega arith)));
}

noted-known : (limit : ℕ) (near : List ℕ) (count key : ℕ) (o : Option Timed) → count ≤ 512 → IsNoted limit near count key o → IsKnown limit near key o
noted-known limit near count key None room n = tt
noted-known limit near count key (Some timed) room (same, inl far) = (same, inl far)
noted-known limit near count key (Some timed) room (same, inr (place, low, is)) = (same, inr (place, omega (arith, room, low), is))

pub noted-end : (limit : ℕ) (near : List ℕ) (count key : ℕ) (entries : List Entry) → Noted limit near count entries key → length entries ≤ key → Known limit near entries
noted-end limit near count key entries n low some k = elim (cases_lt k key) [
  | inl b ↦ noted-known limit near count k (timed_in entries k) n.room (n.before k b)
  | inr b ↦ subst (IsKnown limit near k) (sym (get_or_past (map timed_of entries) k None (let h = length-map entries timed_of in omega (arith, h, low, b)))) tt
]

-- ---- known keys stay known
pub known-out : (limit : ℕ) (near : List ℕ) (entries : List Entry) (key : ℕ) (x : Entry) → key < length entries → x.tick ≡ 0 → Known limit near entries → Known limit near (set entries key x)
known-out limit near entries key x low out h some k = elim (eqb_tells k key) [
  | inl e ↦ subst (IsKnown limit near k) (sym (ap (timed_in (set entries key x)) e.1 ∙ timed-here entries key x low ∙ none_of x out)) tt
  | inr e ↦ subst (IsKnown limit near k) (sym (timed-other entries key k x e.1)) (h some k)
]

-- a key that goes in at its tick is due at the limit or later, or one of the near
pub known-put : (limit less : ℕ) (near : List ℕ) (entries : List Entry) (key : ℕ) (x : Entry) → key < length entries → x.registered ≡ x.tick → less ≤ limit
    → ((less ≤ x.tick) ⊎ ((place : ℕ) × (place < 512) × (get_or near place 0 ≡ key))) → Known limit near entries → Known less near (set entries key x)
known-put limit less near entries key x low same fewer here h some k = elim (eqb_tells k key) [
  | inl e ↦ subst (IsKnown less near k) (sym (ap (timed_in (set entries key x)) e.1 ∙ timed-here entries key x low)) (put k (elim here [ inl l ↦ inl l | inr p ↦ inr (p.0, p.1, p.2 ∙ sym e.1) ]))
  | inr e ↦ subst (IsKnown less near k) (sym (timed-other entries key k x e.1)) (known-less k (timed_in entries k) (h (omega (arith, some, fewer)) k))
]
  where
    put : (k : ℕ) → (less ≤ x.tick) ⊎ ((place : ℕ) × (place < 512) × (get_or near place 0 ≡ k)) → IsKnown less near k (timed_of x)
    put k there = elim (eqb_tells x.tick 0) [ inl t ↦ rw t.0 tt | inr f ↦ rw f.0 (same, there) ]

    known-less : (k : ℕ) (o : Option Timed) → IsKnown limit near k o → IsKnown less near k o
    known-less k None n = tt
    known-less k (Some timed) (s, inl far) = (s, inl (omega (arith, far, fewer)))
    known-less k (Some timed) (s, inr there) = (s, inr there)

-- the ticks stay
pub known-same : (limit : ℕ) (near : List ℕ) (entries entries2 : List Entry) → ((key : ℕ) → timed_in entries2 key ≡ timed_in entries key) → Known limit near entries → Known limit near entries2
known-same limit near entries entries2 same h some k = subst (IsKnown limit near k) (sym (same k)) (h some k)

known-moved : (elapsed to limit : ℕ) (near : List ℕ) (key : ℕ) (o : Option Timed) → IsKnown limit near key o → IsKnown limit near key (timed_after elapsed to o)
known-moved elapsed to limit near key None h = tt
known-moved elapsed to limit near key (Some timed) h = subst (λ t. IsKnown limit near key (Some t)) (elim (cases_lt to (start top_level elapsed timed.registered)) [
  | inl b ↦ sym (moved-stays elapsed to timed b)
  | inr b ↦ same-ticks timed h.0 ∙ sym (moved-anew elapsed to timed b)
]) h
  where
    same-ticks : (timed : Timed) → timed.registered ≡ timed.tick → timed ≡ record { tick = timed.tick; registered = timed.tick }
    same-ticks timed e = ap (λ r. let t : Timed = record { tick = timed.tick; registered = r } in t) e

pub known-after : (elapsed to limit : ℕ) (near : List ℕ) (entries entries2 : List Entry) → ((key : ℕ) → timed_in entries2 key ≡ timed_after elapsed to (timed_in entries key)) → Known limit near entries → Known limit near entries2
known-after elapsed to limit near entries entries2 after h some k = subst (IsKnown limit near k) (sym (after k)) (known-moved elapsed to limit near k (timed_in entries k) (h some k))

-- ---- the wheel
module _ (elapsed to : ℕ) (entries : List Entry) (links : Lists) (h : Held elapsed entries links) (le : elapsed ≤ to) (far : (key : ℕ) → IsFar to (timed_in entries key)) where
  far-of : (key : ℕ) (timed : Timed) → timed_in entries key ≡ Some timed → (timed.registered ≡ timed.tick) × (above top_level to < above top_level timed.tick)
  far-of key timed is = subst (IsFar to) is (far key)

  far-registered : (key : ℕ) (timed : Timed) → timed_in entries key ≡ Some timed → (above top_level to < above top_level timed.registered) × (above top_level elapsed < above top_level timed.registered)
  far-registered key timed is =
      let f = far-of key timed is in
      let up = f.1 in
      let same : above top_level timed.registered ≡ above top_level timed.tick = ap (above top_level) f.0 in
      let low = above-mono top_level elapsed to le in
      (omega (arith, up, same), omega (arith, up, same, low))

  far-place : (key : ℕ) (timed : Timed) → timed_in entries key ≡ Some timed → place_in to timed.registered ≡ place_in elapsed timed.registered
  far-place key timed is =
      let f = far-registered key timed is in
      let a = ahead-of to timed.registered f.0 in
      let b = ahead-of elapsed timed.registered f.1 in
      place-ahead to timed.registered (λ e. omega (arith, a, e))
      ∙ ap (λ z. z * 64 + slot_of z timed.registered) (far-level to timed.registered f.0 ∙ sym (far-level elapsed timed.registered f.1))
      ∙ sym (place-ahead elapsed timed.registered (λ e. omega (arith, b, e)))

  stands-to : (key l : ℕ) (o : Option Timed) → timed_in entries key ≡ o → StandsIn elapsed l o → StandsIn to l o
  stands-to key l None is s = s
  stands-to key l (Some timed) is s = s ∙ sym (far-place key timed is)

  stands-from : (key l : ℕ) (o : Option Timed) → timed_in entries key ≡ o → StandsIn to l o → StandsIn elapsed l o
  stands-from key l None is s = s
  stands-from key l (Some timed) is s = s ∙ far-place key timed is

  fits-to : (key : ℕ) (o : Option Timed) → timed_in entries key ≡ o → Fits to o
  fits-to key None is = tt
  fits-to key (Some timed) is = let f = far-of key timed is in let a = ahead-of to timed.registered (far-registered key timed is).0 in let same = f.0 in inr (a, omega (arith, same))

  pub leap-held : Held to entries links
  leap-held = record {
    lists = h.lists;
    within = λ k l i. stands-to k l (timed_in entries k) refl (h.within k l i);
    found = λ k l s. h.found k l (stands-from k l (timed_in entries k) refl s);
    fits = λ k. fits-to k (timed_in entries k) refl;
    room = h.room;
  }

  ticks-to : (key : ℕ) (o : Option Timed) → timed_in entries key ≡ o → o ≡ timed_after elapsed to o
  ticks-to key None is = refl
  ticks-to key (Some timed) is = ap Some (elim (cases_lt to (start top_level elapsed timed.registered)) [
    | inl b ↦ sym (moved-stays elapsed to timed b)
    | inr b ↦ same-ticks timed (far-of key timed is).0 ∙ sym (moved-anew elapsed to timed b)
  ])
    where
      same-ticks : (timed : Timed) → timed.registered ≡ timed.tick → timed ≡ record { tick = timed.tick; registered = timed.tick }
      same-ticks timed e = ap (λ r. let t : Timed = record { tick = timed.tick; registered = r } in t) e

  pub leap-advanced : {moves : Moves} (v : Wheel) → (let w : Wheel = record { elapsed = elapsed; entries = map timed_of entries; reserved = links.nodes; lines = links.lists; moves = moves } in w ≡ v) →
      Advanced v (record { elapsed = to; entries = map timed_of entries; reserved = links.nodes; lines = links.lists; moves = moves })
  leap-advanced {moves} v seen = subst (λ u. Advanced u (record { elapsed = to; entries = map timed_of entries; reserved = links.nodes; lines = links.lists; moves = moves })) seen (record {
    fits = h.fits;
    later = le;
    ticks = λ k. ticks-to k (timed_in entries k) refl;
    order = λ a b p. record { line = p.line; behind = p.behind; same = p.same };
    reserved = refl;
  })

  pub leap-none-due : (let w : Wheel = record { elapsed = to; entries = map timed_of entries; reserved = links.nodes; lines = links.lists; moves = no_moves } in (key : ℕ) → IsPending w key → ⊥)
  leap-none-due key p =
      let f = far-of key p.0 p.1 in
      let a = ahead-of to p.0.tick f.1 in
      let e = p.2 in
      omega (arith, a, e)

pub noted-is : (limit limit2 : ℕ) (near near2 : List ℕ) (count count2 : ℕ) (entries : List Entry) (key : ℕ) → limit2 ≡ limit → near2 ≡ near → count2 ≡ count → Noted limit near count entries key → Noted limit2 near2 count2 entries key
noted-is limit limit2 near near2 count count2 entries key a b c n =
    subst (λ z. Noted z near2 count2 entries key) (sym a) (subst (λ z. Noted limit z count2 entries key) (sym b) (subst (λ z. Noted limit near z entries key) (sym c) n))

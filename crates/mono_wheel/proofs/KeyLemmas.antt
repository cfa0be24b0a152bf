-- The ticks of keys in a table of entries.
use Rattle.std.proofs.Common.{arith, not, ◌==◌, is_some, ◌≡◌, ◌≢◌, zero, suc, ℕ, ◌<◌, inl, inr, length, List, [], ◌∷◌, ◌++◌, map, Some, None, get_or, set, ap, refl, sym, ◌∙◌, get_or-set_same, get_or-set_other, eq-eqb}
use Rattle.std.proofs.lemmas.Bool.Decides.{eqb_tells}
use Rattle.std.proofs.lemmas.Bool.{cases_lt}
use Rattle.std.proofs.Math.ListN.{get_or-map as get_or-map_any}
use Rattle.std.proofs.lemmas.List.{map-set, length-map, get_or_past, get_or-map}
use Rattle.mono_wheel.specs.Lists.{no_entry}
use Rattle.mono_wheel.specs.Holdings.{timed_of, timed_in}
use Rattle.mono_wheel.specs.Model.{tick_of}
use Rattle.mono_wheel.specs.declared.entry.Entry.{Entry}
use Rattle.mono_wheel.proofs.StartLemmas.{eqb-no}

pub timed-here : (entries : List Entry) (key : ℕ) (x : Entry) → key < length entries → timed_in (set entries key x) key ≡ timed_of x
timed-here entries key x b = ap (λ ts. get_or ts key None) (map-set timed_of entries key x) ∙ get_or-set_same (map timed_of entries) key (timed_of x) None (let h = length-map entries timed_of in omega (arith, h, b))

pub timed-other : (entries : List Entry) (key other : ℕ) (x : Entry) → other ≢ key → timed_in (set entries key x) other ≡ timed_in entries other
timed-other entries key other x ne = ap (λ ts. get_or ts other None) (map-set timed_of entries key x) ∙ get_or-set_other (map timed_of entries) key other (timed_of x) None ne

pub get_or-map-at : (entries : List Entry) (key : ℕ) (x : Entry) → key < length entries → timed_in entries key ≡ timed_of (get_or entries key x)
get_or-map-at entries key x below = get_or-map timed_of entries key x None below

pub is_in-some : (x : Entry) → (timed_of x ≡ None → ⊥) → timed_of x ≡ Some record { tick = x.tick; registered = x.registered }
is_in-some x h = elim (eqb_tells x.tick 0) [ inl t ↦ absurd (h (rw t.0 refl)) | inr f ↦ rw f.0 refl ]

pub none_of : (x : Entry) → x.tick ≡ 0 → timed_of x ≡ None
none_of x e = rw (eq-eqb x.tick 0 e) refl

pub some_of : (x : Entry) → x.tick ≢ 0 → timed_of x ≡ Some record { tick = x.tick; registered = x.registered }
some_of x ne = rw (eqb-no x.tick 0 ne) refl

-- The read entry does not depend on the default.
pub read-in : (entries : List Entry) (key : ℕ) (x d : Entry) → key < length entries → x ≡ get_or entries key d → x ≡ get_or entries key x
read-in [] key x d b e = absurd (omega (arith, b))
read-in (y ∷ ys) zero x d b e = e
read-in (y ∷ ys) (suc k) x d b e = read-in ys k x d (omega (arith, b)) e

-- The ticks of a key, from its entry.
pub timed-read : (entries : List Entry) (key : ℕ) → timed_in entries key ≡ timed_of (get_or entries key no_entry)
timed-read entries key = get_or-map_any timed_of entries key no_entry

pub is-read : (entries : List Entry) (key : ℕ) (x : Entry) → x ≡ get_or entries key no_entry → not (x.tick == 0) ≡ is_some (timed_in entries key)
is-read entries key x e = told x ∙ ap (λ z. is_some (timed_of z)) e ∙ sym (ap is_some (timed-read entries key))
  where
    told : (x : Entry) → not (x.tick == 0) ≡ is_some (timed_of x)
    told x = elim (eqb_tells x.tick 0) [ inl t ↦ rw t.0 refl | inr f ↦ rw f.0 refl ]

pub tick-read : (entries : List Entry) (key : ℕ) (x : Entry) → x ≡ get_or entries key no_entry → x.tick ≡ tick_of (timed_in entries key)
tick-read entries key x e = told x ∙ ap (λ z. tick_of (timed_of z)) e ∙ sym (ap tick_of (timed-read entries key))
  where
    told : (x : Entry) → x.tick ≡ tick_of (timed_of x)
    told x = elim (eqb_tells x.tick 0) [ inl t ↦ rw t.0 t.1 | inr f ↦ rw f.0 refl ]

pub entry-inside : (entries : List Entry) (key : ℕ) (x : Entry) → key < length entries → x ≡ get_or entries key x → (timed_in entries key ≡ None → ⊥) → x.tick ≢ 0
entry-inside entries key x below e some z = some (get_or-map-at entries key x below ∙ ap timed_of (sym e) ∙ none_of x z)

-- A key that is in has an entry, and is in the list of its ticks.
pub entry-in : (entries : List Entry) (key : ℕ) (x : Entry) → key < length entries → x ≡ get_or entries key x → (timed_in entries key ≡ None → ⊥) →
    timed_in entries key ≡ Some record { tick = x.tick; registered = x.registered }
entry-in entries key x below e some =
    let read : timed_in entries key ≡ timed_of x = get_or-map-at entries key x below ∙ ap timed_of (sym e) in
    read ∙ is_in-some x (λ n. some (read ∙ n))

pub entry-below : (entries : List Entry) (key : ℕ) → (timed_in entries key ≡ None → ⊥) → key < length entries
entry-below entries key some = elim (cases_lt key (length entries)) [
  | inl b ↦ b
  | inr b ↦ absurd (some (get_or_past (map timed_of entries) key None (let h = length-map entries timed_of in omega (arith, b, h))))
]

pub timed-pushed : (entries : List Entry) (x : Entry) (k : ℕ) → timed_of x ≡ None → timed_in (entries ++ x ∷ []) k ≡ timed_in entries k
timed-pushed [] x zero e = e
timed-pushed [] x (suc k) e = refl
timed-pushed (y ∷ ys) x zero e = refl
timed-pushed (y ∷ ys) x (suc k) e = timed-pushed ys x k e

-- an entry that is written back as it was
pub set-back : (entries : List Entry) (key : ℕ) (x : Entry) → key < length entries → x ≡ get_or entries key x → set entries key x ≡ entries
set-back [] key x b e = absurd (omega (arith, b))
set-back (y ∷ ys) zero x b e = ap (λ z. z ∷ ys) e
set-back (y ∷ ys) (suc k) x b e = ap (λ zs. y ∷ zs) (set-back ys k x (omega (arith, b)) e)

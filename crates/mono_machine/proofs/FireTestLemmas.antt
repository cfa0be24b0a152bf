-- Tests that compute whether sleeps fire in turn.
use Rattle.std.proofs.Common.{◌≡◌, ◌≢◌, ◌<◌, ◌≤◌, ◌⊎◌, inl, inr, ℕ, ◌+◌, zero, suc, true, false, Bool, cond, List, [], ◌∷◌, Some, None, Option, refl, ap, sym, subst, ◌∙◌, arith}
use Rattle.std.specs.Prelude.{nat_le, nat_lt, ◌==◌, ◌&&◌, ◌||◌, Contains}
use Rattle.std.proofs.lemmas.Bool.{cases_lt, lt-ltb, le-ltb}
use Rattle.std.proofs.lemmas.Bool.Decides.{leb_tells, eqb_tells}
use Rattle.mono_model.specs.Table.{Table, value_at, with_value}
use Rattle.mono_model.specs.Sleeps.{Sleep, Arming, fresh, armed, elapsed, IsDueSleep, MayPrecede, MayFire}
use Rattle.mono_model.specs.FireOrder.{IsFirstDue, IsNoneDue, FireInTurn}
use Rattle.mono_model.proofs.FireLemmas.{may_fire}

abbrev is_due : Option Sleep → ℕ → Bool
is_due None g = false
is_due (Some (fresh n)) g = false
is_due (Some (armed a)) g = nat_le a.tick g
is_due (Some elapsed) g = false

-- no sleep of the table is due
abbrev none_due : Table Sleep → ℕ → Bool
none_due [] g = true
none_due (x ∷ xs) g = cond (is_due x g) false (none_due xs g)

abbrev precedes : Arming → Arming → Bool
precedes a b = nat_lt a.tick b.tick || ((a.tick == b.tick) && nat_lt a.arm b.arm)

abbrev precedes_value : Arming → Option Sleep → Bool
precedes_value a None = true
precedes_value a (Some (fresh n)) = true
precedes_value a (Some (armed b)) = precedes a b
precedes_value a (Some elapsed) = true

-- an arming before all others of a table whose first place has the number i
abbrev precedes_all : Arming → ℕ → ℕ → Table Sleep → Bool
precedes_all a s i [] = true
precedes_all a s i (x ∷ xs) = ((i == s) || precedes_value a x) && precedes_all a s (suc i) xs

abbrev is_first : Option Sleep → Table Sleep → ℕ → Bool
is_first None table s = false
is_first (Some (fresh n)) table s = false
is_first (Some (armed a)) table s = precedes_all a s 0 table
is_first (Some elapsed) table s = false

abbrev in_turn : Table Sleep → ℕ → List ℕ → Bool
in_turn table g [] = none_due table g
in_turn table g (s ∷ fired) = (is_due (value_at table s) g && is_first (value_at table s) table s) && in_turn (with_value table s elapsed) g fired

true-false : true ≡ false → ⊥
true-false e = cc

and_left : (a b : Bool) → (a && b) ≡ true → a ≡ true
and_left true b e = refl
and_left false b e = e

and_right : (a b : Bool) → (a && b) ≡ true → b ≡ true
and_right true b e = e
and_right false b e = absurd (true-false (sym e))

due-told : (v : Option Sleep) (g : ℕ) → is_due v g ≡ true → IsDueSleep v g
due-told None g e = absurd (true-false (sym e))
due-told (Some (fresh n)) g e = absurd (true-false (sym e))
due-told (Some (armed a)) g e = elim (leb_tells a.tick g) [ inl t ↦ t.1 | inr t ↦ absurd (true-false (sym e ∙ t.0)) ]
due-told (Some elapsed) g e = absurd (true-false (sym e))

due-tells : (v : Option Sleep) (g : ℕ) → IsDueSleep v g → is_due v g ≡ true
due-tells None g due = absurd due
due-tells (Some (fresh n)) g due = absurd due
due-tells (Some (armed a)) g due = elim (leb_tells a.tick g) [ inl t ↦ t.0 | inr t ↦ absurd (omega (arith, t.1, due)) ]
due-tells (Some elapsed) g due = absurd due

none-told : (table : Table Sleep) (g : ℕ) → none_due table g ≡ true → IsNoneDue table g
none-told [] g e s due = due
none-told (x ∷ xs) g e zero due = true-false (sym e ∙ ap (λ b. cond b false (none_due xs g)) (due-tells x g due))
none-told (x ∷ xs) g e (suc s) due = none-told xs g (later (is_due x g) e) s due
  where
    later : (b : Bool) → cond b false (none_due xs g) ≡ true → none_due xs g ≡ true
    later true f = absurd (true-false (sym f))
    later false f = f

ltb_tells : (a b : ℕ) → ((nat_lt a b ≡ true) × (a < b)) ⊎ ((nat_lt a b ≡ false) × (b ≤ a))
ltb_tells a b = elim (cases_lt a b) [ inl l ↦ inl (lt-ltb a b l, l) | inr h ↦ inr (le-ltb a b h, h) ]

precedes-told : (a b : Arming) → precedes a b ≡ true → MayPrecede a b
precedes-told a b e = elim (ltb_tells a.tick b.tick) [
  | inl t ↦ inl t.1
  | inr t ↦
      let rest : ((a.tick == b.tick) && nat_lt a.arm b.arm) ≡ true = ap (λ x. x || ((a.tick == b.tick) && nat_lt a.arm b.arm)) (sym t.0) ∙ e in
      elim (eqb_tells a.tick b.tick) [
        | inl q ↦ elim (ltb_tells a.arm b.arm) [
          | inl l ↦ inr (q.1, λ _ _. l.1)
          | inr l ↦ absurd (true-false (sym (and_right _ _ rest) ∙ l.0))
        ]
        | inr q ↦ absurd (true-false (sym (and_left _ _ rest) ∙ q.0))
      ]
]

or_apart : (i s : ℕ) (b : Bool) → i ≢ s → ((i == s) || b) ≡ true → b ≡ true
or_apart i s b apart e = elim (eqb_tells i s) [
  | inl q ↦ absurd (apart q.1)
  | inr q ↦ ap (λ x. x || b) (sym q.0) ∙ e
]

all-told : (a : Arming) (s i : ℕ) (table : Table Sleep) → precedes_all a s i table ≡ true → (q : ℕ) (b : Arming) → i + q ≢ s → value_at table q ≡ Some (armed b) → MayPrecede a b
all-told a s i [] e q b apart at = absurd (none-some (armed b) at)
  where
    none-some : (x : Sleep) → None ≡ Some x → ⊥
    none-some x same = cc
all-told a s i (x ∷ xs) e zero b apart at =
    let here : precedes_value a x ≡ true = or_apart i s _ (λ same. apart (omega (arith, same))) (and_left _ _ e) in
    precedes-told a b (ap (precedes_value a) (sym at) ∙ here)
all-told a s i (x ∷ xs) e (suc q) b apart at = all-told a s (suc i) xs (and_right _ _ e) q b (λ same. apart (omega (arith, same))) at

first-told : (v : Option Sleep) (table : Table Sleep) (s : ℕ) → value_at table s ≡ v → is_first v table s ≡ true → (q : ℕ) (a b : Arming) → q ≢ s → value_at table s ≡ Some (armed a) → value_at table q ≡ Some (armed b) → MayPrecede a b
first-told None table s is e q a b apart at_s at_q = absurd (true-false (sym e))
first-told (Some (fresh n)) table s is e q a b apart at_s at_q = absurd (true-false (sym e))
first-told (Some (armed c)) table s is e q a b apart at_s at_q =
    subst (λ x. MayPrecede x b) (same-arming c a (sym is ∙ at_s)) (all-told c s 0 table e q b (λ same. apart (omega (arith, same))) at_q)
  where
    same-arming : (x y : Arming) → Some (armed x) ≡ Some (armed y) → x ≡ y
    same-arming x y same = cc
first-told (Some elapsed) table s is e q a b apart at_s at_q = absurd (true-false (sym e))

turn-told : (table : Table Sleep) (g : ℕ) (fired : List ℕ) → in_turn table g fired ≡ true → FireInTurn table g fired
turn-told table g [] e = none-told table g e
turn-told table g (s ∷ fired) e =
    let here = and_left _ _ e in
    let first : IsFirstDue table g s = record {
      is_due = due-told (value_at table s) g (and_left _ _ here);
      first = first-told (value_at table s) table s refl (and_right _ _ here);
    } in
    (first, turn-told (with_value table s elapsed) g fired (and_right _ _ e))

-- A list that passes the test may be listed.
pub fires : (table : Table Sleep) (g : ℕ) (fired : List ℕ) → in_turn table g fired ≡ true → MayFire table g fired
fires table g fired e = may_fire table g fired (turn-told table g fired e)

-- A sleep that is not due may not be listed, and a due one may not be left out.
pub not_listed : (table : Table Sleep) (g s : ℕ) (fired : List ℕ) → MayFire table g fired → Contains fired s → is_due (value_at table s) g ≡ false → ⊥
not_listed table g s fired may there early = true-false (sym (due-tells (value_at table s) g ((may.all_due s).0 there)) ∙ early)

pub listed : (table : Table Sleep) (g s : ℕ) (fired : List ℕ) → MayFire table g fired → is_due (value_at table s) g ≡ true → Contains fired s
listed table g s fired may due = (may.all_due s).1 (due-told (value_at table s) g due)

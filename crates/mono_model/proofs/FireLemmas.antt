-- Sleeps that fire in turn may be listed.
use Rattle.std.proofs.Common.{◌≡◌, ◌≢◌, ◌<◌, ◌⊎◌, inl, inr, ℕ, zero, suc, List, [], ◌∷◌, ◌++◌, length, get_or, Some, None, refl, sym, subst, ◌∙◌, arith}
use Rattle.std.specs.Prelude.{AllPairs, Contains}
use Rattle.std.proofs.lemmas.Bool.{cases_eq, cases_lt}
use Rattle.std.proofs.lemmas.List.{get_or-set_other, get_or-set_same, get_or_past}
use Rattle.std.proofs.lemmas.List.Elements.{Contains-get_or}
use Rattle.mono_model.specs.Table.{Table, value_at, with_value}
use Rattle.mono_model.specs.Sleeps.{Sleep, Arming, armed, elapsed, IsDueSleep, MayPrecede, MayFire}
use Rattle.mono_model.specs.FireOrder.{IsFirstDue, FireInTurn}

none-some : {X : Type 0} (x : X) → None ≡ Some x → ⊥
none-some x e = cc

due_given : (table : Table Sleep) (g s : ℕ) → IsDueSleep (value_at table s) g → s < length table
due_given table g s due = elim (cases_lt s (length table)) [
  | inl inside ↦ inside
  | inr past ↦ absurd (subst (λ v. IsDueSleep v g) (get_or_past table s None past) due)
]

-- once it has elapsed, a sleep is not due, and the others are as they were
not_due_after : (table : Table Sleep) (g s : ℕ) → s < length table → IsDueSleep (value_at (with_value table s elapsed) s) g → ⊥
not_due_after table g s inside due = subst (λ v. IsDueSleep v g) (get_or-set_same table s (Some elapsed) None inside) due

pub others_after : (table : Table Sleep) (s q : ℕ) → q ≢ s → value_at (with_value table s elapsed) q ≡ value_at table q
others_after table s q apart = get_or-set_other table s q (Some elapsed) None apart

contains_first : (s q : ℕ) (ss : List ℕ) → q ≡ s → Contains (s ∷ ss) q
contains_first s q ss is = (0, omega arith, sym is)

contains_rest : (s q : ℕ) (ss : List ℕ) → Contains ss q → Contains (s ∷ ss) q
contains_rest s q ss (k, inside, at) = (suc k, omega (arith, inside), at)

contains_cases : (s q : ℕ) (ss : List ℕ) → Contains (s ∷ ss) q → (s ≡ q) ⊎ Contains ss q
contains_cases s q ss (zero, inside, at) = inl at
contains_cases s q ss (suc k, inside, at) = inr (k, omega (arith, inside), at)

pairs_cons : (R : ℕ → ℕ → Type 0) (s : ℕ) (ss : List ℕ) → ((k d : ℕ) → k < length ss → R s (get_or ss k d)) → AllPairs R ss → AllPairs R (s ∷ ss)
pairs_cons R s ss first rest zero zero d below inside = absurd (omega (arith, below))
pairs_cons R s ss first rest zero (suc j) d below inside = first j d (omega (arith, inside))
pairs_cons R s ss first rest (suc i) zero d below inside = absurd (omega (arith, below))
pairs_cons R s ss first rest (suc i) (suc j) d below inside = rest i j d (omega (arith, below)) (omega (arith, inside))

due_apart : (table : Table Sleep) (g s q : ℕ) → IsFirstDue table g s → IsDueSleep (value_at (with_value table s elapsed) q) g → q ≢ s
due_apart table g s q first due same =
    not_due_after table g s (due_given table g s first.is_due) (subst (λ t. IsDueSleep (value_at (with_value table s elapsed) t) g) same due)

due_before : (table : Table Sleep) (g s q : ℕ) → IsFirstDue table g s → IsDueSleep (value_at (with_value table s elapsed) q) g → IsDueSleep (value_at table q) g
due_before table g s q first due = subst (λ v. IsDueSleep v g) (others_after table s q (due_apart table g s q first due)) due

listed_is_due : (table : Table Sleep) (g : ℕ) (fired : List ℕ) → FireInTurn table g fired → (q : ℕ) → Contains fired q → IsDueSleep (value_at table q) g
listed_is_due table g [] turn q (k, inside, at) = absurd (omega (arith, inside))
listed_is_due table g (s ∷ fired) turn q there = elim (contains_cases s q fired there) [
  | inl here ↦ subst (λ t. IsDueSleep (value_at table t) g) here turn.0.is_due
  | inr later ↦ due_before table g s q turn.0 (listed_is_due (with_value table s elapsed) g fired turn.1 q later)
]

due_is_listed : (table : Table Sleep) (g : ℕ) (fired : List ℕ) → FireInTurn table g fired → (q : ℕ) → IsDueSleep (value_at table q) g → Contains fired q
due_is_listed table g [] turn q due = absurd (turn q due)
due_is_listed table g (s ∷ fired) turn q due = elim (cases_eq q s) [
  | inl here ↦ contains_first s q fired here
  | inr apart ↦ contains_rest s q fired (due_is_listed (with_value table s elapsed) g fired turn.1 q (subst (λ v. IsDueSleep v g) (sym (others_after table s q apart)) due))
]

-- one that is listed later is another sleep
later_apart : (table : Table Sleep) (g s : ℕ) (fired : List ℕ) → FireInTurn table g (s ∷ fired) → (k d : ℕ) → k < length fired → get_or fired k d ≢ s
later_apart table g s fired turn k d inside =
    due_apart table g s _ turn.0 (listed_is_due (with_value table s elapsed) g fired turn.1 _ (Contains-get_or fired k d inside))

no_doubles : (table : Table Sleep) (g : ℕ) (fired : List ℕ) → FireInTurn table g fired → AllPairs (λ s t. s ≢ t) fired
no_doubles table g [] turn = λ i j d below inside. absurd (omega (arith, inside))
no_doubles table g (s ∷ fired) turn =
    pairs_cons (λ s t. s ≢ t) s fired (λ k d inside same. later_apart table g s fired turn k d inside (sym same)) (no_doubles (with_value table s elapsed) g fired turn.1)

abbrev InOrder : Table Sleep → ℕ → ℕ → Type 0
InOrder table s t = (a b : Arming) → value_at table s ≡ Some (armed a) → value_at table t ≡ Some (armed b) → MayPrecede a b

in_order : (table : Table Sleep) (g : ℕ) (fired : List ℕ) → FireInTurn table g fired → AllPairs (InOrder table) fired
in_order table g [] turn = λ i j d below inside. absurd (omega (arith, inside))
in_order table g (s ∷ fired) turn =
    pairs_cons (InOrder table) s fired
    (λ k d inside a b at_s at_t. turn.0.first _ a b (later_apart table g s fired turn k d inside) at_s at_t)
    (λ i j d below inside a b at_i at_j.
    in_order (with_value table s elapsed) g fired turn.1 i j d below inside a b
    (others_after table s _ (later_apart table g s fired turn i d (omega (arith, below, inside))) ∙ at_i)
    (others_after table s _ (later_apart table g s fired turn j d inside) ∙ at_j))

pub may_fire : (table : Table Sleep) (g : ℕ) (fired : List ℕ) → FireInTurn table g fired → MayFire table g fired
may_fire table g fired turn = record {
  no_doubles = no_doubles table g fired turn;
  all_due = λ s. (listed_is_due table g fired turn s, due_is_listed table g fired turn s);
  in_order = in_order table g fired turn;
}

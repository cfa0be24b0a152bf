-- One after another whose tick has come: the list of them all.
use Rattle.std.proofs.Common.{◌≡◌, ◌≢◌, ◌<◌, ◌⊎◌, inl, inr, ℕ, zero, suc, List, [], ◌∷◌, length, get_or, None, Option, ap, sym, subst, ◌∙◌, arith}
use Rattle.std.specs.Prelude.{AllPairs, Contains}
use Rattle.std.proofs.lemmas.Bool.{cases_eq}
use Rattle.std.proofs.lemmas.List.Elements.{Contains-get_or}
use Rattle.mono_model.specs.Table.{Table, value_at}
use Rattle.mono_model.specs.Due.{HasCome, Ascends, ListsDue}

contains_rest : (s q : ℕ) (ss : List ℕ) → Contains ss q → Contains (s ∷ ss) q
contains_rest s q ss (k, inside, at) = (suc k, omega (arith, inside), at)

contains_cases : (s q : ℕ) (ss : List ℕ) → Contains (s ∷ ss) q → (s ≡ q) ⊎ Contains ss q
contains_cases s q ss (zero, inside, at) = inl at
contains_cases s q ss (suc k, inside, at) = inr (k, omega (arith, inside), at)

pairs_cons : (R : ℕ → ℕ → Type 0) (s : ℕ) (ss : List ℕ) → ((k d : ℕ) → k < length ss → R s (get_or ss k d)) → AllPairs R ss → AllPairs R (s ∷ ss)
pairs_cons R s ss first rest zero zero d below inside = absurd (omega (arith, below))
pairs_cons R s ss first rest zero (suc j) d below inside = first j d (omega (arith, inside))
pairs_cons R s ss first rest (suc i) zero d below inside = absurd (omega (arith, below))
pairs_cons R s ss first rest (suc i) (suc j) d below inside = rest i j d (omega (arith, below)) (omega (arith, inside))

-- the first has come, and none waits for an earlier tick; once it waits no longer, the others are listed
module _ {V : Type 0} (waits : Option V → Option ℕ) (table after : Table V) (g a : ℕ) (is_due : HasCome g (waits (value_at table a)))
    (first : (other : ℕ) → Ascends (waits (value_at table a)) (waits (value_at table other)))
    (gone : waits (value_at after a) ≡ None) (others : (other : ℕ) → other ≢ a → value_at after other ≡ value_at table other) where
  came_apart : (q : ℕ) → HasCome g (waits (value_at after q)) → q ≢ a
  came_apart q come same = subst (λ t. HasCome g t) gone (subst (λ t. HasCome g (waits (value_at after t))) same come)

  module _ (due : List ℕ) (lists : ListsDue waits after g due) where
    listed_apart : (k d : ℕ) → k < length due → get_or due k d ≢ a
    listed_apart k d inside = came_apart (get_or due k d) ((lists.all_due (get_or due k d)).0 (Contains-get_or due k d inside))

    same_there : (k d : ℕ) → k < length due → waits (value_at after (get_or due k d)) ≡ waits (value_at table (get_or due k d))
    same_there k d inside = ap waits (others (get_or due k d) (listed_apart k d inside))

    forth : (q : ℕ) → Contains (a ∷ due) q → HasCome g (waits (value_at table q))
    forth q there = elim (contains_cases a q due there) [
      | inl here ↦ subst (λ t. HasCome g (waits (value_at table t))) here is_due
      | inr later ↦ (
          let come = (lists.all_due q).0 later in
          subst (λ v. HasCome g (waits v)) (others q (came_apart q come)) come)
    ]

    back : (q : ℕ) → HasCome g (waits (value_at table q)) → Contains (a ∷ due) q
    back q come = elim (cases_eq q a) [
      | inl here ↦ (0, omega arith, sym here)
      | inr apart ↦ contains_rest a q due ((lists.all_due q).1 (subst (λ v. HasCome g (waits v)) (sym (others q apart)) come))
    ]

    pub lists-first : ListsDue waits table g (a ∷ due)
    lists-first = record {
      no_doubles = pairs_cons (λ s t. s ≢ t) a due (λ k d inside same. listed_apart k d inside (sym same)) lists.no_doubles;
      all_due = λ q. (forth q, back q);
      in_order = pairs_cons (λ s t. Ascends (waits (value_at table s)) (waits (value_at table t))) a due (λ k d inside. first (get_or due k d))
          (λ i j d below inside x y at_i at_j.
          lists.in_order i j d below inside x y (same_there i d (omega (arith, below, inside)) ∙ at_i) (same_there j d inside ∙ at_j));
    }

-- If no tick has come, nothing is listed.
pub lists-none : {V : Type 0} (waits : Option V → Option ℕ) (table : Table V) (g : ℕ) → ((a : ℕ) → HasCome g (waits (value_at table a)) → ⊥) → ListsDue waits table g []
lists-none waits table g none = record {
  no_doubles = λ i j d below inside. absurd (omega (arith, inside));
  all_due = λ q. (λ there. absurd (omega (arith, there.1)), λ come. absurd (none q come));
  in_order = λ i j d below inside. absurd (omega (arith, inside));
}

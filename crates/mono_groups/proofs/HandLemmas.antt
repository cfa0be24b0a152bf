-- The first token that owes a wake hands out a task.
use Rattle.std.proofs.Common.{◌≡◌, ◌≤◌, ◌+◌, ℕ, zero, suc, List, [], ◌∷◌, ◌++◌, Some, None, refl, sym, ap, subst, ◌∙◌, arith, inl, inr}
use Rattle.std.proofs.lemmas.Bool.{cases_lt}
use Rattle.std.proofs.lemmas.List.{get_or_past}
use Rattle.mono_model.specs.Table.{Table, value_at, next_number, with_value}
use Rattle.mono_task.specs.Owed.{Keeps, Hands}
use Rattle.mono_sync.specs.Many.{LeadsEach, NoneBelow, lists_each, tasks_in, tasks_each}
use Rattle.mono_sync.specs.ManyLeads as each
use Rattle.mono_groups.specs.declared.nodes.Token.{Token}
use Rattle.mono_groups.specs.Nodes.{listed_by, owed_by, waiting_in}
use Rattle.mono_groups.specs.Tokens.{Grows, IsKept, PaysAt}
use Rattle.mono_groups.proofs.NodeLemmas.{pays_first, pays_keeps}
use Rattle.mono_groups.proofs.TokenLemmas.{kept_with, leads_with}

none-some : {V : Type 0} (v : V) → None ≡ Some v → ⊥
none-some v e = cc

cons-nil : (t : ℕ) (ts : List ℕ) → t ∷ ts ≡ [] → ⊥
cons-nil t ts e = cc

none_each : (xs : Table Token) → ((k : ℕ) → tasks_in owed_by (value_at xs k) ≡ []) → tasks_each owed_by xs ≡ []
none_each [] none = refl
none_each (z ∷ zs) none = ap (λ ts. ts ++ tasks_each owed_by zs) (none 0) ∙ none_each zs (λ k. none (suc k))

owed_each : (xs : Table Token) (k : ℕ) (x y : Token) (t : ℕ) → NoneBelow owed_by k xs → value_at xs k ≡ Some x → owed_by x ≡ t ∷ owed_by y → tasks_each owed_by xs ≡ t ∷ tasks_each owed_by (with_value xs k y)
owed_each [] k x y t none at owed = absurd (none-some x at)
owed_each (z ∷ zs) zero x y t none at owed = ap (λ ts. ts ++ tasks_each owed_by zs) (ap (tasks_in owed_by) at ∙ owed)
owed_each (z ∷ zs) (suc k) x y t none at owed =
    let nothing = none 0 (omega arith) in
    ap (λ ts. ts ++ tasks_each owed_by zs) nothing ∙ owed_each zs k x y t (λ j less. none (suc j) (omega (arith, less))) at owed
    ∙ ap (λ ts. t ∷ (ts ++ tasks_each owed_by (with_value zs k y))) (sym nothing)

module _ (a b : Table Token) (key t : ℕ) where
  pub pays_hands : NoneBelow owed_by key a → PaysAt key a (Some t) b → Hands (lists_each listed_by) (tasks_each owed_by) a (Some t) b
  pays_hands none (x, y, at, pays, is) = (
    owed_each a key x y t none at (pays_first x y t pays) ∙ ap (λ xs. t ∷ tasks_each owed_by xs) (sym is),
    subst (Keeps (lists_each listed_by) t a) (sym is) (each.keeps_with listed_by t x y (pays_keeps x y t pays) a key at),
  )

  pub pays_leads : PaysAt key a (Some t) b → LeadsEach Grows waiting_in owed_by a b
  pays_leads (x, y, at, pays, is) = subst (LeadsEach Grows waiting_in owed_by a) (sym is) (leads_with a key 0 x y at pays.0)

  pub pays_kept : (from : ℕ) → PaysAt key a (Some t) b → IsKept a from → IsKept b from
  pays_kept from (x, y, at, pays, is) kept = subst (λ xs. IsKept xs from) (sym is) (kept_with a key from x y at pays.0 (λ none. absurd (cons-nil t (owed_by y) (sym (pays_first x y t pays) ∙ none))) kept)

-- one key more owes nothing
pub none_more : (a : Table Token) (from : ℕ) → NoneBelow owed_by from a → tasks_in owed_by (value_at a from) ≡ [] → NoneBelow owed_by (from + 1) a
none_more a from none here j less = elim (cases_lt j from) [
  | inl below ↦ none j below
  | inr past ↦
      let same : j ≡ from = omega (arith, less, past) in
      ap (λ i. tasks_in owed_by (value_at a i)) same ∙ here
]

-- no key owes anything
pub none_left : (a : Table Token) (from : ℕ) → NoneBelow owed_by from a → next_number a ≤ from → tasks_each owed_by a ≡ []
none_left a from none past = none_each a (λ k. elim (cases_lt k from) [
  | inl below ↦ none k below
  | inr more ↦ ap (tasks_in owed_by) (get_or_past a k None (omega (arith, past, more)))
])

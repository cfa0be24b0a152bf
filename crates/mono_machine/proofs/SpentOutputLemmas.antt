-- An output is handed out at most once: the handout spends it, and a spent output stays spent.
use Rattle.std.proofs.Common.{◌≡◌, ◌≢◌, ◌≤◌, inl, inr, ℕ, ◌+◌, true, false, Bool, length, set, Some, None, Option, refl, ap, sym, subst, ◌∙◌, arith, eq-eqb, ne_eqb}
use Rattle.std.specs.Prelude.{not, ◌==◌, ◌&&◌, ◌||◌, nat_lt}
use Rattle.std.proofs.lemmas.Bool.{cases_eq, cases_lt, lt-ltb, le-ltb}
use Rattle.std.proofs.lemmas.List.{get_or-set_other, get_or-set_same, length-set, length-append}
use Rattle.mono_model.specs.Table.{Table, value_at, with_next, is_issued}
use Rattle.mono_model.specs.Valid.{once_if}
use Rattle.mono_model.proofs.ValidTaskLemmas.{at_given, value_before}

-- An output that is handed out was not spent before, and is spent afterwards.
pub record Spends (handed after before : Bool) : Type 0 where
  pub less : after ≡ true → before ≡ true
  pub from : handed ≡ true → before ≡ true
  pub spent : handed ≡ true → after ≡ false

true-false : true ≡ false → ⊥
true-false e = cc

false-true : false ≡ true → ⊥
false-true e = cc

pub at_most : (handed after before : Bool) → Spends handed after before → once_if handed + once_if after ≤ once_if before
at_most true true before s = absurd (true-false (s.spent refl))
at_most true false true s = omega arith
at_most true false false s = absurd (false-true (s.from refl))
at_most false true true s = omega arith
at_most false true false s = absurd (false-true (s.less refl))
at_most false false before s = omega arith

pub nothing : (b : Bool) → Spends false b b
nothing b = record { less = λ e. e; from = λ e. absurd (false-true e); spent = λ e. absurd (false-true e) }

and_false : (a : Bool) → (a && false) ≡ false
and_false true = refl
and_false false = refl

pub refused : (a b : Bool) → Spends (a && false) b b
refused a b = subst (λ h. Spends h b b) (sym (and_false a)) (nothing b)

-- what may still come out of a number: one that was not given out yet may be, and a value by `may`
module _ {V : Type 0} (may : V → Bool) where
  abbrev pub open_value : Option V → Bool
  open_value None = false
  open_value (Some v) = may v

  abbrev pub open_at : Table V → ℕ → Bool
  open_at table q = not (is_issued table q) || open_value (value_at table q)

  open_given : (table : Table V) (q : ℕ) (v : V) → value_at table q ≡ Some v → open_at table q ≡ may v
  open_given table q v at = ap (λ b. not b || open_value (value_at table q)) (lt-ltb q (length table) (at_given table q v at)) ∙ ap open_value at

  open_set : (table : Table V) (u : ℕ) (old : V) (new : Option V) → value_at table u ≡ Some old → open_at (set table u new) u ≡ open_value new
  open_set table u old new at =
      ap (λ n. not (nat_lt u n) || open_value (value_at (set table u new) u)) (length-set table u new)
      ∙ ap (λ b. not b || open_value (value_at (set table u new) u)) (lt-ltb u (length table) (at_given table u old at)) ∙ ap open_value (get_or-set_same table u new None (at_given table u old at))

  open_other : (table : Table V) (u q : ℕ) (new : Option V) → q ≢ u → open_at (set table u new) q ≡ open_at table q
  open_other table u q new apart = ap (λ n. not (nat_lt q n) || open_value (value_at (set table u new) q)) (length-set table u new) ∙ ap (λ v. not (is_issued table q) || open_value v) (get_or-set_other table u q new None apart)

  -- a write, with a handout of the number that is written
  pub write_spends : (table : Table V) (u q : ℕ) (old : V) (new : Option V) (h : Bool) → value_at table u ≡ Some old → Spends h (open_value new) (may old) → Spends ((u == q) && h) (open_at (set table u new) q) (open_at table q)
  write_spends table u q old new h at s = elim (cases_eq q u) [
    | inl here ↦ subst (λ x. Spends ((u == x) && h) (open_at (set table u new) x) (open_at table x)) (sym here)
        (subst (λ b. Spends (b && h) (open_at (set table u new) u) (open_at table u)) (sym (eq-eqb u u refl))
        (subst (λ b. Spends h b (open_at table u)) (sym (open_set table u old new at)) (subst (λ b. Spends h (open_value new) b) (sym (open_given table u old at)) s)))
    | inr apart ↦ subst (λ b. Spends (b && h) (open_at (set table u new) q) (open_at table q)) (sym (ne_eqb u q (λ same. apart (sym same))))
        (subst (λ b. Spends false b (open_at table q)) (sym (open_other table u q new apart)) (nothing (open_at table q)))
  ]

  -- a write that hands out nothing
  pub write_keeps : (table : Table V) (u q : ℕ) (old : V) (new : Option V) → value_at table u ≡ Some old → (open_value new ≡ true → may old ≡ true) → open_at (set table u new) q ≡ true → open_at table q ≡ true
  write_keeps table u q old new at keeps = (write_spends table u q old new false at (record { less = keeps; from = λ e. absurd (false-true e); spent = λ e. absurd (false-true e) })).less

  -- one more number
  pub next_keeps : (table : Table V) (v : V) (q : ℕ) → open_at (with_next table v) q ≡ true → open_at table q ≡ true
  next_keeps table v q is = elim (cases_lt q (length table)) [
    | inl below ↦ ap (λ b. not b || open_value (value_at table q)) (lt-ltb q (length table) below) ∙ ap open_value (sym (value_before table v q (λ same. omega (arith, same, below))))
        ∙ ap (λ b. not b || open_value (value_at (with_next table v) q)) (sym (lt-ltb q (length (with_next table v)) (rw length-append (omega (arith, below))))) ∙ is
    | inr past ↦ ap (λ b. not b || open_value (value_at table q)) (le-ltb q (length table) past)
  ]

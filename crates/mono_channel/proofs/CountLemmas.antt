-- Each step keeps the count of the open senders.
use Rattle.std.proofs.Common.{◌≡◌, ◌<◌, ◌+◌, ◌-◌, ◌%◌, ◌^◌, ℕ, zero, suc, true, false, true≢false, eqb, List, [], ◌∷◌, ◌++◌, get_or, set, sym, refl, ap, ◌∙◌, subst, ⊎_elim, length-set, get_or-set_same, eq-eqb, ne_eqb, arith}
use Rattle.std.proofs.lemmas.Bool.Decides.{nat_tests}
use mathlib.Core.Option.{none, some, some-injective, some-ne-none}
use mathlib.Core.Logic.{dite}
use native.Mathlib.Decide.{ℕ_discrete}
use lib.ListN.{get_elem?}
use prog.Atomic.{either}
use Rattle.atomic_table.specs.Table.{State, Me, step, keeps, stepped, opening, Allows, Splits, Joins}
use Rattle.atomic_table.proofs.Lists.{at_set, at_snoc, set_again}
use Rattle.mono_channel.specs.declared.stakes.Standing.{Standing}
use Rattle.mono_channel.specs.Standings.{standing, all_open, Counts, entered, left, looked}

abbrev M : Type 0
M = Me (Unit {0}) Standing

abbrev St : Type 0
St = State (Unit {0}) Standing

open_set : (l : List Standing) (i : ℕ) (v w : Standing) → get_elem? l i ≡ some v → all_open (set l i w) + v.senders ≡ all_open l + w.senders
open_set [] i v w e = absurd (some-ne-none v (sym e))
open_set (x ∷ xs) zero v w e = let is : x.senders ≡ v.senders = ap (λ (m : Standing). m.senders) (some-injective x v e) in omega arith
open_set (x ∷ xs) (suc i) v w e = let r = open_set xs i v w e in omega arith

open_snoc : (l : List Standing) (v : Standing) → all_open (l ++ v ∷ []) ≡ all_open l + v.senders
open_snoc [] v = omega arith
open_snoc (x ∷ xs) v = let r = open_snoc xs v in omega arith

open_one : (l : List Standing) (i : ℕ) (v : Standing) → get_elem? l i ≡ some v → (rest : ℕ) × (all_open l ≡ v.senders + rest)
open_one l i v at = let t = open_set l i v (standing 0 false) at in (all_open (set l i (standing 0 false)), omega arith)

-- none is open if one who saw so is among them
abbrev Over : List Standing → ℕ → Type 0
Over views total = (n : ℕ) (v : Standing) → get_elem? views n ≡ some v → v.over ≡ true → total ≡ 0

-- a table whose word and one view change
placed : (s : St) (r : Counts s) (n id : ℕ) (me : M) (w : Standing) → get_elem? s.views id ≡ some me.0 → all_open (set s.views id w) ≡ n → (w.over ≡ true → n ≡ 0) → ((all_open s.views ≡ 0) → n ≡ 0)
    → Counts (stepped s 0 n id me.1 w keeps)
placed s r n id me w at is mine others = let wide = r.0 in (
  length-set s.words 0 n ∙ wide,
  get_or-set_same s.words 0 n 0 (omega arith) ∙ sym is,
  λ j u e over. is ∙ ⊎_elim (λ t. mine (ap (λ (m : Standing). m.over) t.1 ∙ over)) (λ t. others (r.2 j u t.1 over)) (at_set s.views id j w u e),
)

unmoved : (s : St) (r : Counts s) (id : ℕ) (me : M) → get_elem? s.views id ≡ some me.0 → Counts (stepped s 0 (get_or s.words 0 0) id me.1 me.0 keeps)
unmoved s r id me at = placed s r (get_or s.words 0 0) id me me.0 at (ap all_open (set_again s.views id me.0 at) ∙ sym r.1) (λ over. r.1 ∙ r.2 id me.0 at over) (λ e. r.1 ∙ e)

pub begins : Counts (opening (1 ∷ []) [] (standing 1 false))
begins = (refl, refl, λ n v at over. absurd (⊎_elim (λ none. some-ne-none v (sym none)) (λ (is : standing 1 false ≡ v). true≢false (sym over ∙ ap (λ (m : Standing). m.over) (sym is))) (at_snoc [] (standing 1 false) v n at)))

pub enters : (slots id old : ℕ) (me : M) → 0 < me.0.senders → Allows Counts slots id me 0 (λ x. either (eqb x old) (old + 1) x) (entered (step slots 0 old (old + 1) none) me)
enters slots id old me some_open s r _ at _ = let x : ℕ = get_or s.words 0 0 in let one = open_one s.views id me.0 at in let is = r.1 in dite (ℕ_discrete x old)
    (λ hit. let w : Standing = standing (me.0.senders + 1) me.0.over in let sum = open_set s.views id me.0 w at in (
      w,
      keeps,
      tt,
      subst (λ b. Counts (stepped s 0 (either b (old + 1) x) id me.1 w keeps)) (sym (eq-eqb x old hit))
          (placed s r (old + 1) id me w at (omega arith) (λ over. let zero_open = r.2 id me.0 at over in absurd (omega arith)) (λ zero_open. absurd (omega arith))),
      ((λ _. refl), (λ not. absurd (not hit)), refl),
    ))
    (λ miss. (
      me.0,
      keeps,
      tt,
      subst (λ b. Counts (stepped s 0 (either b (old + 1) x) id me.1 me.0 keeps)) (sym (ne_eqb x old miss)) (unmoved s r id me at),
      ((λ hit. absurd (miss hit)), (λ _. refl), refl),
    ))

pub enters_as : (slots id old new : ℕ) (me : M) → new ≡ old + 1 → 0 < me.0.senders → Allows Counts slots id me 0 (λ x. either (eqb x old) new x) (entered (step slots 0 old new none) me)
enters_as slots id old new me is some_open = subst (λ z. Allows Counts slots id me 0 (λ x. either (eqb x old) z x) (entered (step slots 0 old z none) me)) (sym is) (enters slots id old me some_open)

pub leaves : (slots id : ℕ) (me : M) → 0 < me.0.senders → Allows Counts slots id me 0 (λ x. (x + (2 ^ 64 - 1)) % 2 ^ 64) (left (step slots 0 1 0 none) me)
leaves slots id me some_open s r _ at small = let x : ℕ = get_or s.words 0 0 in let one = open_one s.views id me.0 at in let is = r.1 in
    let w : Standing = standing (me.0.senders - 1) (eqb x 1) in let n : ℕ = all_open (set s.views id w) in let sum = open_set s.views id me.0 w at in
    let fits : x < 18446744073709551616 = small in let less : n ≡ (x + 18446744073709551615) % 18446744073709551616 = omega arith in (
      w,
      keeps,
      tt,
      subst (λ (z : ℕ). Counts (stepped s 0 z id me.1 w keeps)) less
          (placed s r n id me w at refl (λ last. let was : x ≡ 1 = grind (arith, nat_tests) in omega arith) (λ zero_open. absurd (omega arith))),
      (refl, refl),
    )

pub looks : (slots id : ℕ) (me : M) → Allows Counts slots id me 0 (λ x. x) (looked (step slots 0 0 0 none) me)
looks slots id me s r _ at _ = let x : ℕ = get_or s.words 0 0 in let one = open_one s.views id me.0 at in let is = r.1 in
    let w : Standing = standing me.0.senders (eqb x 0) in let sum = open_set s.views id me.0 w at in (
      w,
      keeps,
      tt,
      placed s r x id me w at (omega arith) (λ seen. let was : x ≡ 0 = grind (arith, nat_tests) in was) (λ zero_open. omega arith),
      (refl, refl, (λ over. let zero_open = r.2 id me.0 at over in omega arith), (λ none_left. omega arith)),
    )

-- a view is cut in two
cut : (id : ℕ) (v left right : Standing) → left.senders + right.senders ≡ v.senders → left.over ≡ v.over → right.over ≡ false → Splits Counts id v left right
cut id v left right parts same fresh s r at = let sum = open_set s.views id v left at in let more = open_snoc (set s.views id left) right in
    let total : all_open (set s.views id left ++ right ∷ []) ≡ all_open s.views = omega arith in (
      r.0,
      r.1 ∙ sym total,
      λ j u e over. total ∙ ⊎_elim (λ was. ⊎_elim (λ t. r.2 id v at (sym same ∙ ap (λ (m : Standing). m.over) t.1 ∙ over)) (λ t. r.2 j u t.1 over) (at_set s.views id j left u was))
          (λ (is : right ≡ u). absurd (true≢false (sym over ∙ ap (λ (m : Standing). m.over) (sym is) ∙ fresh))) (at_snoc (set s.views id left) right u j e),
    )

pub hands : (id : ℕ) (v : Standing) → 0 < v.senders → Splits Counts id v (standing (v.senders - 1) v.over) (standing 1 false)
hands id v some_open = cut id v (standing (v.senders - 1) v.over) (standing 1 false) (omega arith) refl refl

pub shows : (id : ℕ) (v : Standing) → Splits Counts id v v (standing 0 false)
shows id v = cut id v v (standing 0 false) (omega arith) refl refl

pub gathers : (id : ℕ) (v : Standing) (other : ℕ) (u : Standing) → Joins Counts id v other u (standing (v.senders + u.senders) v.over) (standing 0 false)
gathers id v other u s r at two at' = let both : Standing = standing (v.senders + u.senders) v.over in let gone : Standing = standing 0 false in
    let first = open_set s.views id v both at in let second = open_set (set s.views id both) other u gone at' in
    let total : all_open (set (set s.views id both) other gone) ≡ all_open s.views = omega arith in (
      r.0,
      r.1 ∙ sym total,
      λ j w e over. total ∙ ⊎_elim (λ t. absurd (true≢false (sym over ∙ ap (λ (m : Standing). m.over) (sym t.1))))
          (λ t. ⊎_elim (λ here. r.2 id v at (ap (λ (m : Standing). m.over) here.1 ∙ over)) (λ there. r.2 j w there.1 over) (at_set s.views id j both w t.1))
          (at_set (set s.views id both) other j gone w e),
    )

-- A list of sleeps fires in turn until none is due if and only if a clock step may list it.
use Rattle.std.proofs.Common.{◌≡◌, ◌≢◌, ◌<◌, ◌≤◌, inl, inr, ℕ, true, false, Bool, List, [], ◌∷◌, length, Some, None, Option, refl, ap, sym, subst, ◌∙◌, ne_eqb, arith}
use Rattle.std.specs.Prelude.{◌&&◌, ◌||◌, ◌==◌, not, MatchBool}
use Rattle.std.proofs.lemmas.Bool.{cases_eq, cases_lt}
use Rattle.std.proofs.lemmas.List.{get_or-set_other, get_or-set_same, get_or_past, set_past}
use Rattle.mono_model.specs.Ticks.{max_nanos}
use Rattle.mono_model.specs.Table.{Table, value_at, with_value}
use Rattle.mono_model.specs.Sleeps.{Sleep, elapsed, IsDueSleep, MayFire}
use Rattle.mono_model.specs.FireOrder.{IsNoneDue}
use Rattle.mono_machine.specs.Machine.{Machine}
use Rattle.mono_machine.specs.Steps.{after_fire, after_fires, at_clock, greatest_at}
use Rattle.mono_machine.specs.declared.events.Event.TheVariants as event
use Rattle.mono_machine.specs.declared.events.Report.TheVariants as report
use Rattle.mono_trace.specs.Versions.{Versions}
use Rattle.mono_trace.specs.Verdicts.{IsNoStep}
use Rattle.mono_trace.specs.Traces.{may_follow_value, tick_after_value, arms_after_value, are_in_order, is_listed, are_once, are_all_listed}
use Rattle.mono_trace.specs.Trials.{Tried, are_in_turn}
use Rattle.mono_trace.proofs.AllowedListLemmas.{and_left, and_right, and_both, or_left, or_right, eq-tells, listed-tells, all-tells, true-false, is_either, allows_exactly}

-- ---- tests
and_false : (a : Bool) → (a && false) ≡ false
and_false true = refl
and_false false = refl

and_swap : (a b c : Bool) → (a && (b && c)) ≡ (b && (a && c))
and_swap true true c = refl
and_swap true false c = refl
and_swap false true c = refl
and_swap false false c = refl

and_regroup : (a b c : Bool) → (a && (b && c)) ≡ ((b && a) && c)
and_regroup true true c = refl
and_regroup true false c = refl
and_regroup false true c = refl
and_regroup false false c = refl

-- ---- a sleep that has fired
here_after : (table : Table Sleep) (s : ℕ) → s < length table → value_at (with_value table s elapsed) s ≡ Some elapsed
here_after table s inside = get_or-set_same table s (Some elapsed) None inside

others_after : (table : Table Sleep) (s q : ℕ) → q ≢ s → value_at (with_value table s elapsed) q ≡ value_at table q
others_after table s q apart = get_or-set_other table s q (Some elapsed) None apart

not_due_after : (table : Table Sleep) (g s : ℕ) → IsDueSleep (value_at (with_value table s elapsed) s) g → ⊥
not_due_after table g s due = elim (cases_lt s (length table)) [
  | inl inside ↦ subst (λ v. IsDueSleep v g) (here_after table s inside) due
  | inr past ↦ subst (λ v. IsDueSleep v g) (ap (λ xs. value_at xs s) (set_past table s (Some elapsed) past) ∙ get_or_past table s None past) due
]

-- The test of the rest of the list, once a value is read.
abbrev rest_in_order : Table Sleep → ℕ → ℕ → ℕ → List ℕ → Option Sleep → Bool
rest_in_order table g tick arms xs v = may_follow_value g tick arms v && are_in_order table g (tick_after_value tick v) (arms_after_value tick arms v) xs

order_after : (table : Table Sleep) (g s : ℕ) (xs : List ℕ) (tick arms : ℕ) → s < length table → are_in_order (with_value table s elapsed) g tick arms xs ≡ (not (is_listed xs s) && are_in_order table g tick arms xs)
order_after table g s [] tick arms inside = refl
order_after table g s (x ∷ xs) tick arms inside = elim (cases_eq x s) [
  | inl same ↦ (
      let fires : rest_in_order (with_value table s elapsed) g tick arms xs (value_at (with_value table s elapsed) x) ≡ false =
      ap (rest_in_order (with_value table s elapsed) g tick arms xs) (ap (value_at (with_value table s elapsed)) same ∙ here_after table s inside) in
      fires ∙ sym (ap (λ b. not (b || is_listed xs s) && are_in_order table g tick arms (x ∷ xs)) (eq-tells x s same)))
  | inr apart ↦ (
      let v : Option Sleep = value_at table x in
      let rest : Bool = are_in_order table g (tick_after_value tick v) (arms_after_value tick arms v) xs in
      ap (rest_in_order (with_value table s elapsed) g tick arms xs) (others_after table s x apart)
      ∙ ap (λ b. may_follow_value g tick arms v && b) (order_after table g s xs (tick_after_value tick v) (arms_after_value tick arms v) inside)
      ∙ and_swap (may_follow_value g tick arms v) (not (is_listed xs s)) rest
      ∙ sym (ap (λ b. not (b || is_listed xs s) && are_in_order table g tick arms (x ∷ xs)) (ne_eqb x s apart)))
]

-- A sleep that may follow exists.
follower_inside : (table : Table Sleep) (g tick arms s : ℕ) → may_follow_value g tick arms (value_at table s) ≡ true → s < length table
follower_inside table g tick arms s may = elim (cases_lt s (length table)) [
  | inl inside ↦ inside
  | inr past ↦ absurd (true-false (sym may ∙ ap (may_follow_value g tick arms) (get_or_past table s None past)))
]

in_turn_is : (table : Table Sleep) (g tick arms : ℕ) (fired : List ℕ) → are_in_turn table g tick arms fired ≡ (are_once fired && are_in_order table g tick arms fired)
in_turn_is table g tick arms [] = refl
in_turn_is table g tick arms (s ∷ fired) =
    let v : Option Sleep = value_at table s in
    let may : Bool = may_follow_value g tick arms v in
    let after : Table Sleep = with_value table s elapsed in
    let turn : Bool = are_in_turn after g (tick_after_value tick v) (arms_after_value tick arms v) fired in
    let rest : Bool = are_in_order table g (tick_after_value tick v) (arms_after_value tick arms v) fired in
    elim (is_either may) [
      | inl does ↦ (
          ap (λ b. b && turn) does
          ∙ in_turn_is after g (tick_after_value tick v) (arms_after_value tick arms v) fired
          ∙ ap (λ b. are_once fired && b) (order_after table g s fired (tick_after_value tick v) (arms_after_value tick arms v) (follower_inside table g tick arms s does))
          ∙ and_regroup (are_once fired) (not (is_listed fired s)) rest
          ∙ sym (ap (λ b. (not (is_listed fired s) && are_once fired) && (b && rest)) does))
      | inr fails ↦ (
          ap (λ b. b && turn) fails
          ∙ sym (and_false (not (is_listed fired s) && are_once fired))
          ∙ sym (ap (λ b. (not (is_listed fired s) && are_once fired) && (b && rest)) fails))
    ]

-- ---- the sleeps once all have fired
abbrev pub fired_table : Table Sleep → List ℕ → Table Sleep
fired_table table [] = table
fired_table table (s ∷ fired) = fired_table (with_value table s elapsed) fired

listed_if_due : (table : Table Sleep) (g : ℕ) (fired : List ℕ) → IsNoneDue (fired_table table fired) g → (q : ℕ) → IsDueSleep (value_at table q) g → is_listed fired q ≡ true
listed_if_due table g [] none q due = absurd (none q due)
listed_if_due table g (s ∷ fired) none q due = elim (cases_eq q s) [
  | inl same ↦ or_left (s == q) (is_listed fired q) (eq-tells s q (sym same))
  | inr apart ↦ or_right (s == q) (is_listed fired q) (listed_if_due (with_value table s elapsed) g fired none q (subst (λ v. IsDueSleep v g) (sym (others_after table s q apart)) due))
]

none_is_due : (table : Table Sleep) (g : ℕ) (fired : List ℕ) → ((q : ℕ) → IsDueSleep (value_at table q) g → is_listed fired q ≡ true) → IsNoneDue (fired_table table fired) g
none_is_due table g [] listed = λ q due. true-false (sym (listed q due))
none_is_due table g (s ∷ fired) listed =
    none_is_due (with_value table s elapsed) g fired
    (λ q due. elim (cases_eq q s) [
      | inl same ↦ absurd (not_due_after table g s (subst (λ x. IsDueSleep (value_at (with_value table s elapsed) x) g) same due))
      | inr apart ↦ ap (λ b. b || is_listed fired q) (sym (ne_eqb s q (λ e. apart (sym e)))) ∙ listed q (subst (λ v. IsDueSleep v g) (others_after table s q apart) due)
    ])

-- ---- both ways
pub may_fire : (table : Table Sleep) (g : ℕ) (fired : List ℕ) → are_in_turn table g 0 0 fired ≡ true → IsNoneDue (fired_table table fired) g → MayFire table g fired
may_fire table g fired turn none =
    let both : (are_once fired && are_in_order table g 0 0 fired) ≡ true = sym (in_turn_is table g 0 0 fired) ∙ turn in
    let all : are_all_listed g fired 0 table ≡ true = all-tells g fired 0 table (λ s due. subst (λ q. is_listed fired q ≡ true) (omega arith) (listed_if_due table g fired none s due)) in
    (allows_exactly table g fired).0
    (and_both (are_once fired) _ (and_left (are_once fired) _ both) (and_both (are_in_order table g 0 0 fired) _ (and_right (are_once fired) _ both) all))

pub fires_in_turn : (table : Table Sleep) (g : ℕ) (fired : List ℕ) → MayFire table g fired → (are_in_turn table g 0 0 fired ≡ true) × IsNoneDue (fired_table table fired) g
fires_in_turn table g fired may =
    let order : Bool = are_in_order table g 0 0 fired in
    let allowed : (are_once fired && (order && are_all_listed g fired 0 table)) ≡ true = (allows_exactly table g fired).1 may in
    let rest : (order && are_all_listed g fired 0 table) ≡ true = and_right (are_once fired) _ allowed in (
      in_turn_is table g 0 0 fired ∙ and_both (are_once fired) order (and_left (are_once fired) _ allowed) (and_left order _ rest),
      none_is_due table g fired (λ q due. listed-tells fired q ((may.all_due q).1 due)),
    )

-- ---- the machine
pub after_table : (fired : List ℕ) (m : Machine) → (after_fires m fired).sleeps.table ≡ fired_table m.sleeps.table fired
after_table [] m = refl
after_table (s ∷ fired) m = after_table fired (after_fire m s)

pub after_greatest : (fired : List ℕ) (m : Machine) → (after_fires m fired).sleeps.greatest ≡ m.sleeps.greatest
after_greatest [] m = refl
after_greatest (s ∷ fired) m = after_greatest fired (after_fire m s)

-- the list is not in turn, or a sleep is due when it has fired
pub not_told : (old : Machine) (n : ℕ) (fired : List ℕ) → are_in_turn old.sleeps.table (greatest_at old n) 0 0 fired ≡ false → IsNoStep old (event.Clock n) (report.Fired fired)
not_told old n fired not_so = λ new step. true-false (sym (fires_in_turn old.sleeps.table (greatest_at old n) fired step.1).0 ∙ not_so)

pub told_if : (old : Versions Machine) (new : Versions Machine) (n : ℕ) (fired : List ℕ) (none : Bool) → n ≤ max_nanos → are_in_turn old.now.sleeps.table (greatest_at old.now n) 0 0 fired ≡ true
    → new.now ≡ after_fires (at_clock old.now n) fired → new.before ≡ old.before
    → MatchBool none (IsNoneDue new.now.sleeps.table new.now.sleeps.greatest) (IsNoneDue new.now.sleeps.table new.now.sleeps.greatest → ⊥) → Tried (event.Clock n) (report.Fired fired) old new none
told_if old new n fired true within turn after same none =
    let m : Machine = at_clock old.now n in (
      within,
      may_fire old.now.sleeps.table (greatest_at old.now n) fired turn
          (subst (λ t. IsNoneDue t (greatest_at old.now n)) (ap (λ x. x.sleeps.table) after ∙ after_table fired m)
          (subst (λ g. IsNoneDue new.now.sleeps.table g) (ap (λ x. x.sleeps.greatest) after ∙ after_greatest fired m) none)),
      after,
    )
told_if old new n fired false within turn after same some =
    let m : Machine = at_clock old.now n in (
      λ other step. some
          (subst (λ g. IsNoneDue new.now.sleeps.table g) (sym (ap (λ x. x.sleeps.greatest) after ∙ after_greatest fired m))
          (subst (λ t. IsNoneDue t (greatest_at old.now n)) (sym (ap (λ x. x.sleeps.table) after ∙ after_table fired m))
          (fires_in_turn old.now.sleeps.table (greatest_at old.now n) fired step.1).1)),
      same,
    )

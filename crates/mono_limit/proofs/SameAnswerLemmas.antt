-- Two runs over the same calls.
use Rattle.std.proofs.Common.{◌≡◌, ◌≢◌, ◌≤◌, inl, inr, ℕ, ◌-◌, zero, suc, true, false, List, [], ◌∷◌, length, Some, None, Option, refl, ap, sym, subst, ◌∙◌, arith}
use Rattle.std.specs.Prelude.{Result, Ok, Err, option_map, Contains}
use Rattle.std.proofs.lemmas.Bool.{cases_eq, cases_lt}
use Rattle.std.proofs.lemmas.List.{ext_get_or, get_or-set_other, get_or-set_same, get_or_past, length-set}
use Rattle.mono_model.specs.Table.{Table, value_at, with_value}
use Rattle.mono_limit.specs.Buckets.{Bucket, filled, after_ticks, IsLeastTick, Takes}
use Rattle.mono_limit.specs.declared.schedules.Schedule.{Schedule}
use Rattle.mono_limit.specs.Schedules.{at_once}
use Rattle.mono_limit.specs.Limiter.{Limits, with_buckets, with_retries, TakesFrom}
use Rattle.mono_limit.specs.Calls.{Call}
use Rattle.mono_limit.specs.Calls as call
use Rattle.mono_limit.specs.Answers.{Answer, of_take}
use Rattle.mono_limit.specs.Answers as answer
use Rattle.mono_limit.specs.Steps.{greatest_at, at_tick, ended_value, after_waits, ClockStep, Step, Run}
use Rattle.mono_limit.specs.Laws.{IsSameAnswer, AnswersAreDetermined}
use Rattle.mono_limit.specs.declared.LimitError.{LimitError}
use Rattle.mono_limit.specs.declared.Take.{Take}
use Rattle.mono_limit.specs.declared.Take.TheVariants.{Granted, Short}
use Rattle.mono_limit.proofs.WaitLemmas.{is_in_or_out}
use Rattle.mono_limit.proofs.SameDueLemmas.{as_often, same_ticks}

none-some : {X : Type 0} (x : X) → None ≡ Some x → ⊥
none-some x e = cc

true-false : true ≡ false → ⊥
true-false e = cc

-- ---- a take

-- at once the bucket is as it was
filled_none : (g : ℕ) (bucket : Bucket) → filled g g bucket ≡ bucket
filled_none g bucket =
    let none : g - g ≡ 0 = omega arith in
    ap (λ n. after_ticks n g bucket) none

one_tick : (g : ℕ) (bucket : Bucket) (n s t : ℕ) → IsLeastTick g bucket n s → IsLeastTick g bucket n t → s ≡ t
one_tick g bucket n s t p q = elim (cases_lt s t) [
  | inl before ↦ absurd (omega (arith, p.is_enough, q.too_few_before s (omega (arith, p.later)) before))
  | inr not ↦ elim (cases_lt t s) [
    | inl before ↦ absurd (omega (arith, q.is_enough, p.too_few_before t (omega (arith, q.later)) before))
    | inr other ↦ omega (arith, not, other)
  ]
]

-- a bucket that has the tokens is not short of them
not_short : (g : ℕ) (bucket : Bucket) (n t : ℕ) → n ≤ bucket.tokens → IsLeastTick g bucket n t → ⊥
not_short g bucket n t enough least =
    omega (arith, enough, least.too_few_before g (omega arith) least.later, ap (λ (b : Bucket). b.tokens) (filled_none g bucket))

one_take : (g : ℕ) (bucket : Bucket) (n : ℕ) (take other : Take) (left after : Bucket) → Takes g bucket n take left → Takes g bucket n other after → (take ≡ other) × (left ≡ after)
one_take g bucket n Granted Granted left after p q = (refl, p.1 ∙ sym q.1)
one_take g bucket n Granted (Short t) left after p q = absurd (not_short g bucket n t p.0 q.0)
one_take g bucket n (Short s) Granted left after p q = absurd (not_short g bucket n s q.0 p.0)
one_take g bucket n (Short s) (Short t) left after p q = (ap Short (one_tick g bucket n s t p.0 q.0), p.1 ∙ sym q.1)

one_taking : (v : Option Bucket) (old : Limits) (b n : ℕ) (result other : Result Take LimitError) (new after : Limits) → TakesFrom v old b n result new → TakesFrom v old b n other after → (result ≡ other) × (new ≡ after)
one_taking None old b n result other new after p q = (p.0 ∙ sym q.0, p.1 ∙ sym q.1)
one_taking (Some bucket) old b n (Ok take) (Ok other) new after (fits, (left, takes, goes)) (fits_too, (rest, takes_too, goes_too)) =
    let same = one_take old.greatest bucket n take other left rest takes takes_too in
    (ap Ok same.0, goes ∙ ap (λ x. with_buckets old (with_value old.buckets b x)) same.1 ∙ sym goes_too)
one_taking (Some bucket) old b n (Ok take) (Err e) new after p q = absurd (true-false (sym q.0 ∙ p.0))
one_taking (Some bucket) old b n (Err e) (Ok take) new after p q = absurd (true-false (sym p.0 ∙ q.0))
one_taking (Some bucket) old b n (Err e) (Err f) new after p q = (ap Err (p.1 ∙ sym q.1), p.2 ∙ sym q.2)

-- ---- the waits do not depend on the order in which they end
ended_is : (v : Option Schedule) (limits : Limits) (x : ℕ) → ended_value v limits x ≡ with_retries limits (ended_value v limits x).retries
ended_is None limits x = refl
ended_is (Some retry) limits x = refl

only_rows : (limits : Limits) (due : List ℕ) → after_waits limits due ≡ with_retries limits (after_waits limits due).retries
only_rows limits [] = refl
only_rows limits (x ∷ due) =
    let next : Limits = ended_value (value_at limits.retries x) limits x in
    only_rows next due ∙ ap (λ (l : Limits). with_retries l (after_waits next due).retries) (ended_is (value_at limits.retries x) limits x)

-- the row of one whose wait ends
ended_here : (v : Option Schedule) (limits : Limits) (x : ℕ) → value_at limits.retries x ≡ v → value_at (ended_value v limits x).retries x ≡ option_map at_once v
ended_here None limits x at = at
ended_here (Some retry) limits x at = get_or-set_same limits.retries x (Some (at_once retry)) None (elim (cases_lt x (length limits.retries)) [
  | inl inside ↦ inside
  | inr past ↦ absurd (none-some retry (sym (get_or_past limits.retries x None past) ∙ at))
])

ended_other : (v : Option Schedule) (limits : Limits) (x r : ℕ) → r ≢ x → value_at (ended_value v limits x).retries r ≡ value_at limits.retries r
ended_other None limits x r apart = refl
ended_other (Some retry) limits x r apart = get_or-set_other limits.retries x r (Some (at_once retry)) None apart

ended_length : (v : Option Schedule) (limits : Limits) (x : ℕ) → length (ended_value v limits x).retries ≡ length limits.retries
ended_length None limits x = refl
ended_length (Some retry) limits x = length-set limits.retries x (Some (at_once retry))

twice : (v : Option Schedule) → option_map at_once (option_map at_once v) ≡ option_map at_once v
twice None = refl
twice (Some retry) = refl

-- what one end leaves of a row that ends, too, now or later
ended_once : (limits : Limits) (x r : ℕ) → option_map at_once (value_at (ended_value (value_at limits.retries x) limits x).retries r) ≡ option_map at_once (value_at limits.retries r)
ended_once limits x r = elim (cases_eq r x) [
  | inl same ↦
      ap (λ y. option_map at_once (value_at (ended_value (value_at limits.retries x) limits x).retries y)) same
      ∙ ap (option_map at_once) (ended_here (value_at limits.retries x) limits x refl) ∙ twice (value_at limits.retries x) ∙ ap (λ y. option_map at_once (value_at limits.retries y)) (sym same)
  | inr apart ↦ ap (option_map at_once) (ended_other (value_at limits.retries x) limits x r apart)
]

row_kept : (limits : Limits) (due : List ℕ) (r : ℕ) → (Contains due r → ⊥) → value_at (after_waits limits due).retries r ≡ value_at limits.retries r
row_kept limits [] r out = refl
row_kept limits (x ∷ due) r out =
    row_kept (ended_value (value_at limits.retries x) limits x) due r (λ c. out (suc c.0, omega (arith, c.1), c.2))
    ∙ ended_other (value_at limits.retries x) limits x r (λ same. out (0, omega arith, sym same))

row_ended : (limits : Limits) (due : List ℕ) (r : ℕ) → Contains due r → value_at (after_waits limits due).retries r ≡ option_map at_once (value_at limits.retries r)
row_ended limits [] r (k, inside, at) = absurd (omega (arith, inside))
row_ended limits (x ∷ due) r c =
    let next : Limits = ended_value (value_at limits.retries x) limits x in
    elim (is_in_or_out due r) [
      | inl later ↦ row_ended next due r later ∙ ended_once limits x r
      | inr out ↦ row_kept next due r out ∙ first c out
    ]
  where
    first : Contains (x ∷ due) r → (Contains due r → ⊥) → value_at (ended_value (value_at limits.retries x) limits x).retries r ≡ option_map at_once (value_at limits.retries r)
    first (zero, inside, at) out = subst (λ y. value_at (ended_value (value_at limits.retries x) limits x).retries y ≡ option_map at_once (value_at limits.retries y)) at (ended_here (value_at limits.retries x) limits x refl)
    first (suc k, inside, at) out = absurd (out (k, omega (arith, inside), at))

rows_length : (limits : Limits) (due : List ℕ) → length (after_waits limits due).retries ≡ length limits.retries
rows_length limits [] = refl
rows_length limits (x ∷ due) = rows_length (ended_value (value_at limits.retries x) limits x) due ∙ ended_length (value_at limits.retries x) limits x

pub in_any_order : (limits : Limits) (due other : List ℕ) → ((r : ℕ) → Contains due r → Contains other r) → ((r : ℕ) → Contains other r → Contains due r) → after_waits limits due ≡ after_waits limits other
in_any_order limits due other to from =
    only_rows limits due
    ∙ ap (with_retries limits) (ext_get_or None (after_waits limits due).retries (after_waits limits other).retries (rows_length limits due ∙ sym (rows_length limits other)) (λ r inside. each r))
    ∙ sym (only_rows limits other)
  where
    each : (r : ℕ) → value_at (after_waits limits due).retries r ≡ value_at (after_waits limits other).retries r
    each r = elim (is_in_or_out due r) [
      | inl c ↦ row_ended limits due r c ∙ sym (row_ended limits other r (to r c))
      | inr out ↦ row_kept limits due r out ∙ sym (row_kept limits other r (λ c. out (from r c)))
    ]

-- ---- a step
same_itself : (old : Limits) (a : Answer) → IsSameAnswer old a a
same_itself old (answer.Bucket b) = refl
same_itself old (answer.Took take) = refl
same_itself old (answer.Retry r) = refl
same_itself old (answer.Failed next) = refl
same_itself old answer.Done = refl
same_itself old (answer.Due due) = record { retries = λ r. refl; ticks = refl }
same_itself old (answer.Refused e) = refl

same_by : (old : Limits) (a b : Answer) → a ≡ b → IsSameAnswer old a b
same_by old a b same = subst (IsSameAnswer old a) same (same_itself old a)

abbrev IsAlike : Limits → Answer → Answer → Limits → Limits → Type 0
IsAlike old a b new after = (new ≡ after) × IsSameAnswer old a b

one_clock : (old : Limits) (n : ℕ) (a b : Answer) (new after : Limits) → ClockStep old n a new → ClockStep old n b after → IsAlike old a b new after
one_clock old n (answer.Due due) (answer.Due other) new after p q = (
  p.2 ∙ in_any_order (at_tick old (greatest_at old n)) due other (λ r c. (q.1.all_due r).1 ((p.1.all_due r).0 c)) (λ r c. (p.1.all_due r).1 ((q.1.all_due r).0 c)) ∙ sym q.2,
  record { retries = as_often old.retries (greatest_at old n) due other p.1 q.1; ticks = same_ticks old.retries (greatest_at old n) due other p.1 q.1 },
)
one_clock old n (answer.Due due) (answer.Refused e) new after p q = absurd (omega (arith, p.0, q.0))
one_clock old n (answer.Refused e) (answer.Due due) new after p q = absurd (omega (arith, p.0, q.0))
one_clock old n (answer.Refused e) (answer.Refused f) new after p q = (p.2 ∙ sym q.2, ap answer.Refused (p.1 ∙ sym q.1))
one_clock old n (answer.Due due) (answer.Bucket b) new after p q = absurd q
one_clock old n (answer.Due due) (answer.Took take) new after p q = absurd q
one_clock old n (answer.Due due) (answer.Retry r) new after p q = absurd q
one_clock old n (answer.Due due) (answer.Failed next) new after p q = absurd q
one_clock old n (answer.Due due) answer.Done new after p q = absurd q
one_clock old n (answer.Refused e) (answer.Bucket b) new after p q = absurd q
one_clock old n (answer.Refused e) (answer.Took take) new after p q = absurd q
one_clock old n (answer.Refused e) (answer.Retry r) new after p q = absurd q
one_clock old n (answer.Refused e) (answer.Failed next) new after p q = absurd q
one_clock old n (answer.Refused e) answer.Done new after p q = absurd q
one_clock old n (answer.Bucket b) other new after p q = absurd p
one_clock old n (answer.Took take) other new after p q = absurd p
one_clock old n (answer.Retry r) other new after p q = absurd p
one_clock old n (answer.Failed next) other new after p q = absurd p
one_clock old n answer.Done other new after p q = absurd p

one_step : (old : Limits) (c : Call) (a b : Answer) (new after : Limits) → Step old c a new → Step old c b after → IsAlike old a b new after
one_step old (call.Bucket burst period) a b new after p q = (p.1 ∙ sym q.1, same_by old a b (p.0 ∙ sym q.0))
one_step old (call.Take from n) a b new after (result, told, takes) (other, told_too, takes_too) =
    let same = one_taking (value_at old.buckets from) old from n result other new after takes takes_too in
    (same.1, same_by old a b (told ∙ ap of_take same.0 ∙ sym told_too))
one_step old (call.Retry base cap most) a b new after p q = (p.1 ∙ sym q.1, same_by old a b (p.0 ∙ sym q.0))
one_step old (call.Fail r) a b new after p q = (p.1 ∙ sym q.1, same_by old a b (p.0 ∙ sym q.0))
one_step old (call.Done r) a b new after p q = (p.1 ∙ sym q.1, same_by old a b (p.0 ∙ sym q.0))
one_step old (call.Clock n) a b new after p q = one_clock old n a b new after p q

pub answers_are_determined : AnswersAreDetermined
answers_are_determined [] [] [] start one two p q = (p ∙ sym q, p)
answers_are_determined [] [] (b ∷ others) start one two p q = absurd q
answers_are_determined [] (a ∷ answers) others start one two p q = absurd p
answers_are_determined (c ∷ calls) [] others start one two p q = absurd p
answers_are_determined (c ∷ calls) (a ∷ answers) [] start one two p q = absurd q
answers_are_determined (c ∷ calls) (a ∷ answers) (b ∷ others) start one two (mid, step, run) (half, step_too, run_too) =
    let same = one_step start c a b mid half step step_too in
    let rest = answers_are_determined calls answers others mid one two run (subst (λ x. Run x calls others two) (sym same.0) run_too) in
    (rest.0, (mid, step, subst (Step start c b) (sym same.0) step_too, same.1, rest.1))

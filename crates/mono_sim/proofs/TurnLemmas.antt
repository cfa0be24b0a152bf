-- Each runtime of a plan has its steps.
use Rattle.std.proofs.Common.{◌≡◌, ◌<◌, ◌≤◌, ◌+◌, ◌*◌, ◌-◌, ◌/◌, ◌^◌, ◌==◌, ℕ, zero, suc, Bool, true, false, List, [], ◌∷◌, ◌++◌, length, get_or, take, take_all, set, Ok, Err, refl, ap, sym, subst, ◌∙◌, inl, inr, arith}
use Rattle.std.specs.Prelude.{⊤, min, Result, ◌⊎◌, if◌then◌else◌}
use Rattle.std.specs.List.{swap_remove}
use Rattle.std.proofs.Math.Nat.{div-lt_iff_lt-mul, mul-lt-mul_of_pos_right, mod-lt}
use Rattle.std.proofs.lemmas.Bool.{cases_eq, cases_lt, ne_eqb}
use Rattle.std.proofs.lemmas.List.{length_push, length-set, length-take, take-append-le}
use Rattle.std.proofs.lemmas.List.Sums.{sum_by-swap_remove, sum_by_push}
use Rattle.mono_model.specs.Random.{drawn}
use Rattle.mono_task.specs.Members.{FutureOf, SharedOf}
use Rattle.mono_driver.specs.declared.clock.Clock
use Rattle.mono_rt.specs.declared.contexts.Cx.{Cx}
use Rattle.mono_rt.specs.declared.parts.errors.RunError.{RunError}
use Rattle.mono_rt.specs.declared.parts.errors.RunError.TheVariants as error
use Rattle.mono_sim.specs.declared.steps.Step.{Step}
use Rattle.mono_sim.specs.declared.steps.Step.TheVariants as step
use Rattle.mono_sim.specs.declared.worlds.World.{World}
use Rattle.mono_sim.specs.Plans.{Plan, place_in, number_in, after_drawing, after_run, disturbed, next_round, is_over, is_over_by}
use Rattle.mono_sim.specs.Worlds.{Steps, Chain}
use Rattle.mono_sim.specs.Turns.{times, times_in, count_in, IsVisit, IsLast, planned, planned_by, unnumbered, Visits, turned_in, acts_in, IsFair, StaysPlanned, IsPlanned, IsOneRun}

abbrev pub one_at : ℕ → ℕ → ℕ
one_at i n = if n == i then 1 else 0

-- a number that is drawn below n
drawn_less : (a n : ℕ) → a < 2 ^ 32 → 0 < n → a * n / 2 ^ 32 < n
drawn_less a n small some = (div-lt_iff_lt-mul (omega arith)).1 (subst (λ m. a * n < m) (swapped n) (mul-lt-mul_of_pos_right small some))
  where
    swapped : (n : ℕ) → 2 ^ 32 * n ≡ n * 2 ^ 32
    swapped n = omega arith

some_waits : (xs : List ℕ) → is_over_by xs ≡ false → 0 < length xs
some_waits [] is = cc
some_waits (x ∷ xs) is = omega arith

none_waits : (xs : List ℕ) → is_over_by xs ≡ true → xs ≡ []
none_waits [] is = refl
none_waits (x ∷ xs) is = cc

-- numbers
min_le : (a b : ℕ) → min a b ≤ a
min_le a b = omega arith

min_some : (a b : ℕ) → 0 < a → 0 < b → 0 < min a b
min_some a b p q = omega (arith, p, q)

less_on : (p m w : ℕ) → p < m → m ≤ w → p < w
less_on p m w a b = omega (arith, a, b)

none_less : (a b c : ℕ) → a + b ≡ c → b ≡ 0 → a ≡ c
none_less a b c p q = omega (arith, p, q)

none_more : (a b c : ℕ) → a ≡ b + c → c ≡ 0 → a ≡ b
none_more a b c p q = omega (arith, p, q)

moved_on : (a b w s x : ℕ) → a + x ≡ w → b ≡ s + x → a + b ≡ w + s
moved_on a b w s x p q = omega (arith, p, q)

some_on : (a b : ℕ) → 0 < b → a ≡ b → 0 < a
some_on a b p q = omega (arith, p, q)

fewer_wait : (q w n : ℕ) → q + 1 ≡ w → w ≤ suc n → q ≤ n
fewer_wait q w n p few = omega (arith, p, few)

fewer_served : (q w t s n : ℕ) → q + 1 ≡ w → t ≡ s + 1 → 2 * w + s + 1 ≤ suc n → 2 * q + t + 1 ≤ n
fewer_served q w t s n p r few = omega (arith, p, r, few)

fewer_finished : (q w t s n : ℕ) → q + 1 ≡ w → t ≡ s → 2 * w + s + 1 ≤ suc n → 2 * q + t + 1 ≤ n
fewer_finished q w t s n p r few = omega (arith, p, r, few)

fewer_round : (w s n : ℕ) → w ≡ 0 → 2 * w + s + 1 ≤ suc n → s ≤ n
fewer_round w s n p few = omega (arith, p, few)

-- a runtime that waits is drawn from those that wait
pub place_below : (plan : Plan) → 0 < length plan.waiting → place_in plan < length plan.waiting
place_below plan some =
    less_on (place_in plan) (min (length plan.waiting) (2 ^ 32 - 1)) (length plan.waiting)
    (drawn_less (drawn plan.rand) (min (length plan.waiting) (2 ^ 32 - 1)) (mod-lt _ (omega arith)) (min_some (length plan.waiting) (2 ^ 32 - 1) some (omega arith))) (min_le (length plan.waiting) (2 ^ 32 - 1))

length_removed : (xs : List ℕ) (p : ℕ) → 0 < length xs → length (swap_remove xs p 0) + 1 ≡ length xs
length_removed xs p some = one_less (length (swap_remove xs p 0)) (length xs) (length (set xs p (get_or xs (length xs - 1) 0))) some (length-take (length xs - 1) (set xs p (get_or xs (length xs - 1) 0))) (length-set xs p (get_or xs (length xs - 1) 0))
  where
    one_less : (q w v : ℕ) → 0 < w → q ≡ min (w - 1) v → v ≡ w → q + 1 ≡ w
    one_less q w v p r e = omega (arith, p, r, e)

none_at : (n i : ℕ) → (n ≡ i → ⊥) → one_at i n ≡ 0
none_at n i apart = ap (λ b. if b then 1 else 0) (ne_eqb n i apart)

-- a number that is not drawn
waiting_other : (i : ℕ) (plan : Plan) → 0 < length plan.waiting → (number_in plan ≡ i → ⊥) → times i (after_drawing plan).waiting ≡ times i plan.waiting
waiting_other i plan some apart = none_less _ _ _ (sum_by-swap_remove (one_at i) plan.waiting (place_in plan) 0 (place_below plan some)) (none_at (number_in plan) i apart)

served_other : (i : ℕ) (plan : Plan) → (number_in plan ≡ i → ⊥) → times i (after_drawing plan).served ≡ times i plan.served
served_other i plan apart = none_more _ _ _ (sum_by_push (one_at i) plan.served (number_in plan)) (none_at (number_in plan) i apart)

-- the plan has each number as often after a draw
times_drawn : (i : ℕ) (plan : Plan) → 0 < length plan.waiting → times_in i (after_drawing plan) ≡ times_in i plan
times_drawn i plan some = moved_on _ _ _ _ (one_at i (number_in plan)) (sum_by-swap_remove (one_at i) plan.waiting (place_in plan) 0 (place_below plan some)) (sum_by_push (one_at i) plan.served (number_in plan))

take_last : (xs : List ℕ) (x : ℕ) → take (length (xs ++ x ∷ []) - 1) (xs ++ x ∷ []) ≡ xs
take_last xs x =
    let longer : length (xs ++ x ∷ []) - 1 ≡ length xs = omega (arith, length_push xs x) in
    ap (λ n. take n (xs ++ x ∷ [])) longer ∙ take-append-le (length xs) xs (x ∷ []) (omega arith) ∙ take_all (length xs) xs (omega arith)

-- A runtime waits for its step for at most so many steps.
abbrev pub Awaits : ℕ → ℕ → Plan → Type 0
Awaits i n plan = ((0 < times i plan.waiting) × (length plan.waiting ≤ n)) ⊎ ((0 < times i plan.served) × (2 * length plan.waiting + length plan.served + 1 ≤ n))

some_in : (i : ℕ) (xs : List ℕ) → 0 < times i xs → 0 < length xs
some_in i [] some = absurd (no some)
  where
    no : 0 < 0 → ⊥
    no p = omega (arith, p)
some_in i (x ∷ xs) some = omega arith

awaits_some : (i : ℕ) (plan : Plan) → Awaits i 0 plan → ⊥
awaits_some i plan (inl (waits, few)) = both (length plan.waiting) (some_in i plan.waiting waits) few
  where
    both : (w : ℕ) → 0 < w → w ≤ 0 → ⊥
    both w p q = omega (arith, p, q)
awaits_some i plan (inr (waits, few)) = none (2 * length plan.waiting + length plan.served) few
  where
    none : (m : ℕ) → m + 1 ≤ 0 → ⊥
    none m p = omega (arith, p)

awaits_first : (i n : ℕ) (plan : Plan) → 0 < times_in i plan → 2 * count_in plan ≤ n → Awaits i n plan
awaits_first i n plan some few = elim (cases_lt 0 (times i plan.waiting)) [
  | inl waits ↦ inl (waits, first (length plan.waiting) (length plan.served) n few)
  | inr none ↦ inr (others (times i plan.waiting) (times i plan.served) some none, second (length plan.waiting) (length plan.served) n (some_in i plan.served (others (times i plan.waiting) (times i plan.served) some none)) few)
]
  where
    first : (w s n : ℕ) → 2 * (w + s) ≤ n → w ≤ n
    first w s n p = omega (arith, p)

    others : (a b : ℕ) → 0 < a + b → a ≤ 0 → 0 < b
    others a b p q = omega (arith, p, q)

    second : (w s n : ℕ) → 0 < s → 2 * (w + s) ≤ n → 2 * w + s + 1 ≤ n
    second w s n p q = omega (arith, p, q)

-- another runtime had its step
awaits_drawn : (i n : ℕ) (plan next : Plan) → is_over plan ≡ false → (number_in plan ≡ i → ⊥) → next.waiting ≡ (after_drawing plan).waiting → (next.served ≡ (after_drawing plan).served) ⊎ (next.served ≡ plan.served) → Awaits i (suc n) plan → Awaits i n next
awaits_drawn i n plan next going apart waiting served (inl (waits, few)) =
    let some = some_waits plan.waiting going in
    inl (subst (λ xs. 0 < times i xs) (sym waiting) (some_on _ _ waits (waiting_other i plan some apart)), subst (λ xs. length xs ≤ n) (sym waiting) (fewer_wait _ _ n (length_removed plan.waiting (place_in plan) some) few))
awaits_drawn i n plan next going apart waiting (inl served) (inr (waits, few)) =
    let fewer = ap (λ xs. length xs + 1) waiting ∙ length_removed plan.waiting (place_in plan) (some_waits plan.waiting going) in
    inr (subst (λ xs. 0 < times i xs) (sym served) (some_on _ _ waits (served_other i plan apart)), fewer_served (length next.waiting) (length plan.waiting) (length next.served) (length plan.served) n fewer (ap length served ∙ length_push plan.served (number_in plan)) few)
awaits_drawn i n plan next going apart waiting (inr served) (inr (waits, few)) =
    let fewer = ap (λ xs. length xs + 1) waiting ∙ length_removed plan.waiting (place_in plan) (some_waits plan.waiting going) in
    inr (subst (λ xs. 0 < times i xs) (sym served) waits, fewer_finished (length next.waiting) (length plan.waiting) (length next.served) (length plan.served) n fewer (ap length served) few)

-- a round began
awaits_round : (i n : ℕ) (plan : Plan) → is_over plan ≡ true → Awaits i (suc n) plan → Awaits i n (next_round plan)
awaits_round i n plan over (inl (waits, few)) = absurd (some_none (length plan.waiting) (some_in i plan.waiting waits) (ap length (none_waits plan.waiting over)))
  where
    some_none : (w : ℕ) → 0 < w → w ≡ 0 → ⊥
    some_none w p q = omega (arith, p, q)
awaits_round i n plan over (inr (waits, few)) = inl (waits, fewer_round (length plan.waiting) (length plan.served) n (ap length (none_waits plan.waiting over)) few)

-- what an answer leaves of the lists
waiting_after : (answer : Result ⊤ RunError) (turned : Bool) (plan : Plan) → (after_run answer turned plan).waiting ≡ plan.waiting
waiting_after (Ok x) turned plan = refl
waiting_after (Err error.Turns) turned plan = refl
waiting_after (Err error.Driver) turned plan = refl
waiting_after (Err error.AtCapacity) turned plan = refl
waiting_after (Err error.Memory) turned plan = refl

served_after : (answer : Result ⊤ RunError) (turned : Bool) (plan : Plan) → ((after_run answer turned (after_drawing plan)).served ≡ (after_drawing plan).served) ⊎ ((after_run answer turned (after_drawing plan)).served ≡ plan.served)
served_after (Ok x) turned plan = inr (take_last plan.served (number_in plan))
served_after (Err error.Turns) turned plan = inl refl
served_after (Err error.Driver) turned plan = inl refl
served_after (Err error.AtCapacity) turned plan = inl refl
served_after (Err error.Memory) turned plan = inl refl

times_after : (i : ℕ) (answer : Result ⊤ RunError) (turned : Bool) (plan : Plan) → 0 < length plan.waiting → (times_in i (after_run answer turned (after_drawing plan)) ≡ times_in i plan) ⊎ IsLast i (step.Ran (number_in plan) answer)
times_after i (Ok x) turned plan some = elim (cases_eq (number_in plan) i) [
  | inl same ↦ inr same
  | inr apart ↦ inl (both (waiting_other i plan some apart) (ap (times i) (take_last plan.served (number_in plan))))
]
  where
    both : {a b w s : ℕ} → a ≡ w → b ≡ s → a + b ≡ w + s
    both p q = omega (arith, p, q)
times_after i (Err error.Turns) turned plan some = inl (times_drawn i plan some)
times_after i (Err error.Driver) turned plan some = inl (times_drawn i plan some)
times_after i (Err error.AtCapacity) turned plan some = inl (times_drawn i plan some)
times_after i (Err error.Memory) turned plan some = inl (times_drawn i plan some)

times_round : (i : ℕ) (plan : Plan) → times_in i (next_round plan) ≡ times_in i plan
times_round i plan = swapped (times i plan.served) (times i plan.waiting)
  where
    swapped : (a b : ℕ) → a + b ≡ b + a
    swapped a b = omega arith

planned_more : (acts : List (Step × Bool)) (did : Step) (turned : Bool) (plan : Plan) → planned_by (acts ++ (did, turned) ∷ []) plan ≡ planned did turned (planned_by acts plan)
planned_more [] did turned plan = refl
planned_more ((d, t) ∷ acts) did turned plan = planned_more acts did turned (planned d t plan)

planned_unnumbered : (did : Step) (turned : Bool) (plan : Plan) → planned (unnumbered did) turned plan ≡ planned did turned plan
planned_unnumbered (step.Ran i answer) turned plan = refl
planned_unnumbered (step.Stood i) turned plan = refl
planned_unnumbered step.Round turned plan = refl
planned_unnumbered step.Moved turned plan = refl
planned_unnumbered step.Over turned plan = refl
planned_unnumbered step.Stuck turned plan = refl

module _ {F O D P W U J A V : Type 0} (number : O → ℕ) (sharing : SharedOf W) (clock : Clock.Ghosts D) (future : FutureOf F (Cx F O P U W J A V) O) where
  -- a step
  step_planned : (did : Step) (old new : World F O D P W U J A V) (s : Steps number sharing clock future did old new) → new.schedule ≡ planned did (turned_in number sharing clock future did old new s) old.schedule
  step_planned (step.Ran i answer) old new (drawn, ran) = ap (λ w. w.schedule) ran.noted ∙ ap (after_run answer ran.turned) ran.ran.plan
  step_planned (step.Stood i) old new (drawn, is) = ap (λ w. w.schedule) is
  step_planned step.Round old new (over, (unfinished, goes)) = ap (λ w. w.schedule) goes.round
  step_planned step.Moved old new (over, (unfinished, moved)) = ap (λ w. w.schedule) moved.moved
  step_planned step.Over old new (over, (done, same)) = ap (λ w. w.schedule) same
  step_planned step.Stuck old new (over, (unfinished, stuck, same)) = ap (λ w. w.schedule) same

  awaits_step : (i n : ℕ) (did : Step) (old new : World F O D P W U J A V) → Steps number sharing clock future did old new → Awaits i (suc n) old.schedule → Awaits i n new.schedule ⊎ IsVisit i did
  awaits_step i n (step.Ran j answer) old new (drawn, ran) waits = elim (cases_eq j i) [
    | inl same ↦ inr same
    | inr apart ↦ inl (subst (Awaits i n) (sym (step_planned (step.Ran j answer) old new (drawn, ran)))
        (awaits_drawn i n old.schedule (after_run answer ran.turned (after_drawing old.schedule)) drawn.some (λ is. apart (drawn.number ∙ is)) (waiting_after answer ran.turned (after_drawing old.schedule)) (served_after answer ran.turned old.schedule) waits))
  ]
  awaits_step i n (step.Stood j) old new (drawn, is) waits = elim (cases_eq j i) [
    | inl same ↦ inr same
    | inr apart ↦ inl (subst (Awaits i n) (sym (ap (λ w. w.schedule) is))
        (awaits_drawn i n old.schedule (disturbed (after_drawing old.schedule)) drawn.some (λ e. apart (drawn.number ∙ e)) refl (inl refl) waits))
  ]
  awaits_step i n step.Round old new (over, (unfinished, goes)) waits = inl (subst (Awaits i n) (sym (ap (λ w. w.schedule) goes.round)) (awaits_round i n old.schedule over waits))
  awaits_step i n step.Moved old new (over, (unfinished, moved)) waits = inl (subst (Awaits i n) (sym (ap (λ w. w.schedule) moved.moved)) (awaits_round i n old.schedule over waits))
  awaits_step i n step.Over old new s waits = inr tt
  awaits_step i n step.Stuck old new s waits = inr tt

  awaits_chain : (i n left : ℕ) (old new : World F O D P W U J A V) (chain : Chain number sharing clock future n old new) → Awaits i (n + left) old.schedule → Awaits i left new.schedule ⊎ Visits number sharing clock future i n old new chain
  awaits_chain i zero left old new same waits = inl (subst (λ w. Awaits i left w.schedule) (sym same) (subst (λ k. Awaits i k old.schedule) (none left) waits))
    where
      none : (left : ℕ) → 0 + left ≡ left
      none left = omega arith
  awaits_chain i (suc n) left old new (mid, (did, (before, last))) waits = elim (awaits_chain i n (suc left) old mid before (subst (λ k. Awaits i k old.schedule) (moved n left) waits)) [
    | inl still ↦ elim (awaits_step i left did mid new last still) [
      | inl more ↦ inl more
      | inr visit ↦ inr (inr visit)
    ]
    | inr visited ↦ inr (inl visited)
  ]
    where
      moved : (n left : ℕ) → suc n + left ≡ n + suc left
      moved n left = omega arith

  pub fair : IsFair number sharing clock future
  fair i n old new chain some few = elim (awaits_chain i n 0 old new chain (subst (λ k. Awaits i k old.schedule) (none n) (awaits_first i n old.schedule some few))) [
    | inl waits ↦ absurd (awaits_some i new.schedule waits)
    | inr visits ↦ visits
  ]
    where
      none : (n : ℕ) → n ≡ n + 0
      none n = omega arith

  pub stays : StaysPlanned number sharing clock future
  stays i (step.Ran j answer) old new (drawn, ran) =
      let is = ap (times_in i) (step_planned (step.Ran j answer) old new (drawn, ran)) in
      elim (times_after i answer ran.turned old.schedule (some_waits old.schedule.waiting drawn.some)) [
        | inl same ↦ inl (is ∙ same)
        | inr last ↦ inr (subst (λ k. IsLast i (step.Ran k answer)) (sym drawn.number) last)
      ]
  stays i (step.Stood j) old new (drawn, is) = inl (ap (λ w. times_in i w.schedule) is ∙ times_drawn i old.schedule (some_waits old.schedule.waiting drawn.some))
  stays i step.Round old new (over, (unfinished, goes)) = inl (ap (λ w. times_in i w.schedule) goes.round ∙ times_round i old.schedule)
  stays i step.Moved old new (over, (unfinished, moved)) = inl (ap (λ w. times_in i w.schedule) moved.moved ∙ times_round i old.schedule)
  stays i step.Over old new (over, (done, same)) = inl (ap (λ w. times_in i w.schedule) same)
  stays i step.Stuck old new (over, (unfinished, stuck, same)) = inl (ap (λ w. times_in i w.schedule) same)

  pub follows : IsPlanned number sharing clock future
  follows zero old new same = ap (λ w. w.schedule) same
  follows (suc n) old new (mid, (did, (before, last))) =
      let turned = turned_in number sharing clock future did mid new last in
      let acts = acts_in number sharing clock future n old mid before in
      step_planned did mid new last ∙ ap (planned did turned) (follows n old mid before) ∙ sym (planned_unnumbered did turned (planned_by acts old.schedule)) ∙ sym (planned_more acts (unnumbered did) turned old.schedule)

  pub one_run : IsOneRun number sharing clock future
  one_run n m a b c d one other same alike =
      follows n a b one ∙ ap (planned_by (acts_in number sharing clock future n a b one)) same ∙ ap (λ acts. planned_by acts c.schedule) alike ∙ sym (follows m c d other)

-- Lists of calls on a wheel.
use Rattle.std.proofs.Common.{arith, ◌≡◌, ◌≢◌, zero, suc, ℕ, ◌+◌, ◌<◌, ◌≤◌, inl, inr, length, List, [], ◌∷◌, ◌++◌, Option, Some, None, get_or, take, drop, length-append, ap, refl, sym, ◌∙◌, subst}
use Rattle.std.proofs.lemmas.Bool.Decides.{eqb_tells}
use Rattle.std.proofs.lemmas.List.{take-append-drop}
use Rattle.std.proofs.Math.Seq.{drop-cons}
use Rattle.std.specs.Prelude.{OnOk, is_err, IsTrue, ◌↔◌}
use Rattle.std.specs.declared.result.Result.{Result}
use Rattle.std.specs.declared.result.Result.TheVariants.{Ok, Err}
use Rattle.mono_wheel.specs.Start.{start, top_level}
use Rattle.mono_wheel.specs.Model.{Timed, Wheel, timed_at, timed_after, Changed, Polled}
use Rattle.mono_wheel.specs.Credit.{credit, takes, CreditFollows}
use Rattle.mono_wheel.specs.Calls.{CanCall, Leaves, raise, Made, own_moves, sum_of_own, FewSteps, FewMoves, FewInAll, AllMade, Stopped}
use Rattle.mono_wheel.specs.declared.laws.WheelCall.{WheelCall}
use Rattle.mono_wheel.specs.declared.wheel.InsertError.{InsertError}
use Rattle.mono_wheel.proofs.CreditLemmas.{credit-empty, takes-at-once}

-- one call more
made-then : (old now next : Wheel) (done : List WheelCall) (raises : ℕ) (call : WheelCall) → Made old done raises now → CanCall now call → Leaves now call next → Made old (done ++ call ∷ []) (raises + raise now call) next
made-then old now next [] raises call (none, same) can leaves =
    let r : raise now call ≡ raise old call = ap (λ w. raise w call) same in
    (next, 0, subst (λ w. CanCall w call) same can, subst (λ w. Leaves w call next) same leaves, omega (arith, none, r), (refl, refl))
made-then old now next (first ∷ done) raises call (middle, more, can_first, leaves_first, sum, rest) can leaves =
    (middle, more + raise now call, can_first, leaves_first, omega (arith, sum), made-then middle now next done more call rest can leaves)

take-one : (xs : List WheelCall) (n : ℕ) (x : WheelCall) → n < length xs → x ≡ get_or xs n x → take (suc n) xs ≡ take n xs ++ x ∷ []
take-one [] n x b e = absurd (omega (arith, b))
take-one (y ∷ ys) zero x b e = ap (λ z. z ∷ []) (sym e)
take-one (y ∷ ys) (suc n) x b e = ap (λ zs. y ∷ zs) (take-one ys n x (omega (arith, b)) e)

own-then : (done : List WheelCall) (call : WheelCall) → sum_of_own (done ++ call ∷ []) ≡ sum_of_own done + own_moves call
own-then [] call = omega arith
own-then (first ∷ done) call = let r = own-then done call in omega (arith, r)

pub all-then : (old now next : Wheel) (calls : List WheelCall) (n before between after : ℕ) (call : WheelCall) → n < length calls → call ≡ get_or calls n call →
    AllMade old now (take n calls) before between → CanCall now call → Leaves now call next → FewSteps now next between after (raise now call) → FewMoves now next between after (own_moves call) → FewInAll now next between after 1 → AllMade old next (take (n + 1) calls) before after
all-then old now next calls n before between after call low is made can leaves few moved all_moved =
    let grown : take n calls ++ call ∷ [] ≡ take (n + 1) calls = sym (take-one calls n call low is) ∙ ap (λ m. take m calls) (let e : suc n ≡ n + 1 = omega arith in e) in
    let longer : length (take (n + 1) calls) ≡ length (take n calls) + 1 = ap length (sym grown) ∙ length-append (take n calls) (call ∷ []) in
    let own : sum_of_own (take (n + 1) calls) ≡ sum_of_own (take n calls) + own_moves call = ap sum_of_own (sym grown) ∙ own-then (take n calls) call in (
      made.0 + raise now call,
      subst (λ cs. Made old cs (made.0 + raise now call) next) grown (made-then old now next (take n calls) made.0 call made.1 can leaves),
      (let a = made.2 in omega (arith, a, few)),
      (let b = made.3 in omega (arith, b, moved, own)),
      (let d = made.4 in omega (arith, d, all_moved, longer)),
    )

take-all : (xs : List WheelCall) (n : ℕ) → length xs ≤ n → take n xs ≡ xs
take-all [] zero l = refl
take-all [] (suc n) l = refl
take-all (x ∷ xs) zero l = absurd (omega (arith, l))
take-all (x ∷ xs) (suc n) l = ap (λ zs. x ∷ zs) (take-all xs n (omega (arith, l)))

pub all-made : (old now : Wheel) (calls : List WheelCall) (n before after : ℕ) → length calls ≤ n → AllMade old now (take n calls) before after → AllMade old now calls before after
all-made old now calls n before after l made = subst (λ cs. AllMade old now cs before after) (take-all calls n l) made

pub stopped-at : (old now : Wheel) (calls : List WheelCall) (n before after : ℕ) (call : WheelCall) → n < length calls → call ≡ get_or calls n call → AllMade old now (take n calls) before after → (CanCall now call → ⊥) → Stopped old now calls before after
stopped-at old now calls n before after call low is made cannot = record {
  done = take n calls;
  stop = call;
  left = drop (suc n) calls;
  are = sym (take-append-drop n calls) ∙ ap (λ zs. take n calls ++ zs) (drop-cons calls n call low ∙ ap (λ z. z ∷ drop (suc n) calls) (sym is));
  made = made;
  cannot = cannot;
}

-- ---- one key alone in a wheel, which is taken once and comes out
module _ (old reserved inserted polled : Wheel) (key tick : ℕ) (result : Result ℕ InsertError) (answer : Option ℕ)
    (empty : (k : ℕ) → timed_at old k ≡ None) (same : (k : ℕ) → timed_at reserved k ≡ timed_at old k) (begins : reserved.elapsed ≡ 0) (ahead : 0 < tick)
    (changed : OnOk result (Changed reserved inserted key (Some record { tick = tick; registered = tick }))) (cause : IsTrue (is_err result) ↔ (tick ≤ reserved.elapsed))
    (left : Polled inserted polled tick answer) where
  went_in : Changed reserved inserted key (Some record { tick = tick; registered = tick })
  went_in = by result changed cause
    where
      by : (r : Result ℕ InsertError) → OnOk r (Changed reserved inserted key (Some record { tick = tick; registered = tick })) → (IsTrue (is_err r) ↔ (tick ≤ reserved.elapsed)) → Changed reserved inserted key (Some record { tick = tick; registered = tick })
      by (Ok when) done is = done
      by (Err error) done is = absurd (let l = is.0 refl in omega (arith, l, begins, ahead))

  some_not : (t : Timed) → None ≡ Some t → ⊥
  some_not t e = cc

  other-none : (k : ℕ) → k ≢ key → timed_at inserted k ≡ None
  other-none k ne = went_in.others k ne ∙ same k ∙ empty k

  pub out : (k : ℕ) → timed_at polled k ≡ None
  out k = by answer left
    where
      others : (o : ℕ) → timed_at inserted o ≡ Some record { tick = tick; registered = tick } → o ≡ key
      others o is = elim (eqb_tells o key) [ inl e ↦ e.1 | inr e ↦ absurd (some_not record { tick = tick; registered = tick } (sym (other-none o e.1) ∙ is)) ]

      by : (a : Option ℕ) → Polled inserted polled tick a → timed_at polled k ≡ None
      by None nothing = absurd (nothing.none key tick (record { tick = tick; registered = tick }, went_in.here, refl, omega arith))
      by (Some first) came = elim (eqb_tells k first) [
        | inl e ↦ ap (timed_at polled) e.1 ∙ came.out
        | inr e ↦ elim (eqb_tells k key) [
          | inl f ↦ absurd (e.1 (f.1 ∙ sym (came_key came.due)))
          | inr f ↦ came.others k e.1 ∙ ap (timed_after inserted.elapsed polled.elapsed) (other-none k f.1)
        ]
      ]
        where
          came_key : (timed : Timed) × (timed_at inserted first ≡ Some timed) × (timed.tick ≡ polled.elapsed) × (polled.elapsed ≤ tick) → first ≡ key
          came_key due = elim (eqb_tells first key) [ inl f ↦ f.1 | inr f ↦ absurd (some_not due.0 (sym (other-none first f.1) ∙ due.1)) ]

  module _ (steps steps2 : ℕ) (follows : OnOk result (CreditFollows reserved inserted key)) (fall : steps2 + credit polled ≡ steps + credit inserted) (starts : start top_level 0 tick ≡ tick) where
    pub one-step : steps2 ≡ steps + 1
    one-step =
        let none : credit reserved ≡ 0 = credit-empty reserved (λ k. same k ∙ empty k) in
        let after : credit polled ≡ 0 = credit-empty polled out in
        let was : takes reserved.elapsed (timed_at reserved key) ≡ 0 = ap (takes reserved.elapsed) (same key ∙ empty key) in
        let here : takes reserved.elapsed (timed_at inserted key) ≡ 1 = ap (takes reserved.elapsed) went_in.here ∙ ap (λ e. takes e (Some record { tick = tick; registered = tick })) begins ∙ takes-at-once tick ahead starts in
        let whole = by result follows cause in
        omega (arith, fall, none, after, was, here, whole)
      where
        by : (r : Result ℕ InsertError) → OnOk r (CreditFollows reserved inserted key) → (IsTrue (is_err r) ↔ (tick ≤ reserved.elapsed)) → CreditFollows reserved inserted key
        by (Ok when) done is = done
        by (Err error) done is = absurd (let l = is.0 refl in omega (arith, l, begins, ahead))

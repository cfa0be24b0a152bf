-- Worked runs, by computation.
use Rattle.std.proofs.Common.{◌≡◌, ◌<◌, true, [], ◌∷◌, ℕ, List, refl, subst, arith, lit<, lit≤}
use Rattle.std.specs.Prelude.{Ok, Err, Option, Some}
use Rattle.mono_model.specs.Table.{Table}
use Rattle.mono_model.specs.Due.{ListsDue}
use Rattle.mono_model.proofs.DueLemmas.{lists, may_list}
use Rattle.mono_limit.specs.Buckets.{IsLeastTick, tick_of_enough}
use Rattle.mono_limit.specs.declared.schedules.Schedule.{Schedule}
use Rattle.mono_limit.specs.Schedules.{waiting_value}
use Rattle.mono_limit.specs.Examples.{Fills, GivesUp, EitherOrder, OneOrder, two_fail, two_due, MayAnswer}
use Rattle.mono_limit.specs.Limiter.{no_limits}
use Rattle.mono_limit.proofs.FillLemmas.{enough_at_tick}
use Rattle.mono_limit.specs.declared.LimitError.TheVariants as error
use Rattle.mono_limit.specs.declared.Take.TheVariants.{Granted, Short}

ends : (table : Table Schedule) (g : ℕ) (due : List ℕ) → lists waiting_value table g due ≡ true → ListsDue waiting_value table g due
ends table g due = may_list waiting_value table g due refl

-- one token of a bucket of two tokens in ten ticks
short : (g tokens tick : ℕ) → g < 100 → tokens < 1 → tick_of_enough g (record { burst = 2; period = 10; origin = 0; tokens = tokens }) 1 ≡ tick
    → IsLeastTick g (record { burst = 2; period = 10; origin = 0; tokens = tokens }) 1 tick
short g tokens tick early few at =
    subst (λ x. IsLeastTick g (record { burst = 2; period = 10; origin = 0; tokens = tokens }) 1 x) at
    (enough_at_tick g (record { burst = 2; period = 10; origin = 0; tokens = tokens }) 1 (record { has_period = lit< tt; holds = omega (arith, few); began = omega arith }) few (lit≤ tt))

pub fills : Fills
fills = (
  _,
  (
    _,
    (refl, refl),
    (
      _,
      (Err error.TooMany, refl, (refl, refl, refl)),
      (
        _,
        (Ok Granted, refl, (refl, (_, (lit≤ tt, refl), refl))),
        (
          _,
          (Ok (Short 10), refl, (refl, (_, (short 0 0 10 (lit< tt) (lit< tt) refl, refl), refl))),
          (
            _,
            (lit≤ tt, ends _ 9 [] refl, refl),
            (
              _,
              (Ok (Short 10), refl, (refl, (_, (short 9 0 10 (lit< tt) (lit< tt) refl, refl), refl))),
              (
                _,
                (lit≤ tt, ends _ 25 [] refl, refl),
                (
                  _,
                  (Ok Granted, refl, (refl, (_, (lit≤ tt, refl), refl))),
                  (_, (Ok (Short 30), refl, (refl, (_, (short 25 0 30 (lit< tt) (lit< tt) refl, refl), refl))), refl),
                ),
              ),
            ),
          ),
        ),
      ),
    ),
  ),
)

pub gives_up : GivesUp
gives_up = (
  _,
  (
    _,
    (refl, refl),
    (
      _,
      (refl, refl),
      (
        _,
        (refl, refl),
        (
          _,
          (refl, refl),
          (
            _,
            (lit≤ tt, ends _ 100 (0 ∷ []) refl, refl),
            (
              _,
              (refl, refl),
              (
                _,
                (lit≤ tt, ends _ 300 (0 ∷ []) refl, refl),
                (
                  _,
                  (refl, refl),
                  (
                    _,
                    (lit≤ tt, ends _ 1000 (0 ∷ []) refl, refl),
                    (_, (refl, refl), (_, (refl, refl), refl)),
                  ),
                ),
              ),
            ),
          ),
        ),
      ),
    ),
  ),
)

in_order : MayAnswer (no_limits 0 2) two_fail (two_due (0 ∷ 1 ∷ []))
in_order = (_, (_, (refl, refl), (_, (refl, refl), (_, (refl, refl), (_, (refl, refl), (_, (lit≤ tt, ends _ 100 (0 ∷ 1 ∷ []) refl, refl), refl))))))

turned : MayAnswer (no_limits 0 2) two_fail (two_due (1 ∷ 0 ∷ []))
turned = (_, (_, (refl, refl), (_, (refl, refl), (_, (refl, refl), (_, (refl, refl), (_, (lit≤ tt, ends _ 100 (1 ∷ 0 ∷ []) refl, refl), refl))))))

pub either_order : EitherOrder
either_order = (in_order, turned)

first_tick : (a b : ℕ) → (xs ys : List (Option ℕ)) → Some a ∷ xs ≡ Some b ∷ ys → a ≡ b
first_tick a b xs ys e = cc

same_length : (v w : Option ℕ) → (xs : List (Option ℕ)) → v ∷ w ∷ xs ≡ v ∷ [] → ⊥
same_length v w xs e = cc

pub one_order : OneOrder
one_order = (λ same. absurd (omega (arith, first_tick 100 200 _ _ same.ticks)), λ same. same_length _ _ _ same.ticks)

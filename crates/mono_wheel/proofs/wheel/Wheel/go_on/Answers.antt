use Rattle.std.proofs.Common.{◌≡◌, ◌<◌, ◌≤◌, Some, refl, subst, sym}
use Rattle.mono_wheel.specs.Model.{Timed, IsPending, timed_at}
use Rattle.mono_wheel.specs.Holdings.{Advanced}
use Rattle.mono_wheel.proofs.wheel.Wheel.go_on.Goals as goal

pub move_on-requires-clause-none : goal.move_on-requires-clause-none
move_on-requires-clause-none g c = subst (λ w. (key : _) → IsPending w key → ⊥) (sym (c.if-enter.ensures.same refl)) c.requires.none

pub move_on-requires-clause-ahead : goal.move_on-requires-clause-ahead
move_on-requires-clause-ahead g c = subst (λ w. w.elapsed ≤ c.args.now) (sym (c.if-enter.ensures.same refl)) c.requires.ahead

pub returns-clause-advanced : goal.returns-clause-advanced
returns-clause-advanced g c = subst (λ w. Advanced w c.move_on.new.self) (c.if-enter.ensures.same refl) c.move_on.ensures.advanced

pub returns-clause-passed : goal.returns-clause-passed
returns-clause-passed g c none =
    subst (λ w. (c.move_on.new.self.elapsed ≡ c.args.now) × ((key : _) (timed : Timed) → timed_at w key ≡ Some timed → c.args.now < timed.tick)) (c.if-enter.ensures.same refl) (c.move_on.ensures.passed none)

pub returns-clause-reached : goal.returns-clause-reached
returns-clause-reached g c is = subst (λ w. (w.elapsed < c.move_on.new.self.elapsed) × (c.move_on.new.self.elapsed ≤ c.args.now)) (c.if-enter.ensures.same refl) (c.move_on.ensures.reached is)

use Rattle.std.proofs.Common.{◌≡◌, ℕ, Some, Option, sym, ◌∙◌, arith}
use Rattle.mono_model.specs.Ticks.{up}
use Rattle.mono_time.specs.Sleeps.{armed}
use Rattle.mono_time.proofs.laws.none_fires_early.Goals as goal

armed-tick : (t u : ℕ) (v w : Option ℕ) → Some (armed t v) ≡ Some (armed u w) → t ≡ u
armed-tick t u v w e = cc

pub returns : goal.returns
returns c = λ sleeps clock deadline s waker task at is first.
    let same : up deadline ≡ first.tick = armed-tick _ _ _ _ (sym is ∙ first.is_armed_there) in
    omega (arith, same, first.is_due, at)

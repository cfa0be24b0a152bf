-- Worked checks, by computation.
use Rattle.std.proofs.Common.{◌≡◌, true, refl, lit<, lit≤, ℕ, List, [], ◌∷◌}
use Rattle.mono_model.specs.Table.{Table}
use Rattle.mono_model.specs.Sleeps.{Sleep, MayFire}
use Rattle.mono_trace.specs.Traces.{is_allowed}
use Rattle.mono_trace.specs.Examples.{OtherWayRound, InOrder, NotTwice, NotArmed}
use Rattle.mono_trace.proofs.AllowedListLemmas.{allows_exactly}

fires : (table : Table Sleep) (g : ℕ) (fired : List ℕ) → is_allowed table g fired ≡ true → MayFire table g fired
fires table g fired e = (allows_exactly table g fired).0 e

pub in_order : InOrder
in_order = (_, (_, (refl, refl), (_, (refl, refl), (_, (lit≤ tt, fires _ 9 (0 ∷ 1 ∷ []) refl, refl), refl))))

pub other_way_round : OtherWayRound
other_way_round = (_, (_, (refl, refl), (_, (refl, refl), (_, (lit≤ tt, fires _ 9 (1 ∷ 0 ∷ []) refl, refl), refl))))

pub not_twice : NotTwice
not_twice = (_, (refl, refl), (_, (refl, refl), λ new step. step.1.no_doubles 0 1 0 (lit< tt) (lit< tt) refl))

pub not_armed : NotArmed
not_armed = (_, (refl, refl), (_, (refl, refl), λ new step. (step.1.all_due 0).0 (0, lit< tt, refl)))

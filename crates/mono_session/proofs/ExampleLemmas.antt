-- Worked runs, by computation.
use Rattle.std.proofs.Common.{◌≡◌, true, [], ◌∷◌, ℕ, List, refl, ap, ◌∙◌, lit≤}
use Rattle.mono_model.specs.Table.{Table}
use Rattle.mono_model.specs.Due.{ListsDue}
use Rattle.mono_model.proofs.DueLemmas.{lists, may_list}
use Rattle.mono_session.specs.Keeper.{Session, with_greatest, acquired, owner_answer}
use Rattle.mono_session.specs.Answers.{of_owner}
use Rattle.mono_session.specs.Answers as answer
use Rattle.mono_session.specs.Steps.{closing_value, greatest_at, without_all}
use Rattle.mono_session.specs.Examples.{KeptOpen, NextOwns, ClosedOwnsNot}

closes : (table : Table Session) (g : ℕ) (due : List ℕ) → lists closing_value table g due ≡ true → ListsDue closing_value table g due
closes table g due = may_list closing_value table g due refl

pub kept_open : KeptOpen
kept_open =
    (_, (_, (refl, refl), (_, (refl, refl), (_, (refl, refl), (_, (refl, refl), (_, (lit≤ tt, closes _ 5 [] refl, refl), (_, (refl, refl), (_, (lit≤ tt, closes _ 14 [] refl, refl), (_, (lit≤ tt, closes _ 15 (0 ∷ []) refl, refl), (_, (refl, refl), refl))))))))))

pub next_owns : NextOwns
next_owns =
    (_, (_, (refl, refl), (_, (refl, refl), (_, (refl, refl), (_, (refl, refl), (_, (refl, refl), (_, (lit≤ tt, closes _ 10 (0 ∷ []) refl, refl), (_, (refl, refl), (_, (refl, refl), (_, (refl, refl), (_, (refl, refl), refl)))))))))))

owner-free : (s : ℕ) → answer.Owner s ≡ answer.Free → ⊥
owner-free s e = cc

pub closed_owns_not : ClosedOwnsNot
closed_owns_not (new, (m1, s1, (m2, s2, (m3, s3, (m4, s4, end))))) =
    owner-free 0 (s4.0 ∙ ap (λ m. of_owner (owner_answer m 7)) (s3.2 ∙ ap (λ m. without_all (with_greatest m (greatest_at m 10000000)) (0 ∷ [])) (s2.1 ∙ ap (λ m. acquired m 0 7) s1.1)))

use Rattle.std.proofs.Common.{◌≡◌, ◌==◌, ℕ, true, false, List, [], ◌∷◌, refl, ap}
use Rattle.mono_rt.proofs.parts.laws.a_park_finds_whom_the_value_lists.Goals as goal

false-true : false ≡ true → ⊥
false-true e = cc

some-none : (t : ℕ) (ts : List ℕ) → t ∷ ts ≡ [] → ⊥
some-none t ts e = cc

pub returns-clause-held : goal.returns-clause-held
returns-clause-held g c = (λ p t is unfinished. ap (λ n. n == 0) is, (λ turned. refl, tt))

pub returns-clause-apart : goal.returns-clause-apart
returns-clause-apart g c = λ found. false-true (found.0 [] 1 refl refl)

pub returns-clause-owing : goal.returns-clause-owing
returns-clause-owing g c = λ found. some-none 0 [] (found.1.0 tt)

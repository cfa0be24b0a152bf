-- Steps one after another make no task, if none of them makes one.
use Rattle.std.specs.Prelude.{⊤, List, [], ◌∷◌}
use Rattle.std.specs.List.{FoldsTo}
use Rattle.std.proofs.Common.{sym}
use Rattle.mono_model.specs.Tasks.{Tasks}
use Rattle.mono_combine.specs.BranchLists.{EachInTurn}
use Rattle.mono_quiet.specs.Numbers.{MakesNone, none_at_all, none_on}

-- A state holds the context, and whatever else the steps hand on.
module _ {M S : Type 0} (work : S → Tasks ⊤) where
  pub each_makes_none : (step : M → S → M → S → Type 0) → ((m : M) (s : S) (n : M) (t : S) → step m s n t → MakesNone work s t)
      → (ms : List M) (s : S) (ns : List M) (t : S) → EachInTurn step ms s ns t → MakesNone work s t
  each_makes_none step one [] s [] t q = none_at_all work s t q
  each_makes_none step one [] s (n ∷ ns) t q = absurd q
  each_makes_none step one (m ∷ ms) s [] t q = absurd q
  each_makes_none step one (m ∷ ms) s (n ∷ ns) t q = none_on work s q.0 t (one m s n q.0 q.1) (each_makes_none step one ms q.0 ns t q.2)

  pub fold_makes_none : (step : S → M → S → Type 0) → ((s : S) (m : M) (t : S) → step s m t → MakesNone work s t)
      → (s : S) (ms : List M) (t : S) → FoldsTo step s ms t → MakesNone work s t
  fold_makes_none step one s [] t q = none_at_all work s t (sym q)
  fold_makes_none step one s (m ∷ ms) t q = none_on work s q.0 t (one s m q.0 q.1) (fold_makes_none step one q.0 ms t q.2)

-- A sequence of calls, by the effect of one call.
use Rattle.std.specs.Prelude.{◌≡◌, List, [], ◌∷◌, ◌++◌, refl}
use Rattle.std.proofs.Common.{subst}

module _ {S E : Type 0} (Step : S → E → S → Type 0) where
  abbrev pub Run : S → List E → S → Type 0
  Run a [] b = b ≡ a
  Run a (e ∷ es) b = (m : S) × Step a e m × Run m es b

  -- Calls lead from the first to the second.
  pub record Leads (a b : S) : Type 0 where
    pub events : List E
    pub run : Run a events b

  pub leads_itself : (a : S) → Leads a a
  leads_itself a = record { events = []; run = refl }

  run_on : (xs ys : List E) (a b c : S) → Run a xs b → Run b ys c → Run a (xs ++ ys) c
  run_on [] ys a b c same more = subst (λ m. Run m ys c) same more
  run_on (x ∷ xs) ys a b c (m, step, rest) more = (m, step, run_on xs ys m b c rest more)

  pub leads_on : (a b c : S) → Leads a b → Leads b c → Leads a c
  leads_on a b c p q = record { events = p.events ++ q.events; run = run_on p.events q.events a b c p.run q.run }

  -- One call leads from the state before it to the state after it.
  pub leads_by : (e : E) (a b : S) → Step a e b → Leads a b
  leads_by e a b step = record { events = e ∷ []; run = (b, step, refl) }

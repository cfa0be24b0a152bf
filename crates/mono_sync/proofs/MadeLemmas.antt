-- A part that is made or removed leaves the other parts, and each listed task.
use Rattle.std.proofs.Common.{◌≡◌, ℕ, Bool, true, List, Result, Ok, Err, sym, subst, inl}
use Rattle.std.specs.Prelude.{◌==◌}
use Rattle.std.specs.List.{list_any}
use Rattle.mono_model.specs.Table.{Table}
use Rattle.mono_task.specs.Owed.{Keeps}
use Rattle.mono_sync.specs.declared.tables.RemoveError.{RemoveError}
use Rattle.mono_sync.specs.declared.tables.RemoveError.TheVariants.{Missing, InUse}
use Rattle.mono_sync.specs.Many.{LeadsEach, lists_each, Makes, Removes}
use Rattle.mono_sync.specs.ManyLeads.{each_itself, each_next, each_without, keeps_next, keeps_without}

module _ {X : Type 0} (leads : X → X → Type 0) (waiting owes : X → List ℕ) (itself : (x : X) → leads x x) where
  pub made_leads : (a b : Table X) (x : X) (r : Result ℕ X) → Makes a x r b → LeadsEach leads waiting owes a b
  made_leads a b x (Ok k) (is, made) = subst (LeadsEach leads waiting owes a) (sym made) (each_next leads waiting owes itself a x)
  made_leads a b x (Err y) (is, same) = subst (LeadsEach leads waiting owes a) (sym same) (each_itself leads waiting owes itself a)

  pub removed_leads : (a b : Table X) (k : ℕ) (r : Result X RemoveError) → Removes waiting owes a k r b → LeadsEach leads waiting owes a b
  removed_leads a b k (Ok x) (at, idle, is) = subst (LeadsEach leads waiting owes a) (sym is) (each_without leads waiting owes itself a k x at idle)
  removed_leads a b k (Err Missing) (none, same) = subst (LeadsEach leads waiting owes a) (sym same) (each_itself leads waiting owes itself a)
  removed_leads a b k (Err InUse) (used, same) = subst (LeadsEach leads waiting owes a) (sym same) (each_itself leads waiting owes itself a)

module _ {X : Type 0} (lists : X → List ℕ → ℕ → Bool) (me : ℕ) where
  same_keeps : (a b : Table X) → b ≡ a → Keeps (lists_each lists) me a b
  same_keeps a b same = subst (Keeps (lists_each lists) me a) (sym same) (λ p t listed. inl listed)

  pub made_keeps : (a b : Table X) (x : X) (r : Result ℕ X) → Makes a x r b → Keeps (lists_each lists) me a b
  made_keeps a b x (Ok k) (is, made) = subst (Keeps (lists_each lists) me a) (sym made) (keeps_next lists me a x)
  made_keeps a b x (Err y) (is, same) = same_keeps a b same

  pub removed_keeps : (waiting owes : X → List ℕ) → ((x : X) (p : List ℕ) (t : ℕ) → lists x p t ≡ true → list_any (λ u. u == t) (waiting x) ≡ true)
      → (a b : Table X) (k : ℕ) (r : Result X RemoveError) → Removes waiting owes a k r b → Keeps (lists_each lists) me a b
  removed_keeps waiting owes some a b k (Ok x) (at, idle, is) = subst (Keeps (lists_each lists) me a) (sym is) (keeps_without lists waiting some me a k x at idle.0)
  removed_keeps waiting owes some a b k (Err Missing) (none, same) = same_keeps a b same
  removed_keeps waiting owes some a b k (Err InUse) (used, same) = same_keeps a b same

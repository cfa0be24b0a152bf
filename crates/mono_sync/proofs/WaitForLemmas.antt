-- What a watched value answers a future that waits for a condition.
use Rattle.std.proofs.Common.{◌≡◌, true, false, Bool, ℕ, Option, sym, ap, subst}
use Rattle.mono_sync.specs.declared.watch.Watch.{Watch}
use Rattle.mono_sync.specs.declared.watch.Changing.{Changing}
use Rattle.mono_sync.specs.declared.watch.Changing.TheVariants as changing
use Rattle.mono_sync.specs.Watches.{Changes, GivesUp}
use Rattle.mono_sync.specs.WaitsFor.{WaitsFor, WaitsIf}

module _ {T : Type 0} (says : T → Bool → Type 0) (a b : Watch T) (ticket : Option ℕ) (me : ℕ) (v : Bool) (said : says a.value v) where
  pub meets : v ≡ true → GivesUp a ticket me b → WaitsFor says a ticket me (changing.Changed b.version) b
  meets is gave = (v, (said, subst (λ m. WaitsIf m a ticket me (changing.Changed b.version) b) (sym is) (ap changing.Changed gave.1.1, gave)))

  pub waits : (r : Changing) → v ≡ false → Changes a a.version ticket me r b → WaitsFor says a ticket me r b
  waits r is changed = (v, (said, subst (λ m. WaitsIf m a ticket me r b) (sym is) changed))

use Rattle.std.proofs.Common.{subst}
use Rattle.std.specs.Prelude.{MatchBool}
use Rattle.mono_model.specs.FireOrder.{IsNoneDue}
use Rattle.mono_trace.proofs.parts.Parts.is_none_due.Goals as goal

pub returns : goal.returns
returns c =
    subst (λ m. MatchBool c.is_none_due.result (IsNoneDue m.now.sleeps.table m.now.sleeps.greatest) (IsNoneDue m.now.sleeps.table m.now.sleeps.greatest → ⊥)) c.self.view_is c.is_none_due.ensures

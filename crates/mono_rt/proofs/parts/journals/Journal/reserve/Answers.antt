use Rattle.std.proofs.Common.{sym, subst, ◌∙◌}
use mathlib.Core.List.{IsPrefix}
use Rattle.mono_rt.proofs.parts.journals.Journal.reserve.Goals as goal

pub invariant_of-self : goal.invariant_of-self
invariant_of-self c =
    let old = c.args.self.now in record {
      kept = λ unfull. c.reserve.ensures.items ∙ old.kept unfull;
      begins = subst (λ xs. ∥ IsPrefix xs old.history.entries ∥₁) (sym c.reserve.ensures.items) old.begins;
    }

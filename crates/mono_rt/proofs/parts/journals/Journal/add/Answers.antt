use Rattle.std.proofs.Common.{true, false, ◌≡◌, refl, sym, subst, ◌∙◌}
use Rattle.mono_rt.specs.Journals.{IsKept}
use Rattle.mono_rt.proofs.KeepingLemmas.{keeps_beginning}
use Rattle.mono_rt.proofs.parts.journals.Journal.add.Goals as goal

true-false : true ≡ false → ⊥
true-false e = cc

pub invariant_of-self : goal.invariant_of-self
invariant_of-self c =
    let old = c.args.self.now in record {
      kept = λ unfull. absurd (true-false (sym c.if-self.true ∙ unfull));
      begins = rw c.and-self.ensures (keeps_beginning old.is_full old.entries.items old.is_full old.entries.items old.history.entries c.args.entry (subst (λ b. IsKept b old.entries.items b old.entries.items c.args.entry) (sym c.if-self.true) refl) old.kept old.begins);
    }

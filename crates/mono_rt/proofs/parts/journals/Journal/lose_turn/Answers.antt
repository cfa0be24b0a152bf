use Rattle.std.proofs.Common.{refl, true}
use Rattle.mono_rt.proofs.KeepingLemmas.{keeps_beginning}
use Rattle.mono_rt.proofs.parts.journals.Journal.lose_turn.Goals as goal

pub invariant_of-self : goal.invariant_of-self
invariant_of-self c =
    let old = c.args.self.now in record {
      kept = λ unfull. absurd (cc);
      begins = rw c.told-history.ensures (keeps_beginning old.is_full old.entries.items true old.entries.items old.history.entries _ refl old.kept old.begins);
    }

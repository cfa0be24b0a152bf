use Rattle.std.proofs.Common.{true, refl}
use Rattle.mono_rt.specs.Reaches.{by_parts}
use Rattle.mono_rt.proofs.JobActLemmas.{by_no_job}
use Rattle.mono_rt.proofs.contexts.Cx.note_out_of_memory.Goals as goal

pub returns-clause-reached : goal.returns-clause-reached
returns-clause-reached g c =
    let number = g.O.Outcome.output_number in
    let parts = c.args.self.now.parts in
    by_parts number g.W.SharedState c.args.self.now _ (by_no_job number parts parts.blocking true refl refl (λ h. refl)) refl refl refl refl (λ h. h) (g.met.W.SharedState.leads_itself _) refl refl

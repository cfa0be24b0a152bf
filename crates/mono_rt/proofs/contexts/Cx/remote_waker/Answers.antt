use Rattle.std.proofs.Common.{true, refl}
use Rattle.mono_rt.specs.Leads.{leads_itself}
use Rattle.mono_rt.specs.Refinement.{hosting_of}
use Rattle.mono_rt.specs.Reaches.{by_parts}
use Rattle.mono_rt.proofs.JobActLemmas.{by_no_job}
use Rattle.mono_rt.proofs.contexts.Cx.remote_waker.Goals as goal

pub returns-in-Ok-clause-reached : goal.returns-in-Ok-clause-reached
returns-in-Ok-clause-reached g c =
    let number = g.O.Outcome.output_number in
    by_parts number g.W.SharedState c.args.self.now _ (leads_itself number hosting_of c.args.self.now.parts) refl refl refl c.hand_out.ensures.same (λ h. refl) (g.met.W.SharedState.leads_itself _) refl refl

pub returns-in-Err-clause-reached : goal.returns-in-Err-clause-reached
returns-in-Err-clause-reached g c =
    let number = g.O.Outcome.output_number in
    let parts = c.args.self.now.parts in
    by_parts number g.W.SharedState c.args.self.now _ (by_no_job number parts parts.blocking true refl refl (λ h. refl)) refl refl refl c.hand_out.ensures.same (λ h. h) (g.met.W.SharedState.leads_itself _) refl refl

use Rattle.std.proofs.Common.{true, refl, ap, sym, subst}
use Rattle.mono_model.specs.Table.{next_number}
use Rattle.mono_rt.specs.JobActs.{with_blocking}
use Rattle.mono_rt.specs.Leads.{Leads}
use Rattle.mono_rt.specs.Reaches.{by_parts}
use Rattle.mono_rt.specs.Refinement.{hosting_of}
use Rattle.mono_rt.proofs.JobActLemmas.{by_no_job}
use Rattle.mono_rt.proofs.contexts.Cx.poll_job.Goals as goal

pub returns-in-None-clause-reached : goal.returns-in-None-clause-reached
returns-in-None-clause-reached g c =
    let number = g.O.Outcome.output_number in
    let parts = c.args.self.now.parts in
    by_parts number g.W.SharedState c.args.self.now _
    (subst (λ p. Leads number hosting_of parts (with_blocking p p.blocking p.acts true)) (sym c.in-None.ensures.same) (by_no_job number parts parts.blocking true refl refl (λ h. refl)))
    (ap (λ p. next_number p.tasks.tasks.table) c.in-None.ensures.same) refl refl refl (λ h. h) (g.met.W.SharedState.leads_itself _) refl refl

pub returns-in-Some-clause-reached : goal.returns-in-Some-clause-reached
returns-in-Some-clause-reached g c =
    by_parts g.O.Outcome.output_number g.W.SharedState c.args.self.now _ c.refuse_job_poll.ensures.leads
    (ap (λ p. next_number p.tasks.tasks.table) c.in-Some.ensures.refused.asks.parts) refl refl refl (λ h. h) (g.met.W.SharedState.leads_itself _) refl refl

pub returns-in-Err-poll_job-clause-reached : goal.returns-in-Err-poll_job-clause-reached
returns-in-Err-poll_job-clause-reached g c =
    by_parts g.O.Outcome.output_number g.W.SharedState c.args.self.now _ c.poll_job.ensures.leads
    (ap (λ p. next_number p.tasks.tasks.table) c.poll_job.ensures.asks.asks.parts) refl refl refl (λ h. h) (g.met.W.SharedState.leads_itself _) refl refl

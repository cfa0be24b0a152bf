use Rattle.std.proofs.Common.{refl}
use Rattle.mono_rt.proofs.JobActLemmas.{by_no_job, refused_asks, refused_leads}
use Rattle.mono_rt.proofs.parts.job_acts.Parts+O+Blockings+P.refuse_job_poll.Goals as goal

pub returns-in-None-clause-leads : goal.returns-in-None-clause-leads
returns-in-None-clause-leads g c =
    let old = c.args.self.now in
    by_no_job g.O.Outcome.output_number old old.blocking old.is_out_of_memory refl refl (λ q. q)

pub returns-in-Some-clause-refused : goal.returns-in-Some-clause-refused
returns-in-Some-clause-refused g c =
    refused_asks g.O.Outcome.output_number g.P.Job.Output.Outcome.output_number c.args.job c.in-Some.refusal c.args.self.now _ c.in-Some.ensures.refused c.note.ensures

pub returns-in-Some-clause-leads : goal.returns-in-Some-clause-leads
returns-in-Some-clause-leads g c =
    refused_leads g.O.Outcome.output_number g.P.Job.Output.Outcome.output_number c.args.job c.in-Some.refusal c.args.self.now _ c.in-Some.ensures.refused c.note.ensures

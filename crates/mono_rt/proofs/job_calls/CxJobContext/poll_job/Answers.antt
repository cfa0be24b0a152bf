use Rattle.mono_rt.proofs.ContextLemmas.{polled, polled_work}
use Rattle.mono_rt.proofs.job_calls.CxJobContext.poll_job.Goals as goal

pub returns-clause-polled : goal.returns-clause-polled
returns-clause-polled g c =
    polled g.P.Job.Output.Outcome.output_number c.args.job c.poll_job.result c.args.self.now.parts c.poll_job.new.self.parts c.poll_job.ensures.polled

pub returns-clause-work : goal.returns-clause-work
returns-clause-work g c =
    polled_work g.P.Job.Output.Outcome.output_number c.args.job c.poll_job.result c.args.self.now.parts c.poll_job.new.self.parts c.poll_job.ensures.polled

pub returns-clause-reached : goal.returns-clause-reached
returns-clause-reached g c = c.poll_job.ensures.reached

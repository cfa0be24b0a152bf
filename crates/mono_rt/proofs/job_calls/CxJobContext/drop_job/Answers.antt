use Rattle.mono_rt.proofs.ContextLemmas.{asks, asks_work}
use Rattle.mono_rt.proofs.job_calls.CxJobContext.drop_job.Goals as goal

pub returns-clause-dropped : goal.returns-clause-dropped
returns-clause-dropped g c = asks _ _ _ c.args.job _ c.args.self.now.parts c.drop_job.new.self.parts c.drop_job.ensures.dropped.asks

pub returns-clause-work : goal.returns-clause-work
returns-clause-work g c = asks_work _ _ _ c.args.job _ c.args.self.now.parts c.drop_job.new.self.parts c.drop_job.ensures.dropped.asks

pub returns-clause-reached : goal.returns-clause-reached
returns-clause-reached g c = c.drop_job.ensures.reached

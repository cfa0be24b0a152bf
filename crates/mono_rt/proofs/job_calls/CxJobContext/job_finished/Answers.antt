use Rattle.std.proofs.Common.{ap}
use Rattle.mono_task.specs.Work.{without_outputs}
use Rattle.mono_rt.proofs.ContextLemmas.{found}
use Rattle.mono_rt.proofs.job_calls.CxJobContext.job_finished.Goals as goal

pub returns-clause-found : goal.returns-clause-found
returns-clause-found g c = found c.args.job c.job_finished.result c.args.self.now.parts.blocking.table c.job_finished.new.self.parts.blocking.table c.job_finished.ensures.asked.shown

pub returns-clause-jobs : goal.returns-clause-jobs
returns-clause-jobs g c = c.job_finished.ensures.asked.jobs

pub returns-clause-work : goal.returns-clause-work
returns-clause-work g c = ap (λ x. without_outputs x.tasks.tasks) c.job_finished.ensures.asked.parts

pub returns-clause-reached : goal.returns-clause-reached
returns-clause-reached g c = c.job_finished.ensures.reached

use Rattle.mono_rt.proofs.ContextLemmas.{lack_noted, lack_work}
use Rattle.mono_rt.proofs.job_calls.CxRemoteContext.remote_waker.Goals as goal

pub returns-clause-memory : goal.returns-clause-memory
returns-clause-memory g c = lack_noted c.remote_waker.result c.args.self.now c.remote_waker.new.self c.remote_waker.ensures.noted

pub returns-clause-work : goal.returns-clause-work
returns-clause-work g c = lack_work c.remote_waker.result c.args.self.now c.remote_waker.new.self c.remote_waker.ensures.same c.remote_waker.ensures.noted

pub returns-clause-reached : goal.returns-clause-reached
returns-clause-reached g c = c.remote_waker.ensures.reached

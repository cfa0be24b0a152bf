use Rattle.mono_sim.proofs.ThreadLemmas.{as_on_threads}
use Rattle.mono_sim.proofs.laws.threads_may.Goals as goal

pub returns : goal.returns
returns g c = as_on_threads g.O.Outcome.output_number g.W.SharedState g.D.Clock g.F.TaskFuture

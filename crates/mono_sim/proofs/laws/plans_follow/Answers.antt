use Rattle.mono_sim.proofs.TurnLemmas.{follows, one_run}
use Rattle.mono_sim.proofs.laws.plans_follow.Goals as goal

pub returns-clause-planned : goal.returns-clause-planned
returns-clause-planned g c = follows g.O.Outcome.output_number g.W.SharedState g.D.Clock g.F.TaskFuture

pub returns-clause-one_run : goal.returns-clause-one_run
returns-clause-one_run g c = one_run g.O.Outcome.output_number g.W.SharedState g.D.Clock g.F.TaskFuture

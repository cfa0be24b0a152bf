use Rattle.mono_sim.proofs.TurnLemmas.{fair, stays}
use Rattle.mono_sim.proofs.laws.each_has_its_step.Goals as goal

pub returns-clause-fair : goal.returns-clause-fair
returns-clause-fair g c = fair g.O.Outcome.output_number g.W.SharedState g.D.Clock g.F.TaskFuture

pub returns-clause-stays : goal.returns-clause-stays
returns-clause-stays g c = stays g.O.Outcome.output_number g.W.SharedState g.D.Clock g.F.TaskFuture

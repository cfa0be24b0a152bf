use Rattle.mono_rt.proofs.SpentLemmas.{rests_if_spent}
use Rattle.mono_rt.proofs.parts.laws.a_spent_future_is_not_polled.Goals as goal

pub returns : goal.returns
returns g c = rests_if_spent g.O.Outcome.output_number g.W.SharedState g.F.TaskFuture

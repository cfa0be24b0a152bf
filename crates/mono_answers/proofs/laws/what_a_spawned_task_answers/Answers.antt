use Rattle.mono_answers.proofs.AnswerLemmas.{polls_give, drops_give}
use Rattle.mono_answers.proofs.laws.what_a_spawned_task_answers.Goals as goal

pub returns-clause-polled : goal.returns-clause-polled
returns-clause-polled g c = polls_give g.O.Outcome.output_number g.W.SharedState g.F.TaskFuture

pub returns-clause-dropped : goal.returns-clause-dropped
returns-clause-dropped g c = drops_give g.O.Outcome.output_number g.W.SharedState g.F.TaskFuture

use Rattle.mono_lines.proofs.ActorRunLemmas.{one_run}
use Rattle.mono_lines.proofs.actor.laws.lines_are_one_run.Goals as goal

pub returns : goal.returns
returns c = one_run

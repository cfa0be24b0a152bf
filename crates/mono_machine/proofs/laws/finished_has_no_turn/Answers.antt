use Rattle.mono_machine.proofs.FinishedTaskLemmas.{over_runs}
use Rattle.mono_machine.proofs.laws.finished_has_no_turn.Goals as goal

pub returns : goal.returns
returns c = λ events answers old new t valid given finished run. over_runs t events answers old new valid (record { given = given; finished = finished }) run

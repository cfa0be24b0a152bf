use Rattle.mono_machine.proofs.ExampleLemmas as row
use Rattle.mono_machine.proofs.rows.taken_has_finished.Goals as goal

pub returns : goal.returns
returns c = row.taken_has_finished

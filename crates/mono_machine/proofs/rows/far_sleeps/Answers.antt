use Rattle.mono_machine.proofs.ExampleLemmas as row
use Rattle.mono_machine.proofs.rows.far_sleeps.Goals as goal

pub returns : goal.returns
returns c = row.far_sleeps

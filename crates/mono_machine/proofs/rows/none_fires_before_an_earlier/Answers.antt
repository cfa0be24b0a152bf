use Rattle.mono_machine.proofs.ExampleLemmas as row
use Rattle.mono_machine.proofs.rows.none_fires_before_an_earlier.Goals as goal

pub returns : goal.returns
returns c = row.none_fires_before_an_earlier

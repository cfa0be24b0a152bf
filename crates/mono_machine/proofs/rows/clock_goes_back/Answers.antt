use Rattle.mono_machine.proofs.ExampleLemmas as row
use Rattle.mono_machine.proofs.rows.clock_goes_back.Goals as goal

pub returns : goal.returns
returns c = row.clock_goes_back

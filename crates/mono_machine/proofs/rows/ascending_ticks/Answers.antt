use Rattle.mono_machine.proofs.ExampleLemmas as row
use Rattle.mono_machine.proofs.rows.ascending_ticks.Goals as goal

pub returns : goal.returns
returns c = row.ascending_ticks

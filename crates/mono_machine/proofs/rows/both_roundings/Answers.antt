use Rattle.mono_machine.proofs.ExampleLemmas as row
use Rattle.mono_machine.proofs.rows.both_roundings.Goals as goal

pub returns : goal.returns
returns c = row.both_roundings

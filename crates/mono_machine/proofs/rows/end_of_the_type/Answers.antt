use Rattle.mono_machine.proofs.ExampleLemmas as row
use Rattle.mono_machine.proofs.rows.end_of_the_type.Goals as goal

pub returns : goal.returns
returns c = row.end_of_the_type

use Rattle.mono_machine.proofs.ExampleLemmas as row
use Rattle.mono_machine.proofs.rows.noted_twice.Goals as goal

pub returns : goal.returns
returns c = row.noted_twice

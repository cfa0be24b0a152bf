use Rattle.mono_machine.proofs.ExampleLemmas as row
use Rattle.mono_machine.proofs.rows.two_causes.Goals as goal

pub returns : goal.returns
returns c = row.two_causes

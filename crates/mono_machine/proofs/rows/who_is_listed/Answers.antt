use Rattle.mono_machine.proofs.ExampleLemmas as row
use Rattle.mono_machine.proofs.rows.who_is_listed.Goals as goal

pub returns : goal.returns
returns c = row.who_is_listed

use Rattle.mono_machine.proofs.ExampleLemmas as row
use Rattle.mono_machine.proofs.rows.on_the_caller.Goals as goal

pub returns : goal.returns
returns c = row.on_the_caller

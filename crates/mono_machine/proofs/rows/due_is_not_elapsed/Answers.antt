use Rattle.mono_machine.proofs.ExampleLemmas as row
use Rattle.mono_machine.proofs.rows.due_is_not_elapsed.Goals as goal

pub returns : goal.returns
returns c = row.due_is_not_elapsed

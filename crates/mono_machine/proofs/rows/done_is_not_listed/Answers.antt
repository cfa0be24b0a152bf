use Rattle.mono_machine.proofs.ExampleLemmas as row
use Rattle.mono_machine.proofs.rows.done_is_not_listed.Goals as goal

pub returns : goal.returns
returns c = row.done_is_not_listed

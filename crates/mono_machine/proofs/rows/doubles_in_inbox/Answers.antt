use Rattle.mono_machine.proofs.ExampleLemmas as row
use Rattle.mono_machine.proofs.rows.doubles_in_inbox.Goals as goal

pub returns : goal.returns
returns c = row.doubles_in_inbox

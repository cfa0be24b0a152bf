use Rattle.mono_machine.proofs.ExampleLemmas as row
use Rattle.mono_machine.proofs.rows.finishes_in_the_inbox.Goals as goal

pub returns : goal.returns
returns c = row.finishes_in_the_inbox

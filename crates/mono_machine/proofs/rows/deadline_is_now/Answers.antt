use Rattle.mono_machine.proofs.ExampleLemmas as row
use Rattle.mono_machine.proofs.rows.deadline_is_now.Goals as goal

pub returns : goal.returns
returns c = row.deadline_is_now

use Rattle.mono_machine.proofs.ExampleLemmas as row
use Rattle.mono_machine.proofs.rows.canceled_is_told_once.Goals as goal

pub returns : goal.returns
returns c = row.canceled_is_told_once

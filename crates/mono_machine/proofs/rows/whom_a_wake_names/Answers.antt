use Rattle.mono_machine.proofs.ExampleLemmas as row
use Rattle.mono_machine.proofs.rows.whom_a_wake_names.Goals as goal

pub returns : goal.returns
returns c = row.whom_a_wake_names

use Rattle.mono_machine.proofs.ExampleLemmas as row
use Rattle.mono_machine.proofs.rows.reset_of_a_fresh_sleep.Goals as goal

pub returns : goal.returns
returns c = row.reset_of_a_fresh_sleep

use Rattle.mono_machine.proofs.ExampleLemmas as row
use Rattle.mono_machine.proofs.rows.refusals_of_join.Goals as goal

pub returns : goal.returns
returns c = row.refusals_of_join

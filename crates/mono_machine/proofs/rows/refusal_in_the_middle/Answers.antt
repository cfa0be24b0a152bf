use Rattle.mono_machine.proofs.ExampleLemmas as row
use Rattle.mono_machine.proofs.rows.refusal_in_the_middle.Goals as goal

pub returns : goal.returns
returns c = row.refusal_in_the_middle

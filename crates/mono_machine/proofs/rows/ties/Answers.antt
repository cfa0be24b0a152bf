use Rattle.mono_machine.proofs.ExampleLemmas as row
use Rattle.mono_machine.proofs.rows.ties.Goals as goal

pub returns : goal.returns
returns c = row.ties

use Rattle.mono_machine.proofs.ExampleLemmas as row
use Rattle.mono_machine.proofs.rows.none_is_left_out.Goals as goal

pub returns : goal.returns
returns c = row.none_is_left_out

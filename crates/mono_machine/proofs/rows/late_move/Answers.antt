use Rattle.mono_machine.proofs.ExampleLemmas as row
use Rattle.mono_machine.proofs.rows.late_move.Goals as goal

pub returns : goal.returns
returns c = row.late_move

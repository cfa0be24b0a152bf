use Rattle.mono_machine.proofs.ExampleLemmas as row
use Rattle.mono_machine.proofs.rows.woken_in_own_turn.Goals as goal

pub returns : goal.returns
returns c = row.woken_in_own_turn

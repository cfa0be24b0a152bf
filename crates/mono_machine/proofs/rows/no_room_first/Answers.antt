use Rattle.mono_machine.proofs.ExampleLemmas as row
use Rattle.mono_machine.proofs.rows.no_room_first.Goals as goal

pub returns : goal.returns
returns c = row.no_room_first

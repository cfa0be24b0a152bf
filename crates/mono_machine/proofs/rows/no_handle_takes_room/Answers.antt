use Rattle.mono_machine.proofs.ExampleLemmas as row
use Rattle.mono_machine.proofs.rows.no_handle_takes_room.Goals as goal

pub returns : goal.returns
returns c = row.no_handle_takes_room

use Rattle.mono_machine.proofs.ExampleLemmas as row
use Rattle.mono_machine.proofs.rows.finished_takes_room.Goals as goal

pub returns : goal.returns
returns c = row.finished_takes_room

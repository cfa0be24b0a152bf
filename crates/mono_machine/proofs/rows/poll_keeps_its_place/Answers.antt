use Rattle.mono_machine.proofs.ExampleLemmas as row
use Rattle.mono_machine.proofs.rows.poll_keeps_its_place.Goals as goal

pub returns : goal.returns
returns c = row.poll_keeps_its_place

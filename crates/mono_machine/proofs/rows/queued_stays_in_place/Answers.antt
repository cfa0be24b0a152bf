use Rattle.mono_machine.proofs.ExampleLemmas as row
use Rattle.mono_machine.proofs.rows.queued_stays_in_place.Goals as goal

pub returns : goal.returns
returns c = row.queued_stays_in_place

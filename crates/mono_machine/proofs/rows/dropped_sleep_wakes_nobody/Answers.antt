use Rattle.mono_machine.proofs.ExampleLemmas as row
use Rattle.mono_machine.proofs.rows.dropped_sleep_wakes_nobody.Goals as goal

pub returns : goal.returns
returns c = row.dropped_sleep_wakes_nobody

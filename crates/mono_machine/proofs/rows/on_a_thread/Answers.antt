use Rattle.mono_machine.proofs.ExampleLemmas as row
use Rattle.mono_machine.proofs.rows.on_a_thread.Goals as goal

pub returns : goal.returns
returns c = row.on_a_thread

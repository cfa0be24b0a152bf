use Rattle.mono_machine.proofs.ExampleLemmas as row
use Rattle.mono_machine.proofs.rows.moved_earlier_keeps_waker.Goals as goal

pub returns : goal.returns
returns c = row.moved_earlier_keeps_waker

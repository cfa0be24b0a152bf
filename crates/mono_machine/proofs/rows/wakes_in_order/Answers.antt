use Rattle.mono_machine.proofs.ExampleLemmas as row
use Rattle.mono_machine.proofs.rows.wakes_in_order.Goals as goal

pub returns : goal.returns
returns c = row.wakes_in_order

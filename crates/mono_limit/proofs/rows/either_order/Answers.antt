use Rattle.mono_limit.proofs.ExampleLemmas as row
use Rattle.mono_limit.proofs.rows.either_order.Goals as goal

pub returns : goal.returns
returns c = row.either_order

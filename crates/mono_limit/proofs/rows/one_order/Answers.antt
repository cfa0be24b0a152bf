use Rattle.mono_limit.proofs.ExampleLemmas as row
use Rattle.mono_limit.proofs.rows.one_order.Goals as goal

pub returns : goal.returns
returns c = row.one_order

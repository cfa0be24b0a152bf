use Rattle.mono_stream.proofs.ExampleLemmas.{all, some, nothing_else}
use Rattle.mono_stream.proofs.rows.waits_between_two_items.Goals as goal

pub returns-clause-all : goal.returns-clause-all
returns-clause-all c = all

pub returns-clause-some : goal.returns-clause-some
returns-clause-some c = some

pub returns-clause-nothing_else : goal.returns-clause-nothing_else
returns-clause-nothing_else c = nothing_else

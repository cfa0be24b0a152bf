use Rattle.mono_machine.proofs.ExampleLemmas as row
use Rattle.mono_machine.proofs.rows.jobs_that_end.Goals as goal

pub returns : goal.returns
returns c = row.jobs_that_end

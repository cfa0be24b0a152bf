use Rattle.mono_machine.proofs.ExampleLemmas as row
use Rattle.mono_machine.proofs.rows.latest_waiter_of_job.Goals as goal

pub returns : goal.returns
returns c = row.latest_waiter_of_job

use Rattle.mono_machine.proofs.JobEndLemmas as law
use Rattle.mono_machine.proofs.laws.an_end_changes_its_job_alone.Goals as goal

pub returns : goal.returns
returns c old j output waiter how answer new kept step = law.ends_alone old j output waiter how kept answer new step

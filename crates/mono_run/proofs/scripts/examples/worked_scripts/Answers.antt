use Rattle.mono_run.proofs.ExampleLemmas.{a_sleep, child_tasks, a_job, no_sleep, not_its_turn, stray_end, a_sleep_is_written, no_kind, ends_in_a_kind, no_such_kind}
use Rattle.mono_run.proofs.scripts.examples.worked_scripts.Goals as goal

pub returns-clause-a_sleep : goal.returns-clause-a_sleep
returns-clause-a_sleep c = a_sleep

pub returns-clause-child_tasks : goal.returns-clause-child_tasks
returns-clause-child_tasks c = child_tasks

pub returns-clause-a_job : goal.returns-clause-a_job
returns-clause-a_job c = a_job

pub returns-clause-not_its_turn : goal.returns-clause-not_its_turn
returns-clause-not_its_turn c = not_its_turn

pub returns-clause-stray_end : goal.returns-clause-stray_end
returns-clause-stray_end c = stray_end

pub returns-clause-a_sleep_is_written : goal.returns-clause-a_sleep_is_written
returns-clause-a_sleep_is_written c = a_sleep_is_written

pub returns-clause-no_kind : goal.returns-clause-no_kind
returns-clause-no_kind c = no_kind

pub returns-clause-ends_in_a_kind : goal.returns-clause-ends_in_a_kind
returns-clause-ends_in_a_kind c = ends_in_a_kind

pub returns-clause-no_sleep : goal.returns-clause-no_sleep
returns-clause-no_sleep c = no_sleep

pub returns-clause-no_such_kind : goal.returns-clause-no_such_kind
returns-clause-no_such_kind c = no_such_kind

use Rattle.mono_machine.proofs.ValidStepLemmas.{start_is_valid}
use Rattle.mono_replay.proofs.executor.Exec.new.Goals as goal

pub returns-clause-start : goal.returns-clause-start
returns-clause-start c = record { matches = c.in_ok-parts.ensures.matches; valid = start_is_valid c.args.limits c.args.blocking }

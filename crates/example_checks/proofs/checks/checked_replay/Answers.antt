use Rattle.mono_machine.specs.Machine.{start_machine}
use Rattle.mono_trace.proofs.VerdictLemmas.{run_length, runs_are_passed}
use Rattle.example_checks.proofs.checks.checked_replay.Goals as goal

pub check-requires-clause-same_length : goal.check-requires-clause-same_length
check-requires-clause-same_length c = run_length c.args.events.now.items c.in_ok-reports.reports.items (start_machine c.args.limits c.args.blocking) c.in_ok-reports.ensures.0 c.in_ok-reports.ensures.1

pub returns : goal.returns
returns c =
    runs_are_passed c.args.events.now.items c.in_ok-reports.reports.items (start_machine c.args.limits c.args.blocking) c.in_ok-reports.ensures.0 c.in_ok-verdict.verdict c.in_ok-reports.ensures.1 c.in_ok-verdict.ensures

use Rattle.mono_machine.specs.Machine.{start_machine}
use Rattle.mono_replay.proofs.lists.replay.Goals as goal

pub returns : goal.returns
returns c = c.report_all.ensures (start_machine c.args.limits c.args.blocking) c.in_ok-exec.ensures.start

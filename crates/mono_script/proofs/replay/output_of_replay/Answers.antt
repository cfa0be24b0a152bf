use Rattle.mono_script.proofs.ReplayLemmas.{replay_output, replay_line}
use Rattle.mono_script.proofs.replay.output_of_replay.Goals as goal

pub returns-clause-output : goal.returns-clause-output
returns-clause-output c = replay_output c.args.limits c.args.blocking c.args.input.now c.in_ok-served.served c.output_of.result c.in_ok-served.ensures c.output_of.ensures.told

pub returns-clause-line : goal.returns-clause-line
returns-clause-line c = replay_line c.args.limits c.args.blocking c.args.input.now c.in_ok-served.served c.output_of.result c.in_ok-served.ensures c.output_of.ensures.told c.output_of.ensures.line

use Rattle.std.proofs.Common.{◌≡◌}
use Rattle.mono_run.specs.ScriptText.{IsFirstBad, Spells}
use Rattle.mono_script.specs.Meanings.{running}
use Rattle.mono_script.proofs.BadLineLemmas.{named, named_line, named_asks, ran_output}
use Rattle.mono_script.proofs.script_run.output_of_run.Goals as goal

pub returns-in-BadLine-clause-output : goal.returns-in-BadLine-clause-output
returns-in-BadLine-clause-output g c =
    let first : IsFirstBad c.args.input.now c.in-BadLine.n = rw c.in-BadLine.is at c.in_ok-n.ensures in
    named (running c.args.workers c.args.turns (g.C.Clock.readings c.args.clock)) c.bad_line.result c.args.input.now c.in-BadLine.n first c.bad_line.ensures.status c.bad_line.ensures.text

pub returns-in-BadLine-clause-line : goal.returns-in-BadLine-clause-line
returns-in-BadLine-clause-line g c =
    let first : IsFirstBad c.args.input.now c.in-BadLine.n = rw c.in-BadLine.is at c.in_ok-n.ensures in
    named_line (running c.args.workers c.args.turns (g.C.Clock.readings c.args.clock)) c.bad_line.result c.args.input.now c.in-BadLine.n first c.bad_line.ensures.status c.bad_line.ensures.line

pub returns-in-BadLine-clause-asks : goal.returns-in-BadLine-clause-asks
returns-in-BadLine-clause-asks g c =
    named_asks c.args.workers c.bad_line.result (g.P.Spawner.starts c.args.spawner.now) c.bad_line.ensures.status

pub returns-in_ok-run-in-Script-clause-output : goal.returns-in_ok-run-in-Script-clause-output
returns-in_ok-run-in-Script-clause-output g c =
    let spells : Spells c.args.input.now c.in-Script.script = rw c.in-Script.is at c.in_ok-n.ensures in
    ran_output c.args.workers c.args.turns (g.C.Clock.readings c.args.clock) c.args.input.now c.in-Script.script c.in_ok-run-in-Script.run'.end _ c.in_ok-run-in-Script.run'.text.items c.status_of.ensures spells c.in_ok-run-in-Script.ensures.driven

use Rattle.std.proofs.Common.{◌≡◌, []}
use Rattle.mono_rt.specs.Reaches.{reaches_on}
use Rattle.mono_run.specs.TaskPolls.{left_of, kind_of}
use Rattle.mono_run.proofs.TaskPollLemmas.{begins_lines, waits_again, next_line, stops_behind, stays_there, last_line, none_left}
use Rattle.mono_run.proofs.tasks.ScriptTaskTaskFutureScriptContext.poll.Goals as goal

pub lines-init : goal.lines-init
lines-init g c =
    begins_lines c.args.self.now c.args.cx.now c.end_sleep.new.self c.end_sleep.new.cx c.end_sleep.result c.if-not-end_sleep.false c.end_sleep.ensures.own c.end_sleep.ensures.over c.end_sleep.ensures.reached c.end_sleep.ensures.few c.end_sleep.ensures.goes

pub lines-preserved : goal.lines-preserved
lines-preserved g c =
    next_line c.args.self.now c.args.cx.now c.lines.self c.lines.cx c.in-Some.line c.step.new.self c.step.new.cx c.step.result c.lines.invariant c.in-Some.ensures.inside c.in-Some.ensures.line
    c.step.ensures.kinds c.step.ensures.kind c.step.ensures.fits c.in-Some.ensures.few c.step.ensures.few c.step.ensures.reached c.step.ensures.goes c.in-GoesOn.is c.step.ensures.on c.step.ensures.rests

pub returns-then-not-end_sleep-clause-polled : goal.returns-then-not-end_sleep-clause-polled
returns-then-not-end_sleep-clause-polled g c =
    waits_again c.args.self.now c.args.cx.now c.end_sleep.new.self c.end_sleep.new.cx c.end_sleep.result c.if-not-end_sleep.true c.end_sleep.ensures.own c.end_sleep.ensures.still c.end_sleep.ensures.few c.end_sleep.ensures.goes

pub returns-in-Stops-clause-polled : goal.returns-in-Stops-clause-polled
returns-in-Stops-clause-polled g c =
    stops_behind c.args.self.now c.args.cx.now c.lines.self c.lines.cx c.in-Some.line c.step.new.self c.step.new.cx c.step.result c.lines.invariant c.in-Some.ensures.inside c.in-Some.ensures.line
    c.step.ensures.kinds c.step.ensures.kind c.step.ensures.fits c.in-Some.ensures.few c.step.ensures.few c.step.ensures.reached c.step.ensures.goes c.in-Stops.is

pub returns-in-Stops-clause-reached : goal.returns-in-Stops-clause-reached
returns-in-Stops-clause-reached g c = reaches_on (λ n. n) c.args.cx.now c.lines.cx c.step.new.cx c.lines.invariant.reached c.step.ensures.reached

pub returns-in-Stays-clause-polled : goal.returns-in-Stays-clause-polled
returns-in-Stays-clause-polled g c =
    stays_there c.args.self.now c.args.cx.now c.lines.self c.lines.cx c.in-Some.line c.step.new.self c.step.new.cx c.step.result c.lines.invariant c.in-Some.ensures.inside c.in-Some.ensures.line
    c.step.ensures.kinds c.step.ensures.kind c.step.ensures.fits c.in-Some.ensures.few c.step.ensures.few c.step.ensures.reached c.step.ensures.goes c.in-Stays.is

pub returns-in-Stays-clause-reached : goal.returns-in-Stays-clause-reached
returns-in-Stays-clause-reached g c = reaches_on (λ n. n) c.args.cx.now c.lines.cx c.step.new.cx c.lines.invariant.reached c.step.ensures.reached

pub returns-clause-polled : goal.returns-clause-polled
returns-clause-polled g c =
    last_line c.args.self.now c.args.cx.now c.lines.self c.lines.cx c.output.result c.lines.invariant (none_left c.line.result (left_of (kind_of c.lines.self) c.lines.self.at ≡ []) c.in_default.not-Some c.line.ensures.none) c.output.ensures

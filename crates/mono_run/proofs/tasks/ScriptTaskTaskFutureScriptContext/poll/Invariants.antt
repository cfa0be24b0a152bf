use Rattle.std.proofs.Common.{◌-◌}
use Rattle.mono_run.specs.TaskStages.{body_len}
use Rattle.mono_run.proofs.TaskPollLemmas.{InLines}
use Rattle.mono_run.proofs.tasks.ScriptTaskTaskFutureScriptContext.poll.Given as goal

abbrev pub invariant-lines : goal.invariant-lines
invariant-lines g l = InLines l.fn.self l.fn.cx l.self l.cx

abbrev pub decreases-lines : goal.decreases-lines
decreases-lines g l = body_len l.self - l.self.at

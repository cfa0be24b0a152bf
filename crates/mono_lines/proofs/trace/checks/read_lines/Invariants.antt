use Rattle.std.proofs.Common.{length}
use Rattle.mono_trace.specs.Refinement.{machine_of}
use Rattle.mono_lines.specs.CheckProgress.{HasFewArms}
use Rattle.mono_lines.proofs.CheckLemmas.{Progress}
use Rattle.mono_lines.proofs.trace.checks.read_lines.Given as goal

abbrev pub invariant-lines : goal.invariant-lines
invariant-lines l =
    Progress l.fn.is_whole l.fn.limits l.fn.blocking l.input l.count l.checking.failed (machine_of l.checking.trace) l.order l.reader.rest.now × HasFewArms l.count (machine_of l.checking.trace)

abbrev pub decreases-lines : goal.decreases-lines
decreases-lines l = length l.reader.rest.now

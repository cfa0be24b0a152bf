use Rattle.std.proofs.Common.{◌≤◌, ◌*◌, drop}
use Rattle.mono_trace.specs.Refinement.{machine_of}
use Rattle.mono_trace.specs.Verdicts.{IsVerdict}
use Rattle.mono_trace.specs.declared.Verdict.{Verdict}
use Rattle.mono_trace.proofs.VerdictLemmas.{later}
use Rattle.mono_trace.proofs.checks.verdict_on.Given as goal

-- The verdict on all pairs, by the verdict on the remaining ones.
abbrev pub invariant-loop-i : goal.invariant-loop-i
invariant-loop-i l = ((machine_of l.trace).sleeps.arm_count ≤ l.i * 9223372036854775808)
    × ((v : Verdict) → IsVerdict (machine_of l.trace) (drop l.i l.events.items) (drop l.i l.reports.items) v → IsVerdict (machine_of l.fn.trace) l.events.items l.reports.items (later l.i v))

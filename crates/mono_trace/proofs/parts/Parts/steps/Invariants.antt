use Rattle.std.proofs.Common.{◌≡◌, ◌≤◌, ◌+◌, drop}
use Rattle.std.specs.Prelude.{◌↔◌}
use Rattle.mono_machine.specs.Turns.{replies_of, after_steps}
use Rattle.mono_trace.proofs.parts.Parts.steps.Given as goal

-- The expected list is that of the replies if and only if its rest is that of the replies to the remaining steps.
abbrev pub invariant-loop-i : goal.invariant-loop-i
invariant-loop-i l = (l.self.before ≡ l.fn.self.before)
    × (l.self.now.sleeps.arm_count ≤ l.fn.self.now.sleeps.arm_count + l.i)
    × (after_steps l.me (drop l.i l.steps) l.self.now ≡ after_steps l.me l.steps l.fn.self.now)
    × ((l.told ≡ replies_of l.me l.steps l.fn.self.now) ↔ (drop l.i l.told ≡ replies_of l.me (drop l.i l.steps) l.self.now))

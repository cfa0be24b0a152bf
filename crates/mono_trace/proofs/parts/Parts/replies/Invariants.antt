use Rattle.std.proofs.Common.{◌≡◌, ◌≤◌, ◌+◌, ◌++◌, drop}
use Rattle.mono_machine.specs.Turns.{replies_of, after_steps}
use Rattle.mono_trace.proofs.parts.Parts.replies.Given as goal

-- the replies so far, and those to the steps that are left
abbrev pub invariant-steps : goal.invariant-steps
invariant-steps l = (l.self.before ≡ l.fn.self.before)
    × (l.self.now.sleeps.arm_count ≤ l.fn.self.now.sleeps.arm_count + l.i)
    × (after_steps l.me (drop l.i l.steps) l.self.now ≡ after_steps l.me l.steps l.fn.self.now)
    × (l.replies ++ replies_of l.me (drop l.i l.steps) l.self.now ≡ replies_of l.me l.steps l.fn.self.now)

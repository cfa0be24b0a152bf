use Rattle.std.proofs.Common.{◌≡◌, ◌≤◌, ◌+◌, ◌++◌, length, drop}
use Rattle.std.specs.Prelude.{vec_len, vec_capacity}
use Rattle.mono_rt.specs.Drains.{remotes, listed}
use Rattle.mono_rt.proofs.parts.drains.Parts+O+Blockings+P.tell_remotes.Given as goal

-- after the remaining tasks all are recorded, and there is room for these
abbrev pub invariant-loop-t : goal.invariant-loop-t
invariant-loop-t g l = (l.journal.is_full ≡ l.fn.journal.is_full)
    × (l.journal.history.entries ++ remotes l.fn.self.tasks.tasks (drop l.t-index l.taken) ≡ l.fn.journal.history.entries ++ remotes l.fn.self.tasks.tasks l.taken)
    × (l.into.items ++ listed l.fn.self.tasks.tasks (drop l.t-index l.taken) ≡ l.fn.into.items ++ listed l.fn.self.tasks.tasks l.taken)
    × (l.t-index ≤ length l.taken)
    × (length l.journal.entries.items + (length l.taken + 1) + l.journal.entries.held ≤ l.journal.entries.capacity + l.t-index)
    × (vec_len l.into + length l.taken ≤ vec_capacity l.into + l.t-index)
    × (l.journal.entries.held ≡ l.fn.journal.entries.held)

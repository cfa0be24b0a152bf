use Rattle.std.proofs.Common.{◌≡◌, ◌-◌, ℕ, drop, length}
use Rattle.std.specs.Prelude.{◌&&◌, not}
use Rattle.mono_model.specs.Inbox.{is_waiting}
use Rattle.mono_inbox.specs.State.{is_known}
use Rattle.mono_inbox.proofs.inbox.retire_all_of.Given as goal

-- once those that are left are forgotten, all are
abbrev pub invariant-loop-at : goal.invariant-loop-at
invariant-loop-at l = ((t : ℕ) → (not (is_waiting (drop l.at l.tasks) t) && is_known l.state t) ≡ (not (is_waiting l.tasks t) && is_known l.fn.state t))
    × (l.state.waiting ≡ l.fn.state.waiting)

abbrev pub decreases-loop-at : goal.decreases-loop-at
decreases-loop-at l = length l.tasks - l.at

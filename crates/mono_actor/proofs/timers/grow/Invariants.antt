use Rattle.std.proofs.Common.{◌≡◌, ◌≤◌, ◌+◌, ◌-◌, ℕ, length}
use Rattle.mono_actor.specs.Keys.{number_in}
use Rattle.mono_actor.proofs.timers.grow.Given as goal

-- the numbers that were there stay
abbrev pub invariant-loop-numbers : goal.invariant-loop-numbers
invariant-loop-numbers l = record {
  longer : length l.fn.numbers.items ≤ length l.numbers.items;
  kept : (other : ℕ) → number_in l.numbers.items other ≡ number_in l.fn.numbers.items other;
}

abbrev pub decreases-loop-numbers : goal.decreases-loop-numbers
decreases-loop-numbers l = l.key + 1 - length l.numbers.items
